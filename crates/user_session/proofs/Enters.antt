-- A turn at a supervisor entry that does what the row says is a turn of the user.
use Rattle.std.proofs.Common.{◌≡◌, ◌∙◌, ℕ, Bool, true, false, not, List, Option, None, Some, refl, sym, ap, subst}
use Rattle.std.specs.Prelude.{slice_get, Ok, Err, IfOk, OnErr, IsErrOf}
use Rattle.std.specs.Result.{IsErrAnd}
use Rattle.std.specs.declared.result.Result.{Result}
use Rattle.time_sharing.specs.Machine.{Line}
use Rattle.user_model.specs.declared.Command.{Command}
use Rattle.user_model.specs.Requests.{command_of}
use Rattle.machine_model.specs.Machine.{step_of}
use Rattle.machine_model.specs.Step as machine
use Rattle.machine_model.specs.Step.{entry}
use Rattle.user_model.specs.Programs.{step_asks, at_break, at_break_in}
use Rattle.program_model.specs.Stops.{Stops}
use Rattle.program_model.specs.declared.Call.{Call}
use Rattle.program_model.specs.declared.EntryFault.{EntryFault}
use Rattle.program_model.specs.Calls.{call_of}
use Rattle.user_model.specs.Session.{works_in, is_none, next_of, AtCommand}
use Rattle.time_sharing.specs.Machine.{CommonOp, Reply}
use Rattle.user_model.specs.Answers.{DidEntry, EntryReplied, CommandReplied, marked}
use Rattle.user_model.specs.User.{User, in_store}
use Rattle.user_session.specs.declared.turn.Step.{Step}
use Rattle.user_model.proofs.RowTurns.{row_turn, shut_marked, entry_waits, entry_asked, entry_replied_turn, command_turn, command_asked, command_replied_turn}
use Rattle.user_session.specs.declared.turn.Turn.{Turn}
use Rattle.user_session.specs.declared.turn.Turn.TheVariants.{Waits, Done, Asks}
use Rattle.user_model.specs.Inner.{Stored}
use Rattle.user_session.specs.declared.turn.Instructed.{Instructed}
use Rattle.user_session.specs.declared.turn.Instructed.TheVariants as instructed
use Rattle.user_session.specs.Turns.{IsTurn, IsReplied, Runs, Enters, Obeys, Instructs, IsAtEntry}
use Rattle.ctss_types.specs.declared.file.FileBody.{FileBody}
use Rattle.ctss_types.specs.declared.file.Refusal.{Refusal}
use Rattle.ctss_types.specs.declared.fault.StepFault.{StepFault}
use Rattle.ctss_types.specs.declared.fault.StepFault.TheVariants.{Disk}
use Rattle.file_map.specs.Known.{known, known_of}
use Rattle.user_session.specs.Stores.{stored, Over, OfSome}
use Rattle.user_session.proofs.Files.{known_done}

pub entered : (turn : Turn) (t : ℕ) (p q : User) (c d : Stored) (w : ℕ) (call : Result Call EntryFault) → works_in p.inner.state ≡ true → p.inner.fill ≡ None → at_break p.inner ≡ false → step_of p.inner.regs c.core ≡ entry w → p.on ≡ true → call_of p.inner.regs c.core w ≡ call →
    Enters call turn t p q c d → Runs turn t p q c d
entered Waits t p q c d w call h none at is on what row = record { cannot = entry_waits p c w call h none at is what row.reads row.none; same = row.same; store = row.store }
entered (Done s) t p q c d w call h none at is on what row = record { gives = entry w; is = is; did = subst (λ (r : Result Call EntryFault). DidEntry r s.ending s.clock t p q c d) (sym what) row }
entered (Asks op) t p q c d w call h none at is on what row =
    let asked = entry_asked p c w call op h none at is what on row.makes in
    record { can = asked.0; makes = asked.1; same = row.same; store = row.store }

-- a step of a program, of which an open debugger knows then
pub ran : (s : Step) (t : ℕ) (p q : User) (c d : Stored) → works_in p.inner.state ≡ true → p.inner.fill ≡ None → at_break p.inner ≡ false → p.on ≡ true → Runs (Done s) t p q c d → IsTurn (Done s) t p (marked q) c d
ran s t p q c d h none at on run = row_turn t p q c d run.gives s.ending s.clock h none at run.is on run.did

-- without a debugger there is no break
pub shut_is : (o : Option Stops) → not (is_none o) ≡ false → o ≡ None
shut_is None h = refl
shut_is (Some s) h = cc

pub unbroken : (p : User) → p.inner.debugger ≡ None → at_break p.inner ≡ false
unbroken p shut = ap (λ (o : Option Stops). at_break_in o p.inner.regs.ic) shut

-- and none that knows of a step
pub ran_alone : (turn : Turn) (t : ℕ) (p q : User) (c d : Stored) → works_in p.inner.state ≡ true → p.inner.fill ≡ None → p.inner.debugger ≡ None → p.on ≡ true → Runs turn t p q c d → IsTurn turn t p q c d
ran_alone Waits t p q c d h none shut on run = run
ran_alone (Done s) t p q c d h none shut on run =
    subst (λ (u : User). IsTurn (Done s) t p u c d) (shut_marked t p q c d run.gives s.ending s.clock h shut run.did) (ran s t p q c d h none (unbroken p shut) on run)
ran_alone (Asks op) t p q c d h none shut on run = run

-- an instruction that comes to an entry, and one that is a step
pub at_entry : (told : Instructed) (name t : ℕ) (p q : User) (c d : Stored) → told ≡ instructed.Entry name → Instructs told t p q c d → IsAtEntry name p q c d
at_entry told name t p q c d is h = subst (λ (x : Instructed). Instructs x t p q c d) is h

pub at_step : (told : Instructed) (s : Step) (t : ℕ) (p q : User) (c d : Stored) → told ≡ instructed.Done s → Instructs told t p q c d → Runs (Done s) t p q c d
at_step told s t p q c d is h = subst (λ (x : Instructed). Instructs x t p q c d) is h

-- a command
pub obeyed : (turn : Turn) (t : ℕ) (p q : User) (c d : Stored) (l : Line) (command : Command) → next_of (in_store c p).inner ≡ AtCommand → slice_get p.unread 0 ≡ Some l → command_of l ≡ command → p.on ≡ true →
    Obeys l command turn t p q c d → IsTurn turn t p q c d
obeyed Waits t p q c d l command next first what on row = absurd row
obeyed (Done s) t p q c d l command next first what on row = command_turn t p q c d l command s.ending s.clock next first what on row
obeyed (Asks op) t p q c d l command next first what on row =
    let asked = command_asked p c l command op next first what on row.makes in
    record { can = asked.0; makes = asked.1; same = row.same; store = row.store }

-- steps with a reply
pub entry_took : (t : ℕ) (r : Reply) (p q : User) (c d : Stored) (w : ℕ) (call : Result Call EntryFault) (op : CommonOp) (s : Step) → works_in p.inner.state ≡ true → p.inner.fill ≡ None → at_break p.inner ≡ false → step_of p.inner.regs c.core ≡ entry w → call_of p.inner.regs c.core w ≡ call → p.on ≡ true →
    EntryReplied call op r s.ending s.clock p q c d → IsReplied s op r t p (marked q) c d
entry_took t r p q c d w call op s h none at is what on said = entry_replied_turn t r p q c d w call op s.ending s.clock h none at is what on said

pub command_took : (t : ℕ) (r : Reply) (p q : User) (c d : Stored) (l : Line) (command : Command) (op : CommonOp) (s : Step) → next_of (in_store c p).inner ≡ AtCommand → slice_get p.unread 0 ≡ Some l → command_of l ≡ command → p.on ≡ true →
    CommandReplied l command op r s.ending s.clock t p q c d → IsReplied s op r t p q c d
command_took t r p q c d l command op s next first what on said = command_replied_turn t r p q c d l command op s.ending s.clock next first what on said

-- what holds of an answer that is Ok
pub ok_map : {A E : Type 0} (P Q : A → Type 0) (result : Result A E) → ((a : A) → P a → Q a) → IfOk result P → IfOk result Q
ok_map P Q (Ok a) f h = f a h
ok_map P Q (Err e) f h = h

-- what holds holds where an answer is an error
pub on_err : {A E : Type 0} (result : Result A E) (P : Type 0) → P → OnErr result P
on_err (Ok a) P h = tt
on_err (Err e) P h = h

-- over some files
pub over_map : (tells : Bool) (old new : Stored) (R S : Stored → Stored → Type 0) → ((had has : List FileBody) → R (stored old.core had) (stored new.core has) → S (stored old.core had) (stored new.core has)) → Over tells old new R → Over tells old new S
over_map tells old new R S f h = record { had = h.had; has = h.has; was = h.was; now = h.now; does = f h.had h.has h.does }

-- over the files as they are known
pub over_these : (tells : Bool) (old new : Stored) (R : Stored → Stored → Type 0) → known tells old.files ≡ old.files → known tells new.files ≡ new.files → R old new → Over tells old new R
over_these tells old new R was now h = record { had = old.files; has = new.files; was = was; now = now; does = h }

-- a change that is done, and one that is refused
pub over_done : (tells : Bool) (c d : List ℕ) (old new : List FileBody) (told : Result (List FileBody) Refusal) (R : Stored → Stored → Type 0) → known tells old ≡ old → known_of tells told ≡ Ok new
    → ((has : List FileBody) → told ≡ Ok has → R (stored c old) (stored d has)) → Over tells (stored c old) (stored d new) R
over_done tells c d old new told R was is h = let k = known_done tells told new is in record { had = old; has = k.0; was = was; now = k.2; does = h k.0 k.1 }

pub over_refused : (tells : Bool) (c d : List ℕ) (old new : List FileBody) (R : Stored → Stored → Type 0) → known tells old ≡ old → new ≡ old → R (stored c old) (stored d old) → Over tells (stored c old) (stored d new) R
over_refused tells c d old new R was same h = record { had = old; has = old; was = was; now = was ∙ sym same; does = h }

-- a call that only reads
pub over_read : (tells : Bool) (c d : List ℕ) (old new : List FileBody) (R : Stored → Stored → Type 0) → new ≡ old → OfSome tells old (λ fs. R (stored c fs) (stored d fs)) → Over tells (stored c old) (stored d new) R
over_read tells c d old new R same h = record { had = h.0; has = h.0; was = h.1; now = h.1 ∙ sym same; does = h.2 }

-- a call of which it is known over any files what it does
pub over_all : (tells : Bool) (old new : Stored) (R : Stored → Stored → Type 0) → known tells old.files ≡ old.files → OfSome tells new.files (λ has. R (stored old.core old.files) (stored new.core has)) → Over tells old new R
over_all tells old new R was h = record { had = old.files; has = h.0; was = was; now = h.1; does = h.2 }

-- an error that came of something else than the disk
pub no_disk : {A : Type 0} (result : Result A StepFault) (Q : StepFault → Type 0) → (Q Disk → ⊥) → IsErrAnd result Q → IsErrOf result Disk → ⊥
no_disk (Ok a) Q other h e = cc
no_disk (Err f) Q other h e = let is : f ≡ Disk = cc in other (subst Q is h)

-- whether the next step of a program is a call that is to make a common operation hangs on no file
pub asks_anywhere : (s : machine.Step) (core : List ℕ) (fs gs : List FileBody) (p : User) → step_asks s (in_store (stored core fs) p).inner ≡ step_asks s (in_store (stored core gs) p).inner
asks_anywhere (machine.went r c) core fs gs p = refl
asks_anywhere (machine.halt r c) core fs gs p = refl
asks_anywhere (machine.entry w) core fs gs p = refl
asks_anywhere machine.illegal core fs gs p = refl
asks_anywhere (machine.outside a) core fs gs p = refl
