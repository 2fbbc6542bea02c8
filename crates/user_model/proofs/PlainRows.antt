-- What a program's step does doesn't depend on the debugger, but for the numbers of R n.
use Rattle.std.proofs.Common.{◌≡◌, ℕ, false, List, [], ◌∷◌, ◌++◌, Option, None, Ok, Err, refl, sym, ap, subst, inl, inr}
use Rattle.std.specs.Prelude.{codes}
use Rattle.std.specs.declared.result.Result.{Result}
use Rattle.time_sharing.specs.Machine.{Line, Reply}
use Rattle.time_sharing.specs.Rows.{Outcome, is_logout}
use Rattle.ctss_types.specs.declared.file.FileBody.{FileBody}
use Rattle.ctss_types.specs.declared.file.Refusal.{Refusal}
use Rattle.machine_model.specs.Step.{Step, went, halt, entry, illegal, outside}
use Rattle.program_model.specs.declared.Call.{Call}
use Rattle.program_model.specs.declared.Call.TheVariants.{GetTime, Common}
use Rattle.program_model.specs.declared.EntryFault.{EntryFault}
use Rattle.program_model.specs.declared.EntryFault.TheVariants.{NoSuchEntry, Outside}
use Rattle.program_model.specs.declared.ProgramState.TheVariants.{Working}
use Rattle.program_model.specs.Calls.{call_of}
use Rattle.user_model.specs.Inner.{Inner}
use Rattle.user_model.specs.Texts.{ready_text, stop_text}
use Rattle.user_model.specs.OwnFiles.{changed_files}
use Rattle.user_model.specs.Programs.{CallEffect, RepliesChange, WritesLine, TakesSize, EndsProgram, StopsProgram, call_effect_row, call_effect, reply_told, goes, stops, replied, stepped_in, with_step, step_row, step_asks, step_replied, reads_line, asks_time, entry_row, entry_replied, call_row, call_replied, common_arguments, common_buffer, files_changed}
use Rattle.user_model.specs.Plain.{AreSameLines}

-- a program that works, without the debugger
abbrev pub quiet : Inner → Inner
quiet i = record i { state = Working; debugger = None }

-- the first outcome is under a debugger, and the other is without it
pub record AreSame (o a : Outcome Inner) : Type 0 where
  pub inner : quiet a.inner ≡ quiet o.inner
  pub alone : a.inner.debugger ≡ None
  pub written : AreSameLines a.written o.written
  pub stays : is_logout o.ending ≡ false
  pub other : is_logout a.ending ≡ false
  pub front : a.front ≡ []

-- after the program's own step
pub same_marked : (o a : Outcome Inner) → AreSame o a → AreSame (with_step o) (with_step a)
same_marked o a h = record { inner = h.inner; alone = ap stepped_in h.alone; written = h.written; stays = h.stays; other = h.other; front = h.front }

same_ready : (lines : List Line) (m n : ℕ) → AreSameLines (lines ++ ready_text m ∷ []) (lines ++ ready_text n ∷ [])
same_ready [] m n = (inr (m, n, refl, refl), tt)
same_ready (l ∷ ls) m n = (inl refl, same_ready ls m n)

same_goes : (i j : Inner) → quiet j ≡ quiet i → j.debugger ≡ None → AreSame (goes i) (goes j)
same_goes i j same none = record { inner = same; alone = none; written = tt; stays = refl; other = refl; front = refl }

same_stops : (lines : List Line) (i j : Inner) (m n : ℕ) → quiet j ≡ quiet i → j.debugger ≡ None → AreSame (stops lines i n) (stops lines j m)
same_stops lines i j m n same none = record { inner = same; alone = none; written = same_ready lines m n; stays = refl; other = refl; front = refl }

same_changed : (i : Inner) (arguments : ℕ) (told : Result (List FileBody) Refusal) → AreSame (files_changed i arguments told) (files_changed (quiet i) arguments told)
same_changed i arguments (Ok files) = same_goes _ _ refl refl
same_changed i arguments (Err r) = same_goes _ _ refl refl

-- whatever an entry comes to
same_effect : (x : CallEffect) (i : Inner) (m n : ℕ) → AreSame (call_effect_row x i n) (call_effect_row x (quiet i) m)
same_effect (RepliesChange arguments change) i m n = same_changed i arguments (changed_files change i.account.tracks i.files)
same_effect (WritesLine line) i m n = record { inner = refl; alone = refl; written = (inl refl, tt); stays = refl; other = refl; front = refl }
same_effect (TakesSize blocks) i m n = record { inner = refl; alone = refl; written = tt; stays = refl; other = refl; front = refl }
same_effect EndsProgram i m n = record { inner = refl; alone = refl; written = (inr (m, n, refl, refl), tt); stays = refl; other = refl; front = refl }
same_effect StopsProgram i m n = same_stops [] (replied i 0 0 None) (replied (quiet i) 0 0 None) m n refl refl
same_effect _ i m n = same_goes _ _ refl refl

-- it comes to the same
same_call : (c : Call) (i : Inner) (l : Option Line) (t : ℕ) → call_effect c (quiet i) l t ≡ call_effect c i l t
same_call GetTime i l t = refl
same_call _ i l t = refl

same_entry : (call : Result Call EntryFault) (i : Inner) (l : Option Line) (m n t : ℕ) → AreSame (entry_row call i l n t) (entry_row call (quiet i) l m t)
same_entry (Ok call) i l m n t =
    subst (λ (x : CallEffect). AreSame (call_row call i l n t) (call_effect_row x (quiet i) m)) (sym (same_call call i l t)) (same_effect (call_effect call i l t) i m n)
same_entry (Err NoSuchEntry) i l m n t = same_stops (stop_text (codes "NO ENTRY") i.regs.ic ∷ []) i (quiet i) m n refl refl
same_entry (Err (Outside a)) i l m n t = same_stops (stop_text (codes "PROTECTION") i.regs.ic ∷ []) i (quiet i) m n refl refl

pub same_step : (s : Step) (i : Inner) (l : Option Line) (m n t : ℕ) → AreSame (step_row s i l n t) (step_row s (quiet i) l m t)
same_step (went r core) i l m n t = same_goes _ _ refl refl
same_step (halt r core) i l m n t = same_stops (stop_text (codes "HALT") i.regs.ic ∷ []) (record i { regs = r; core = core }) (record (quiet i) { regs = r; core = core }) m n refl refl
same_step (entry w) i l m n t = same_entry (call_of i.regs i.core w) i l m n t
same_step illegal i l m n t = same_stops (stop_text (codes "ILLEGAL") i.regs.ic ∷ []) i (quiet i) m n refl refl
same_step (outside a) i l m n t = same_stops (stop_text (codes "PROTECTION") i.regs.ic ∷ []) i (quiet i) m n refl refl

-- with a reply

same_call_replied : (c : Call) (i : Inner) (r : Reply) → AreSame (call_replied c i r) (call_replied c (quiet i) r)
same_call_replied (Common call) i r = same_effect (reply_told (common_arguments call) (common_buffer call) r) i 0 0
same_call_replied _ i r = same_goes _ _ refl refl

same_entry_replied : (call : Result Call EntryFault) (i : Inner) (r : Reply) → AreSame (entry_replied call i r) (entry_replied call (quiet i) r)
same_entry_replied (Ok call) i r = same_call_replied call i r
same_entry_replied (Err fault) i r = same_goes _ _ refl refl

pub same_replied : (s : Step) (i : Inner) (r : Reply) → AreSame (step_replied s i r) (step_replied s (quiet i) r)
same_replied (went regs core) i r = same_goes _ _ refl refl
same_replied (halt regs core) i r = same_goes _ _ refl refl
same_replied (entry w) i r = same_entry_replied (call_of i.regs i.core w) i r
same_replied illegal i r = same_goes _ _ refl refl
same_replied (outside a) i r = same_goes _ _ refl refl

-- what a step asks doesn't depend on it either

pub same_asks : (s : Step) (i : Inner) → step_asks s (quiet i) ≡ step_asks s i
same_asks (went r core) i = refl
same_asks (halt r core) i = refl
same_asks (entry w) i = refl
same_asks illegal i = refl
same_asks (outside a) i = refl

pub same_reads : (s : Step) (i : Inner) → reads_line s (quiet i) ≡ reads_line s i
same_reads (went r core) i = refl
same_reads (halt r core) i = refl
same_reads (entry w) i = refl
same_reads illegal i = refl
same_reads (outside a) i = refl

pub same_times : (s : Step) (i : Inner) → asks_time s (quiet i) ≡ asks_time s i
same_times (went r core) i = refl
same_times (halt r core) i = refl
same_times (entry w) i = refl
same_times illegal i = refl
same_times (outside a) i = refl
