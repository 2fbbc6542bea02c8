-- proof: what a turn of a user leaves, with the words of its program and its files before and after.
use Rattle.std.specs.Prelude.{◌≡◌, ℕ, true, false, List, Some, None, slice_get, IfOk}
use Rattle.std.specs.declared.result.Result.{Result}
use Rattle.program_model.specs.declared.Call.{Call}
use Rattle.program_model.specs.declared.EntryFault.{EntryFault}
use Rattle.ctss_types.specs.declared.file.CommonOp.{CommonOp}
use Rattle.ctss_types.specs.declared.file.Reply.{Reply}
use Rattle.ctss_types.specs.declared.file.Reply.TheVariants as reply
use Rattle.machine_model.specs.Machine.{step_of}
use Rattle.machine_model.specs.Step as machine
use Rattle.machine_model.specs.Step.{entry}
use Rattle.time_sharing.specs.Machine.{Line}
use Rattle.user_model.specs.declared.Command.{Command}
use Rattle.user_model.specs.Commands.{command_asks}
use Rattle.user_model.specs.Programs.{is_read, entry_asks}
use Rattle.user_model.specs.Answers.{DidStep, DidEntry, DidCommand, DidDebug}
use Rattle.user_model.specs.Inner.{Stored}
use Rattle.user_model.specs.User.{User, can_step, asks_common, in_store, IsStep}
use Rattle.ctss_types.specs.declared.file.FileBody.{FileBody}
use Rattle.program_model.specs.declared.DebugLine.{DebugLine}
use Rattle.program_model.specs.Stops.{Stops}
use Rattle.user_session.specs.Stores.{stored}
use Rattle.user_session.specs.declared.turn.Step.{Step}
use Rattle.user_session.specs.declared.turn.Instructed.{Instructed}
use Rattle.user_session.specs.declared.turn.Instructed.TheVariants as instructed
use Rattle.user_session.specs.declared.turn.Turn.{Turn}
use Rattle.user_session.specs.declared.turn.Turn.TheVariants.{Waits, Done, Asks}

-- no step can be done, and nothing has changed
pub record IsWait (old new : User) (before after : Stored) : Type 0 where
  pub cannot : can_step (in_store before old) ≡ false
  pub same : new ≡ old
  pub store : after ≡ before

-- a step could be done that makes this common operation, and nothing has changed yet
pub record IsAsked (op : CommonOp) (old new : User) (before after : Stored) : Type 0 where
  pub can : can_step (in_store before old) ≡ true
  pub makes : asks_common (in_store before old) ≡ Some op
  pub same : new ≡ old
  pub store : after ≡ before

abbrev pub IsTurn : Turn → ℕ → (old new : User) → (before after : Stored) → Type 0
IsTurn Waits now old new before after = IsWait old new before after
IsTurn (Done s) now old new before after = IsStep s.ending s.clock None now reply.Done old new before after
IsTurn (Asks op) now old new before after = IsAsked op old new before after

-- a supervisor entry that is still to be done
pub record IsAtEntry (name : ℕ) (old new : User) (before after : Stored) : Type 0 where
  pub at : step_of old.inner.regs before.core ≡ entry name
  pub same : new ≡ old
  pub store : after ≡ before

-- what the machine's step leaves, of which an open debugger doesn't know yet
pub record StepsOn (s : Step) (now : ℕ) (old new : User) (before after : Stored) : Type 0 where
  pub gives : machine.Step
  pub is : step_of old.inner.regs before.core ≡ gives
  pub did : DidStep gives s.ending s.clock now old new before after

-- what a turn of a program leaves, of which an open debugger doesn't know yet
abbrev pub Runs : Turn → ℕ → (old new : User) → (before after : Stored) → Type 0
Runs Waits now old new before after = IsWait old new before after
Runs (Done s) now old new before after = StepsOn s now old new before after
Runs (Asks op) now old new before after = IsAsked op old new before after

-- what an instruction leaves
abbrev pub Instructs : Instructed → ℕ → (old new : User) → (before after : Stored) → Type 0
Instructs (instructed.Done s) now old new before after = StepsOn s now old new before after
Instructs (instructed.Entry name) now old new before after = IsAtEntry name old new before after

-- a call that reads a line waits where none is unread
pub record EntryWaits (call : Result Call EntryFault) (old new : User) (before after : Stored) : Type 0 where
  pub reads : is_read call ≡ true
  pub none : slice_get old.unread 0 ≡ None
  pub same : new ≡ old
  pub store : after ≡ before

-- a call that is to make this common operation
pub record EntryAsks (call : Result Call EntryFault) (op : CommonOp) (old new : User) (before after : Stored) : Type 0 where
  pub makes : entry_asks call before.core ≡ Some op
  pub same : new ≡ old
  pub store : after ≡ before

-- what a turn at this supervisor entry leaves: what the row of the entry says
abbrev pub Enters : Result Call EntryFault → Turn → ℕ → (old new : User) → (before after : Stored) → Type 0
Enters call Waits now old new before after = EntryWaits call old new before after
Enters call (Done s) now old new before after = DidEntry call s.ending s.clock now old new before after
Enters call (Asks op) now old new before after = EntryAsks call op old new before after

-- a command that is to make this common operation
pub record CommandAsks (command : Command) (op : CommonOp) (old new : User) (before after : Stored) : Type 0 where
  pub makes : command_asks command (in_store before old).inner ≡ Some op
  pub same : new ≡ old
  pub store : after ≡ before

-- what a turn with this command leaves
abbrev pub Obeys : Line → Command → Turn → ℕ → (old new : User) → (before after : Stored) → Type 0
Obeys l command Waits now old new before after = ⊥
Obeys l command (Done s) now old new before after = DidCommand l command s.ending s.clock now old new before after
Obeys l command (Asks op) now old new before after = CommandAsks command op old new before after

-- a step that made this common operation, with this reply
abbrev pub IsReplied : Step → CommonOp → Reply → ℕ → (old new : User) → (before after : Stored) → Type 0
IsReplied s op r now old new before after = IsStep s.ending s.clock (Some op) now r old new before after

-- what a line asks of an open debugger is done, whichever files there are
abbrev pub Debugs : {E : Type 0} → Line → DebugLine → Result Step E → (old new : User) → (before after : List ℕ) → Type 0
Debugs l asked result old new before after =
    (s : Stops) (fs : List FileBody) → old.inner.debugger ≡ Some s
    → IfOk result (λ d. DidDebug l s asked d.ending d.clock old new (stored before fs) (stored after fs))
