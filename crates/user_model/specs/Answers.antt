-- proof: what a row says of a user whose words and files lie apart: one statement for every supervisor entry and every command.
use Rattle.std.specs.Prelude.{◌≡◌, ℕ, suc, ◌+◌, ◌-◌, Bool, true, false, not, ◌&&◌, ◌||◌, if◌then◌else◌, List, [], ◌∷◌, ◌++◌, length, drop, Option, Some, None}
use Rattle.std.specs.declared.result.Result.{Result}
use Rattle.time_sharing.specs.Machine.{Line, Item, Ending, CommonOp, Reply}
use Rattle.time_sharing.specs.Rows.{Outcome, some_line, is_logout, in_line, one_less, out_all, first_line}
use Rattle.ctss_types.specs.Names.{NamePair}
use Rattle.program_model.specs.declared.Call.{Call}
use Rattle.program_model.specs.declared.EntryFault.{EntryFault}
use Rattle.user_model.specs.Inner.{Inner, Stored}
use Rattle.machine_model.specs.Step.{Step}
use Rattle.program_model.specs.declared.Fill.{Fill}
use Rattle.user_model.specs.Programs.{step_row, reads_line, asks_time, step_asks, entry_row, entry_asks, entry_replied, is_read, is_clock, goes, breaks, has_stepped, filled_program}
use Rattle.program_model.specs.declared.DebugLine.{DebugLine}
use Rattle.program_model.specs.Stops.{Stops}
use Rattle.user_model.specs.Debugger.{debug_row, stores}
use Rattle.user_model.specs.declared.Command.{Command}
use Rattle.user_model.specs.Commands.{command_row, command_asks, command_replied, input_row}
use Rattle.user_model.specs.Session.{is_none}
use Rattle.user_model.specs.User.{User, in_store, core_after, LeavesWords}

-- how many unread lines are taken
abbrev pub line_count : Option Line → ℕ
line_count None = 0
line_count (Some l) = 1

-- items behind others
abbrev pub noted : List Item → List Item → List Item
noted xs [] = xs
noted xs (y ∷ ys) = xs ++ y ∷ ys

-- so many lines of command files behind these
abbrev pub fed_with : List Line → ℕ → ℕ
fed_with [] k = k
fed_with (l ∷ ls) k = length (l ∷ ls) + k

-- What a row leaves of an open session, in the form that code gives it.
abbrev pub by_row : Bool → Option Line → Outcome Inner → User → User
by_row is_command line o p =
    record p {
      inner = record o.inner { core = p.inner.core; files = p.inner.files };
      on = if is_logout o.ending then false else p.on;
      unread = if is_logout o.ending then [] else o.front ++ drop (line_count line) p.unread;
      fed = if is_logout o.ending then 0 else fed_with o.front (one_less line p.fed);
      transcript = noted p.transcript (in_line line ++ out_all o.written);
      own = suc p.own;
      own_at_command = if is_command then p.own else p.own_at_command;
    }

-- A step could be done, without a common operation, and did what a row says: it took this line, ended so, took the clock or not, and if
-- it did not go on it left the words as they were.
abbrev pub IsRow : (can is_command : Bool) → Option Line → Outcome Inner → (asks : Bool) → Ending → (asked : Bool) → (old new : User) → (before after : Stored) → Type 0
IsRow can is_command line o asks e asked old new before after =
    (can ≡ true) × (new ≡ by_row is_command line o old) × (core_after e o.inner.blocks after.core ≡ o.inner.core) × (after.files ≡ o.inner.files) × (e ≡ o.ending) × (asked ≡ asks)
    × LeavesWords e before.core after.core

-- a step that did what the row of what the machine gave says
abbrev pub step_line : Step → User → Option Line
step_line s p = first_line (reads_line s p.inner) p.unread

abbrev pub step_said : Step → ℕ → User → Outcome Inner
step_said s t p = step_row s p.inner (step_line s p) (suc p.own - p.own_at_command) t

abbrev pub DidStep : Step → Ending → Bool → ℕ → (old new : User) → (before after : Stored) → Type 0
DidStep s e asked t old new before after =
    IsRow (is_none (step_asks s (in_store before old).inner) && (not (reads_line s (in_store before old).inner) || some_line old.unread)) false (step_line s (in_store before old)) (step_said s t (in_store before old))
    (asks_time s (in_store before old).inner) e asked old new before after

-- a step that stored what was still to be stored
abbrev pub DidFill : Fill → Ending → Bool → (old new : User) → (before after : Stored) → Type 0
DidFill f e asked old new before after = IsRow true false None (goes (filled_program f (in_store before old).inner)) false e asked old new before after

-- the user whose program has done an own step: an open debugger knows
abbrev pub marked : User → User
marked p = record p { inner = has_stepped p.inner }

-- a break
abbrev pub DidBreak : Ending → Bool → (old new : User) → (before after : Stored) → Type 0
DidBreak e asked old new before after = IsRow true false None (breaks (in_store before old).inner (suc old.own - old.own_at_command)) false e asked old new before after

-- what the row of a supervisor entry says of this user
abbrev pub entry_line : Result Call EntryFault → User → Option Line
entry_line call p = first_line (is_read call) p.unread

abbrev pub entry_said : Result Call EntryFault → ℕ → User → Stored → Outcome Inner
entry_said call t p c = entry_row call (in_store c p).inner (entry_line call p) (suc p.own - p.own_at_command) t

-- a step that did what the row of this entry says
abbrev pub DidEntry : Result Call EntryFault → Ending → Bool → ℕ → (old new : User) → (before after : Stored) → Type 0
DidEntry call e asked t old new before after =
    IsRow (is_none (entry_asks call before.core) && (not (is_read call) || some_line old.unread)) false (entry_line call old) (entry_said call t old before) (is_clock call) e asked old new before after

-- a step that did what the row of this command says
abbrev pub DidCommand : Line → Command → Ending → Bool → ℕ → (old new : User) → (before after : Stored) → Type 0
DidCommand l command e asked t old new before after =
    IsRow (is_none (command_asks command (in_store before old).inner)) true (Some l) (command_row command (in_store before old).inner (record { line = l; fed = old.fed - 1 }) 1 t) true e asked old new before after

-- a step that did what the row of a line of INPUT says
abbrev pub DidInput : Line → NamePair → Ending → Bool → (old new : User) → (before after : Stored) → Type 0
DidInput l name e asked old new before after = IsRow true false (Some l) (input_row name l (in_store before old).inner (suc old.own - old.own_at_command)) false e asked old new before after

-- A step that did what the row of a line of the debugger says. SET alone may change a word.
abbrev pub DidDebug : Line → Stops → DebugLine → Ending → Bool → (old new : User) → (before after : Stored) → Type 0
DidDebug l s line e asked old new before after =
    let o = debug_row s line (in_store before old).inner 1 in
    (new ≡ by_row true (Some l) o old) × (core_after e o.inner.blocks after.core ≡ o.inner.core) × (after.files ≡ o.inner.files) × (e ≡ o.ending) × (asked ≡ false)
    × (stores line ≡ false → LeavesWords e before.core after.core)

-- a step at a supervisor entry that made this common operation, with this reply
abbrev pub EntryReplied : Result Call EntryFault → CommonOp → Reply → Ending → Bool → (old new : User) → (before after : Stored) → Type 0
EntryReplied call op r e asked old new before after =
    (entry_asks call before.core ≡ Some op) × IsRow true false None (entry_replied call (in_store before old).inner r) false e asked old new before after

-- a step of a command that made this common operation, with this reply
abbrev pub CommandReplied : Line → Command → CommonOp → Reply → Ending → Bool → ℕ → (old new : User) → (before after : Stored) → Type 0
CommandReplied l command op r e asked t old new before after =
    (command_asks command (in_store before old).inner ≡ Some op) × IsRow true true (Some l) (command_replied command (in_store before old).inner 1 t r) true e asked old new before after
