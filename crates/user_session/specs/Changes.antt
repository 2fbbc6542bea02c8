-- proof: what single steps of a user do: a file is put, a reply is taken, a program is filled.
use Rattle.std.specs.Prelude.{◌≡◌, ℕ, suc, Bool, true, false, List, [], Option, Some, None}
use Rattle.ctss_types.specs.Names.{NamePair}
use Rattle.time_sharing.specs.Machine.{Line, Ending}
use Rattle.file_model.specs.Files.{got, put}
use Rattle.ctss_types.specs.declared.file.Reply.{Reply}
use Rattle.user_model.specs.declared.Command.{Command}
use Rattle.program_model.specs.declared.Call.{Call}
use Rattle.std.specs.declared.result.Result.{Result}
use Rattle.program_model.specs.declared.ComRefusal.{ComRefusal}
use Rattle.user_model.specs.Commands.{changed, effect_row, lines_added, words_copied, command_replied}
use Rattle.user_model.specs.Programs.{call_replied, reply_taken, step_asks}
use Rattle.user_model.specs.User.{User, in_store}
use Rattle.user_model.specs.Answers.{IsRow}
use Rattle.user_model.specs.Inner.{Stored}
use Rattle.ctss_types.specs.declared.file.CommonOp.{CommonOp}
use Rattle.ctss_types.specs.declared.file.FileBody.{FileBody}
use Rattle.machine_model.specs.Machine.{step_of}
use Rattle.program_model.specs.declared.Fill.{Fill}
use Rattle.program_model.specs.Decks.{words_got}
use Rattle.program_model.specs.Fills.{fill_name, filled_core, filled_regs}
use Rattle.user_session.specs.Stores.{stored}

-- a step that took a line as a command and put a file
abbrev pub DidPut : Line → NamePair → List ℕ → Ending → Bool → ℕ → (old new : User) → (before after : Stored) → Type 0
DidPut line name words e asked t old new before after =
    let i = (in_store before old).inner in
    IsRow true true (Some line) (changed (put name words i.account.tracks i.files) i 1 t) true e asked old new before after

-- a step that took a line as a command and put lines before those unread, or said why it didn't
abbrev pub DidFeed : Line → Result (List Line) ComRefusal → Ending → Bool → ℕ → (old new : User) → (before after : Stored) → Type 0
DidFeed line told e asked t old new before after = IsRow true true (Some line) (effect_row (lines_added told) (in_store before old).inner 1 t) true e asked old new before after

-- a step of a command that took the words of a common file
abbrev pub Copies : Line → Option NamePair → List ℕ → Ending → Bool → ℕ → (old new : User) → (before after : Stored) → Type 0
Copies line target words e asked t old new before after = IsRow true true (Some line) (effect_row (words_copied target words) (in_store before old).inner 1 t) true e asked old new before after

-- a step of a command that took this reply
abbrev pub TookReply : Line → Command → Reply → Ending → Bool → ℕ → (old new : User) → (before after : Stored) → Type 0
TookReply line command r e asked t old new before after = IsRow true true (Some line) (command_replied command (in_store before old).inner 1 t r) true e asked old new before after

-- a step of a call with so many arguments and a buffer that took this reply
abbrev pub Answered : (arguments at : ℕ) → Reply → Ending → Bool → (old new : User) → (before after : Stored) → Type 0
Answered arguments at r e asked old new before after = IsRow true false None (reply_taken (in_store before old).inner arguments at r) false e asked old new before after

-- a step of a call that took this reply
abbrev pub CallTook : Call → Reply → Ending → Bool → (old new : User) → (before after : Stored) → Type 0
CallTook call r e asked old new before after = IsRow true false None (call_replied call (in_store before old).inner r) false e asked old new before after

-- a program that has its core was filled with the words of its file, of these files
pub record IsStored (with : Fill) (files : List FileBody) (old new : User) (before after : List ℕ) : Type 0 where
  pub core : after ≡ filled_core with (words_got (got (fill_name with) files)) before
  pub user : new ≡ record old { inner = record old.inner { regs = filled_regs with (words_got (got (fill_name with) files)) old.inner.regs; fill = None }; own = suc old.own }

-- the next step of a program with these words is a call that is to make this common operation
abbrev pub IsEntryFor : CommonOp → User → List ℕ → Type 0
IsEntryFor op p core = step_asks (step_of p.inner.regs core) (in_store (stored core []) p).inner ≡ Some op
