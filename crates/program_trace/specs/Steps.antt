-- proof: a step of a user beside common files, with the words of its program and its files before and after.
use Rattle.std.specs.Prelude.{◌≡◌, ℕ, false, List, Option, Some, None}
use Rattle.ctss_types.specs.declared.file.FileBody.{FileBody}
use Rattle.user_model.specs.Inner.{Stored}
use Rattle.user_model.specs.User.{User, can_step, asks_common, in_store, IsStep}
use Rattle.user_session.specs.declared.turn.Step.{Step}
use Rattle.program_trace.specs.Lone.{TracedUser, common_reply, common_after}

-- a step was done with the reply of these common files, which it left so
pub record IsStepBeside (s : Step) (now : ℕ) (old new : User) (before after : Stored) (had has : List FileBody) : Type 0 where
  pub does :
      IsStep s.ending s.clock (asks_common (in_store before old)) now (common_reply (asks_common (in_store before old)) had) old new before after
  pub common : has ≡ common_after (asks_common (in_store before old)) had

-- no step can be done, and nothing has changed
pub record IsWaitBeside (old new : User) (before after : Stored) (had has : List FileBody) : Type 0 where
  pub cannot : can_step (in_store before old) ≡ false
  pub same : new ≡ old
  pub store : after ≡ before
  pub common : has ≡ had

-- what a turn of a user left
abbrev pub IsTurnBeside : Option Step → ℕ → (old new : User) → (before after : Stored) → (had has : List FileBody) → Type 0
IsTurnBeside None now old new before after had has = IsWaitBeside old new before after had has
IsTurnBeside (Some s) now old new before after had has = IsStepBeside s now old new before after had has

-- a user whose program's words and files lie apart, and the common files
abbrev pub alone_with : User → (core : List ℕ) → (files common : List FileBody) → TracedUser
alone_with p core files common = record { user = in_store (record { core = core; files = files }) p; common = common }
