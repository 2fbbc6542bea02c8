-- proof: many steps at once, between two states with what the users have in core and on the drum.
use Rattle.std.specs.Prelude.{◌≡◌, ℕ, true}
use Rattle.user_model.specs.Inner.{Stored}
use Rattle.user_cores.specs.Backing.{Held}
use Rattle.system_model.specs.Run.{Run}
use Rattle.system_model.specs.Joined.{joined}
use Rattle.system_model.specs.Runs.{Passes}

-- What happened is so many steps of the users joined with words and files, at none of which an event was due, and which wrote no entry.
-- Where drum and disk tell their records, these are the users' own.
pub record DoesMany (limit : ℕ) (old new : Run) (had has : Held) : Type 0 where
  pub steps : ℕ
  pub before : ℕ → Stored
  pub after : ℕ → Stored
  pub passes : Passes limit steps (joined before old) (joined after new)
  pub was : had.tells ≡ true → (u : ℕ) → before u ≡ had.stores u
  pub now : had.tells ≡ true → (u : ℕ) → after u ≡ has.stores u
  pub tells : has.tells ≡ had.tells
  pub common : has.common ≡ had.common
