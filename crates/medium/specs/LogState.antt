-- proof: a list of calls in memory, as contracts see it.
use Rattle.std.specs.Prelude.{ℕ, Option}
use Rattle.medium.specs.Medium.{CallList}

-- the calls, where told, and how many words a call may give
pub record LogState : Type 0 where
  pub calls : Option CallList
  pub words_each : ℕ
