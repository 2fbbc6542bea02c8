-- proof: lines that were typed ahead, and how many came.
use Rattle.std.specs.Prelude.{ℕ, List}

-- the lines that nobody has read, and the count since the last restart
pub record Unread : Type 0 where
  pub lines : List (List ℕ)
  pub count : ℕ
