-- claim: the names of a file.
use Rattle.std.specs.Prelude.{ℕ}

-- two words
pub record NamePair : Type 0 where
  pub first : ℕ
  pub second : ℕ
