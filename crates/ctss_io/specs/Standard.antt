-- proof: a standard stream, as contracts see it.
use Rattle.std.specs.Prelude.{ℕ}

-- a stream, and how often a call over it has failed
pub record Counted (R : Type 0) : Type 0 where
  pub inner : R
  pub faults : ℕ
