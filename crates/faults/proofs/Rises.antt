-- Counts that rise.
use Rattle.std.proofs.Common.{ℕ, ◌≤◌, arith}
use Rattle.faults.specs.Faults.{Rose}

-- a count that rose behind a later moment rose behind an earlier one
pub rose_later : (was mid now : ℕ) → was ≤ mid → Rose mid now → Rose was now
rose_later was mid now up rose = omega (arith, up, rose)
