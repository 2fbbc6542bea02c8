-- claim: counts of faults, and what is told of an object outside.
use Rattle.std.specs.Prelude.{ℕ, ◌+◌, ◌-◌, ◌^◌, ◌≤◌, min, Option, None, Some}

-- one more, up to the end of a u64
abbrev pub one_further : ℕ → ℕ
one_further n = min (n + 1) (2 ^ 64 - 1)

-- a count has risen: it is greater than before, or stands at the end of its type
abbrev pub Rose : ℕ → ℕ → Type 0
Rose before now = one_further before ≤ now

-- a fact of what is told, which says nothing where it isn't told
abbrev pub WhereTold : {A : Type 0} → Option A → (A → Type 0) → Type 0
WhereTold None P = Unit {0}
WhereTold (Some told) P = P told
