-- claim: the numbers of PARAM: their order, and what each may be.
use Rattle.std.specs.Prelude.{ℕ, zero, suc, Bool, true, ◌&&◌, nat_eq, nat_le, List, [], ◌∷◌, length, get_or, if◌then◌else◌}
use Rattle.ctss_types.specs.declared.script.Params.{Params}

-- the least and the greatest that each number may be
abbrev pub param_limits : List (ℕ × ℕ)
param_limits = (1, 32768) ∷ (1, 1000000) ∷ (0, 1000000) ∷ (0, 3840) ∷ (0, 10000) ∷ (0, 10000) ∷ (0, 1000000) ∷ []

-- so many stand at least; those left out behind them are 0
abbrev pub least_numbers : ℕ
least_numbers = 6

abbrev pub numbers_of : Params → List ℕ
numbers_of p = p.wq ∷ p.quantum ∷ p.swap ∷ p.drum ∷ p.disk ∷ p.common ∷ p.age ∷ []

-- the params that have each number from a place
abbrev pub params_by : (ℕ → ℕ) → Params
params_by at = record { wq = at 0; quantum = at 1; swap = at 2; drum = at 3; disk = at 4; common = at 5; age = at 6 }

-- the params of numbers in order
abbrev pub params_of : List ℕ → Params
params_of numbers = params_by (λ place. get_or numbers place 0)

-- whether each number is within its limits
abbrev pub are_within : List (ℕ × ℕ) → List ℕ → Bool
are_within [] numbers = true
are_within (limit ∷ more) [] = true
are_within (limit ∷ more) (n ∷ numbers) = nat_le limit.0 n && nat_le n limit.1 && are_within more numbers

-- a number in front of others: a 0 with none behind it is left out
abbrev pub unless_last_zero : ℕ → List ℕ → List ℕ
unless_last_zero n numbers = if nat_eq n 0 && nat_eq (length numbers) 0 then [] else n ∷ numbers

-- numbers without the zeros at their end, but for the first so many, all of which stand
abbrev pub written_out : ℕ → List ℕ → List ℕ
written_out least [] = []
written_out zero (n ∷ numbers) = unless_last_zero n (written_out zero numbers)
written_out (suc least) (n ∷ numbers) = n ∷ written_out least numbers

-- the numbers of params as a card has them
abbrev pub card_numbers : Params → List ℕ
card_numbers p = written_out least_numbers (numbers_of p)
