-- claim: the records of a medium in memory.
use Rattle.std.specs.Prelude.{◌≡◌, ◌+◌, length, ℕ, zero, suc, List, [], ◌∷◌, get_or, Option, None, Some}
use Rattle.medium.specs.Medium.{AreWords}
use Rattle.medium.specs.declared.memory.Damage.{Damage}

-- the records, told where nothing is damaged
abbrev pub told_rows : List Damage → List (List ℕ) → Option (List (List ℕ))
told_rows [] contents = Some contents
told_rows (d ∷ ds) contents = None

-- so many words from a place on; behind the last one all are zero
abbrev pub words_from : List ℕ → ℕ → ℕ → List ℕ
words_from ws p zero = []
words_from ws p (suc n) = get_or ws p 0 ∷ words_from ws (suc p) n

-- so many records from a place on, of n words each
abbrev pub rows_from : List ℕ → ℕ → ℕ → ℕ → List (List ℕ)
rows_from ws n p zero = []
rows_from ws n p (suc k) = words_from ws p n ∷ rows_from ws n (p + n) k

-- records in one piece of memory
pub record PagesState : Type 0 where
  pub contents : List (List ℕ)
  pub each : ℕ

-- a record of so many words
pub record IsRecord (n : ℕ) (row : List ℕ) : Type 0 where
  pub len : length row ≡ n
  pub words : AreWords row
