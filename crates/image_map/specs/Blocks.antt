-- proof: lists of blocks of core.
use Rattle.std.specs.Prelude.{ℕ, zero, suc, List, [], ◌∷◌, ◌++◌}

-- the first n of these blocks
abbrev pub first : ℕ → (ℕ → List ℕ) → List (List ℕ)
first zero f = []
first (suc n) f = first n f ++ f n ∷ []
