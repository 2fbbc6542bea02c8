-- proof: numbers as they stand in a line.
use Rattle.std.specs.Prelude.{ℕ, List, [], ◌∷◌, ◌++◌}
use Rattle.text_model.specs.Parts.{number}

-- each behind a blank
abbrev pub spaced : List ℕ → List ℕ
spaced [] = []
spaced (n ∷ []) = number n
spaced (n ∷ m ∷ ns) = number n ++ spaced (m ∷ ns)
