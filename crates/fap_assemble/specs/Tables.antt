-- proof: the table of symbols.
use Rattle.std.specs.Prelude.{ℕ, List, [], ◌∷◌, ◌++◌, if◌then◌else◌, is_none}
use Rattle.fap_model.specs.Places.{value_in}

-- a symbol's first definition; a later one changes nothing
abbrev pub defined : List (ℕ × ℕ) → ℕ → ℕ → List (ℕ × ℕ)
defined symbols name v = if is_none (value_in symbols name) then symbols ++ (name, v) ∷ [] else symbols
