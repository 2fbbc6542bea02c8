-- proof: the numbers of names in order.
use Rattle.std.specs.Prelude.{ℕ, suc, List, [], ◌∷◌, Option, Some, None, if◌then◌else◌}
use Rattle.fap_model.specs.Decks.{index_from}
use Rattle.link_model.specs.Weights.{is_among}
use Rattle.fap_assemble.specs.Tables.{defined}

-- each name's number is that of its first
abbrev pub numbers_with : List (ℕ × ℕ) → ℕ → List ℕ → List (ℕ × ℕ)
numbers_with table n [] = table
numbers_with table n (name ∷ names) = numbers_with (defined table name n) (suc n) names

abbrev pub numbers_of : List ℕ → List (ℕ × ℕ)
numbers_of names = numbers_with [] 0 names

-- the number of a name behind so many others
abbrev pub number_from : ℕ → List ℕ → ℕ → Option ℕ
number_from n names name = if is_among names name then Some (index_from n names name) else None

abbrev pub number_in : List ℕ → ℕ → Option ℕ
number_in names name = number_from 0 names name
