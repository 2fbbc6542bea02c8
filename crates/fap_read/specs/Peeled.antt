-- proof: what taking the first term or the first item off a text leaves.
use Rattle.std.specs.Prelude.{◌<◌, ◌^◌, ℕ, Bool, true, false, List, [], ◌∷◌, filter, Option, Some, None}
use Rattle.std.specs.List.{slice_split, zip}
use Rattle.fap_model.specs.Terms.{is_sign, items_of}
use Rattle.fap_model.specs.declared.types.Term.{Term}
use Rattle.fap_model.specs.declared.types.Term.TheVariants.{Named, Number, Here}

-- the texts between signs, each with the sign in front of it
abbrev pub parts_from : ℕ → List ℕ → List (ℕ × List ℕ)
parts_from sign text = zip (sign ∷ filter is_sign text) (slice_split is_sign text)

abbrev pub sign_byte : Bool → ℕ
sign_byte true = 45
sign_byte false = 43

-- the parts behind the first: whether they begin with a minus, and their text
abbrev pub parts_behind : Option (Bool × List ℕ) → List (ℕ × List ℕ)
parts_behind None = []
parts_behind (Some (minus, text)) = parts_from (sign_byte minus) text

-- the items behind the first
abbrev pub items_behind : Option (List ℕ) → List (List ℕ)
items_behind None = []
items_behind (Some text) = items_of text

-- a number of a term is an address
abbrev pub HasShortNumber : Term → Type 0
HasShortNumber (Named w) = w < 2 ^ 36
HasShortNumber (Number n) = n < 2 ^ 15
HasShortNumber Here = Unit {0}
