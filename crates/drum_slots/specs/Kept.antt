-- claim: the copies that are kept, where the drum tells its records.
use Rattle.std.specs.Prelude.{◌≡◌, ◌≤◌, ℕ, List, [], map, slice_index_or, slice_set, Option, None, Some}
use Rattle.medium.specs.Medium.{HasShape}

-- the words of a copy, in these records
abbrev pub words_of : List (List ℕ) → Option ℕ → Option (List ℕ)
words_of contents None = None
words_of contents (Some r) = Some (slice_index_or contents r [])

-- the words of the copy of each place, where records are told
abbrev pub copies : Option (List (List ℕ)) → List (Option ℕ) → Option (List (Option (List ℕ)))
copies None slots = None
copies (Some contents) slots = Some (map (words_of contents) slots)

-- the copies with another, or none, in one place
abbrev pub with_copy : Option (List (Option (List ℕ))) → ℕ → Option (List ℕ) → Option (List (Option (List ℕ)))
with_copy None k copy = None
with_copy (Some all) k copy = Some (slice_set all k copy)

-- the copy in a place has these words, where told
abbrev pub HasCopy : Option (List (Option (List ℕ))) → ℕ → List ℕ → Type 0
HasCopy None k ws = Unit {0}
HasCopy (Some all) k ws = slice_index_or all k None ≡ Some ws

-- the copy in one place has some words, and the others have the words they had
abbrev pub ChangesCopy : Option (List (Option (List ℕ))) → Option (List (Option (List ℕ))) → ℕ → Type 0
ChangesCopy old new k = (ws : List ℕ) × (new ≡ with_copy old k (Some ws))

-- a drum with this many records of this many words serves slots in so many records
pub record ServesSlots (contents : Option (List (List ℕ))) (count each records : ℕ) : Type 0 where
  pub shape : HasShape contents count
  pub within : records ≤ count
  pub whole : each ≡ 256
