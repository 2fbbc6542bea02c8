-- proof: which record keeps which block, and which records are free.
use Rattle.std.specs.Prelude.{◌≡◌, ℕ, suc, ◌+◌, ◌≤◌, Bool, true, false, if◌then◌else◌, List, [], ◌∷◌, length, slice_index_or, Option, None, Some}

-- the least free record, or how many there are where none is
abbrev pub first_free : List Bool → ℕ
first_free [] = 0
first_free (b ∷ bs) = if b then 0 else suc (first_free bs)

-- how many records are free
abbrev pub count_free : List Bool → ℕ
count_free [] = 0
count_free (b ∷ bs) = (if b then 1 else 0) + count_free bs

-- how many blocks are kept
abbrev pub count_kept : List (Option ℕ) → ℕ
count_kept [] = 0
count_kept (None ∷ slots) = count_kept slots
count_kept (Some r ∷ slots) = 1 + count_kept slots

-- the record of the block with this place, where it is kept
abbrev pub slot_of : List (Option ℕ) → ℕ → Option ℕ
slot_of slots k = slice_index_or slots k None

-- each kept block has a record of its own, the others are free, and there is one for each block that may be kept
pub record IsSlots (slots : List (Option ℕ)) (free : List Bool) : Type 0 where
  pub held : (k r : ℕ) → slot_of slots k ≡ Some r → slice_index_or free r true ≡ false
  pub distinct : (j k r : ℕ) → slot_of slots j ≡ Some r → slot_of slots k ≡ Some r → j ≡ k
  pub count : count_kept slots + count_free free ≡ length free
  pub room : length slots ≤ length free
