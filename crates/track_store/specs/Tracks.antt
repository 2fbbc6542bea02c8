-- proof: which tracks of a disk are taken.
use Rattle.std.specs.Prelude.{◌≡◌, ℕ, suc, ◌+◌, ◌≤◌, Bool, false, if◌then◌else◌, List, [], ◌∷◌, slice_index_or, Option}
use Rattle.medium.specs.Medium.{HasShape}

-- the least free track, or how many there are where none is
abbrev pub first_free : List Bool → ℕ
first_free [] = 0
first_free (b ∷ bs) = if b then suc (first_free bs) else 0

-- how many tracks are taken
abbrev pub count_taken : List Bool → ℕ
count_taken [] = 0
count_taken (b ∷ bs) = (if b then 1 else 0) + count_taken bs

-- whether a track is taken; none past the last
abbrev pub is_taken : List Bool → ℕ → Bool
is_taken taken t = slice_index_or taken t false

-- a disk with this many records of this many words serves so many tracks
pub record ServesTracks (contents : Option (List (List ℕ))) (count each tracks : ℕ) : Type 0 where
  pub shape : HasShape contents count
  pub within : tracks ≤ count
  pub whole : each ≡ 432
