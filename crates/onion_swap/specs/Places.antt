-- proof: who owns which place of core and where users' blocks lie, as lists; and which copies of a user's blocks there are.
use Rattle.std.specs.Prelude.{◌≡◌, ℕ, ◌<◌, Bool, false, List, length, replicate, slice_index_or}
use Rattle.plan_model.specs.Loads.{Places}

-- the owner of each place, 0 for none, and the base of each user by its number
pub record Layout : Type 0 where
  pub owners : List ℕ
  pub bases : List ℕ

abbrev pub first_layout : Layout
first_layout = record { owners = replicate 128 0; bases = replicate 31 0 }

abbrev pub owner_of : List ℕ → ℕ → ℕ
owner_of owners place = slice_index_or owners place 0

abbrev pub base_of : List ℕ → ℕ → ℕ
base_of bases user = slice_index_or bases user 0

-- each base is a place
pub record IsLayout (at : Layout) : Type 0 where
  pub places : length at.owners ≡ 128
  pub numbers : length at.bases ≡ 31
  pub inside : (user : ℕ) → base_of at.bases user < 128

-- these owners and bases, and these copies of whichever user's blocks
abbrev pub places_of : Layout → List Bool → Places
places_of at kept = record { owner = owner_of at.owners; base = base_of at.bases; kept = λ user block. slice_index_or kept block false }
