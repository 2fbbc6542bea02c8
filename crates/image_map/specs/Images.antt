-- proof: a user's image: its blocks, which lie in core, on the drum, or nowhere.
use Rattle.std.specs.Prelude.{◌≡◌, ℕ, ◌+◌, ◌<◌, ◌≤◌, ◌-◌, ◌++◌, nat_eq, if◌then◌else◌, List, slice_index_or, length, take, replicate, Option, None, Some}
use Rattle.core_bank.specs.Bank.{block_at, blank}
use Rattle.drum_slots.specs.Keys.{quota_of, key}
use Rattle.drum_slots.specs.Slots.{slot_of}
use Rattle.drum_slots.specs.Kept.{copies}
use Rattle.drum_slots.specs.declared.slots.Slots.{Slots}
use Rattle.onion_swap.specs.Places.{Layout, owner_of, base_of}
use Rattle.image_map.specs.Blocks.{first}

-- how many blocks a user has
abbrev pub size_of : List ℕ → ℕ → ℕ
size_of sizes user = slice_index_or sizes user 0

-- the words of a copy, or plus zeros where there is none
abbrev pub or_blank : Option (List ℕ) → List ℕ
or_blank None = blank
or_blank (Some ws) = ws

-- the copy in a place
abbrev pub copy_of : List (Option (List ℕ)) → ℕ → Option (List ℕ)
copy_of all k = slice_index_or all k None

-- one block of a user: that of core at its place where the user owns that, else its kept copy, else plus zeros
abbrev pub view : (ℕ → List ℕ) → (bases owners : List ℕ) → List (Option (List ℕ)) → List ℕ → ℕ → ℕ → List ℕ
view blocks bases owners all quotas user b =
    if nat_eq (owner_of owners (base_of bases user + b)) user then blocks (base_of bases user + b) else or_blank (copy_of all (key quotas user b))

-- the first n blocks of a user, where the drum tells its copies
abbrev pub image_over : (ℕ → List ℕ) → (bases owners : List ℕ) → Option (List (Option (List ℕ))) → List ℕ → ℕ → ℕ → Option (List (List ℕ))
image_over blocks bases owners None quotas n user = None
image_over blocks bases owners (Some all) quotas n user = Some (first n (λ b. view blocks bases owners all quotas user b))

-- a user's image, where the drum tells its records
abbrev pub image_in : List ℕ → Option (List (List ℕ)) → Layout → Slots → List ℕ → ℕ → Option (List (List ℕ))
image_in bank contents at s sizes user =
    image_over (block_at bank) at.bases at.owners (copies contents s.slots.items) s.quotas.items (size_of sizes user) user

-- these blocks, where the drum tells its records
abbrev pub where_told : Option (List (List ℕ)) → List (List ℕ) → Option (List (List ℕ))
where_told None blocks = None
where_told (Some contents) blocks = Some blocks

-- an image of n blocks, cut to m blocks or extended to them by plus zeros
abbrev pub resized : ℕ → ℕ → Option (List (List ℕ)) → Option (List (List ℕ))
resized n m None = None
resized n m (Some blocks) = Some (take m blocks ++ replicate (m - n) blank)

-- a user's first n blocks are in core
abbrev pub IsResident : Layout → ℕ → ℕ → Type 0
IsResident at n user = (b : ℕ) → b < n → owner_of at.owners (base_of at.bases user + b) ≡ user

-- what bases, owners, slots, quotas and sizes keep from call to call
pub record IsImage (bases owners : List ℕ) (slots : List (Option ℕ)) (quotas sizes : List ℕ) : Type 0 where
  pub places : length owners ≡ 128
  pub numbers : length bases ≡ 31
  pub inside : (u : ℕ) → base_of bases u < 128
  pub users : length sizes ≡ length quotas
  pub few : length quotas ≤ 31
  pub limit : (u : ℕ) → quota_of quotas u ≤ 128
  pub fits : (u : ℕ) → size_of sizes u ≤ quota_of quotas u
  pub owned : (u q : ℕ) → 1 ≤ u → owner_of owners q ≡ u → (base_of bases u ≤ q) × (q < base_of bases u + size_of sizes u)
  pub kept : (u b r : ℕ) → b < quota_of quotas u → slot_of slots (key quotas u b) ≡ Some r → b < size_of sizes u
  pub apart : (u b : ℕ) → 1 ≤ u → owner_of owners (base_of bases u + b) ≡ u → slot_of slots (key quotas u b) ≡ None
