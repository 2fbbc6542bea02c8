-- proof: images while a user is resident.
use Rattle.std.specs.Prelude.{◌≡◌, ◌≢◌, ℕ, ◌+◌, ◌*◌, List, take, drop, Option}
use Rattle.core_bank.specs.Bank.{block_at}
use Rattle.drum_slots.specs.declared.slots.Slots.{Slots}
use Rattle.onion_swap.specs.Places.{Layout, base_of}
use Rattle.image_map.specs.Blocks.{first}
use Rattle.image_map.specs.Images.{size_of, image_in, where_told, IsResident}

-- The image of a resident user is what stands in core, from its base on.
abbrev pub ResidentIsInCore : Type 0
ResidentIsInCore = (bank : List ℕ) (contents : Option (List (List ℕ))) (at : Layout) (slots : Slots) (sizes : List ℕ) (user : ℕ)
    → IsResident at (size_of sizes user) user
    → image_in bank contents at slots sizes user ≡ where_told contents (first (size_of sizes user) (λ b. block_at bank (base_of at.bases user + b)))

-- Whatever happens to its words, the images of the others stay.
abbrev pub OthersStay : Type 0
OthersStay = (bank bank' : List ℕ) (contents : Option (List (List ℕ))) (at : Layout) (slots : Slots) (sizes : List ℕ) (user other : ℕ)
    → IsResident at (size_of sizes user) user
    → take (256 * base_of at.bases user) bank' ≡ take (256 * base_of at.bases user) bank
    → drop (256 * (base_of at.bases user + size_of sizes user)) bank' ≡ drop (256 * (base_of at.bases user + size_of sizes user)) bank → other ≢ user
    → image_in bank' contents at slots sizes other ≡ image_in bank contents at slots sizes other
