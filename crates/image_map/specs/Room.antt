-- proof: room on the drum for all users' blocks.
use Rattle.std.specs.Prelude.{◌≡◌, ℕ, ◌+◌, ◌≤◌, Bool, true, false, if◌then◌else◌, nat_eq, List, length, sum, Option}
use Rattle.drum_slots.specs.Slots.{IsSlots, count_kept}
use Rattle.onion_swap.specs.Places.{owner_of}
use Rattle.plan_model.specs.Loads.{count_below}
use Rattle.image_map.specs.Images.{IsImage}

-- some user owns the place
abbrev pub is_owned : List ℕ → ℕ → Bool
is_owned owners b = if nat_eq (owner_of owners b) 0 then false else true

-- The copies that are kept and the blocks in core that users own are together at most what all users may have, and that
-- is at most the records of the drum. What is asked is what images and their slots keep in ghost fields.
abbrev pub RoomForAll : Type 0
RoomForAll = (bases owners quotas sizes : List ℕ) (slots : List (Option ℕ)) (free : List Bool)
    → IsImage bases owners slots quotas sizes → IsSlots slots free → length slots ≡ sum quotas
    → (count_kept slots + count_below 128 (is_owned owners) ≤ sum quotas) × (sum quotas ≤ length free)
