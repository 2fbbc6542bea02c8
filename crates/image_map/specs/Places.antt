-- proof: owners, bases and kept copies, without the records that keep them.
use Rattle.std.specs.Prelude.{ℕ, Bool, true, false, ◌&&◌, nat_lt, List, Option, None, Some}
use Rattle.drum_slots.specs.Keys.{quota_of, key}
use Rattle.drum_slots.specs.Slots.{slot_of}
use Rattle.drum_slots.specs.declared.slots.Slots.{Slots}
use Rattle.onion_swap.specs.Places.{Layout, owner_of, base_of}
use Rattle.plan_model.specs.Loads.{Places}

abbrev pub is_some : Option ℕ → Bool
is_some None = false
is_some (Some r) = true

-- whether a copy of a user's block is kept; none is of a block past its quota
abbrev pub is_kept : List (Option ℕ) → List ℕ → ℕ → ℕ → Bool
is_kept slots quotas user block = nat_lt block (quota_of quotas user) && is_some (slot_of slots (key quotas user block))

-- who owns which place, where users' blocks lie, and of which blocks a copy is kept
unfoldable pub places_of : Layout → Slots → Places
places_of at s = record { owner = owner_of at.owners; base = base_of at.bases; kept = is_kept s.slots.items s.quotas.items }
