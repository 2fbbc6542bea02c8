-- proof: what slots say of users' blocks.
use Rattle.std.specs.Prelude.{ℕ, Bool, List, Option, length}
use Rattle.drum_slots.specs.declared.slots.Slots.{Slots}
use Rattle.drum_slots.specs.Keys.{key, quota_of}
use Rattle.drum_slots.specs.Kept.{copies}
use Rattle.drum_slots.specs.Slots.{slot_of, first_free}

-- the record of each place, where its block is kept
abbrev pub slots_of : Slots → List (Option ℕ)
slots_of s = s.slots.items

-- which records are free
abbrev pub free_of : Slots → List Bool
free_of s = s.free.items

-- how many records there are
abbrev pub records_of : Slots → ℕ
records_of s = length s.free.items

-- the least free record
abbrev pub next_of : Slots → ℕ
next_of s = first_free s.free.items

-- how many blocks a user may have
abbrev pub quota_in : Slots → ℕ → ℕ
quota_in s user = quota_of s.quotas.items user

-- the place of a user's block
abbrev pub place_of : Slots → ℕ → ℕ → ℕ
place_of s user block = key s.quotas.items user block

-- the record of a user's block, where it is kept
abbrev pub record_of : Slots → ℕ → ℕ → Option ℕ
record_of s user block = slot_of s.slots.items (place_of s user block)

-- the copy of each place, where the drum tells its records
abbrev pub copies_in : Option (List (List ℕ)) → Slots → Option (List (Option (List ℕ)))
copies_in contents s = copies contents s.slots.items
