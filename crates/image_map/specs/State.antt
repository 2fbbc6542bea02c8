-- proof: what images show, and what each call does to it.
use Rattle.std.specs.Prelude.{◌≡◌, ◌≢◌, ◌⊎◌, ℕ, ◌≤◌, ◌<◌, ◌+◌, ◌∷◌, ◌++◌, replicate, None, Bool, true, false, List, length, slice_set, Option, Result, IfOk, OnErr}
use Rattle.std.specs.Borrow.{GName}
use Rattle.faults.specs.Faults.{Rose}
use Rattle.medium.specs.Medium.{Call, CallList}
use Rattle.core_bank.specs.Bank.{AreWords, block_at}
use Rattle.drum_slots.specs.Kept.{ServesSlots}
use Rattle.drum_slots.specs.Table.{records_of, quota_in, slots_of}
use Rattle.drum_slots.specs.Slots.{slot_of}
use Rattle.drum_slots.specs.declared.slots.Slots.{Slots}
use Rattle.onion_swap.specs.declared.Plan.{Plan}
use Rattle.onion_swap.specs.Places.{Layout, first_layout, base_of}
use Rattle.plan_model.specs.Loads.{Places, stays, is_moved, base_for, dumps, reads, clears, loaded, given_up}
use Rattle.image_map.specs.Images as images
use Rattle.image_map.specs.Images.{image_in, resized, IsResident}
use Rattle.image_map.specs.Loads.{BlockMap, block_map_of, load_to, calls_to, map_before, bases_before, calls_before, with_calls, count_writes, count_reads, FailedIn}
use Rattle.image_map.specs.Places.{places_of}

-- which drum it is, its records, its calls where told, and how many of them failed
pub record DrumState : Type 0 where
  pub name : GName
  pub contents : Option (List (List ℕ))
  pub count : ℕ
  pub each : ℕ
  pub calls : Option CallList
  pub faults : ℕ

-- whether a load has failed, who owns which place and where users' blocks lie, which copies are kept, sizes, the words of core, and the drum
pub record ImageState : Type 0 where
  pub failed : Bool
  pub layout : Layout
  pub slots : Slots
  pub sizes : List ℕ
  pub words : List ℕ
  pub drum : DrumState

-- a user's image, where the drum tells its records
abbrev pub image : ImageState → ℕ → Option (List (List ℕ))
image s user = image_in s.words s.drum.contents s.layout s.slots s.sizes user

abbrev pub size : ImageState → ℕ → ℕ
size s user = images.size_of s.sizes user

abbrev pub quota : ImageState → ℕ → ℕ
quota s user = quota_in s.slots user

abbrev pub places_in : ImageState → Places
places_in s = places_of s.layout s.slots

abbrev pub block_map_in : ImageState → BlockMap
block_map_in s = block_map_of s.layout.owners s.slots

-- where a user's blocks lie, or would lie
abbrev pub base : ImageState → ℕ → ℕ
base s user = base_of s.layout.bases user

-- whether they lie there in a load too, and where they lie behind it
abbrev pub stays_in : ImageState → ℕ → Bool
stays_in s user = stays (places_in s) user (size s user)

abbrev pub new_base : ImageState → ℕ → ℕ
new_base s user = base_for (places_in s) user (size s user)

-- bases and block map as the second part of a load finds them
abbrev pub bases_laid : ImageState → ℕ → List ℕ
bases_laid s user = bases_before s.layout.bases user (stays_in s user) (new_base s user)

abbrev pub map_laid : ImageState → ℕ → BlockMap
map_laid s user = map_before s.slots.quotas.items s.layout.bases (block_map_in s) user (stays_in s user)

-- the calls of a load; a read gives what stands in core behind it
abbrev pub calls_of : ImageState → ImageState → ℕ → List Call
calls_of old new user =
    calls_before old.slots.quotas.items old.layout.bases (block_map_in old) user (stays_in old user)
    ++ calls_to old.slots.quotas.items (bases_laid old user) (map_laid old user) user (size old user) (block_at new.words)

-- no load has failed, the words of core are words, and the drum serves the slots
pub record IsUsable (s : ImageState) : Type 0 where
  pub going : s.failed ≡ false
  pub words : AreWords s.words
  pub serves : ServesSlots s.drum.contents s.drum.count s.drum.each (records_of s.slots)

-- images of which no user has any block
abbrev pub first_state : DrumState → Slots → List ℕ → List ℕ → ImageState
first_state drum slots words sizes =
    record { failed = false; layout = first_layout; slots = slots; sizes = sizes; words = words; drum = drum }

-- images over this drum at their beginning
pub record IsFirst (drum : DrumState) (quotas : List ℕ) (s : ImageState) : Type 0 where
  pub usable : IsUsable s
  pub first : s ≡ first_state drum s.slots s.words (replicate (length quotas + 1) 0)
  pub quotas_are : s.slots.quotas.items ≡ 0 ∷ quotas
  pub none : (k : ℕ) → slot_of (slots_of s.slots) k ≡ None

-- a user's image gets another size; the drum and core stay
pub record Resizes (user blocks : ℕ) (old new : ImageState) : Type 0 where
  pub drum : new.drum ≡ old.drum
  pub words : new.words ≡ old.words
  pub failed : new.failed ≡ old.failed
  pub quotas : new.slots.quotas ≡ old.slots.quotas
  pub records : records_of new.slots ≡ records_of old.slots
  pub sizes : new.sizes ≡ slice_set old.sizes user blocks
  pub places : places_in new ≡ given_up (places_in old) user blocks
  pub mine : image new user ≡ resized (size old user) blocks (image old user)
  pub others : (u : ℕ) → 1 ≤ u → u ≢ user → image new u ≡ image old u

-- a user gets a new image of plus zeros
pub record Replaces (user blocks : ℕ) (old new : ImageState) : Type 0 where
  pub drum : new.drum ≡ old.drum
  pub words : new.words ≡ old.words
  pub failed : new.failed ≡ old.failed
  pub quotas : new.slots.quotas ≡ old.slots.quotas
  pub records : records_of new.slots ≡ records_of old.slots
  pub sizes : new.sizes ≡ slice_set old.sizes user blocks
  pub places : places_in new ≡ given_up (places_in old) user 0
  pub mine : image new user ≡ resized 0 blocks (resized (size old user) 0 (image old user))
  pub others : (u : ℕ) → 1 ≤ u → u ≢ user → image new u ≡ image old u

-- what stays in a load, whether or not the drum fails, and how many calls of the drum it asks for
pub record LoadKeeps (user : ℕ) (old new : ImageState) : Type 0 where
  pub drum : new.drum.name ≡ old.drum.name
  pub serves : ServesSlots new.drum.contents new.drum.count new.drum.each (records_of new.slots)
  pub quotas : new.slots.quotas ≡ old.slots.quotas
  pub sizes : new.sizes ≡ old.sizes
  pub words : AreWords new.words
  pub outside : (q : ℕ) → (q < new_base old user) ⊎ (new_base old user + size old user ≤ q) → block_at new.words q ≡ block_at old.words q
  pub faults : old.drum.faults ≤ new.drum.faults
  pub writes_are : count_writes (calls_of old new user) ≡ dumps (places_in old) user (size old user)
  pub reads_are : count_reads (calls_of old new user) ≡ reads (places_in old) user (size old user)

-- a load that is done: all images stay, the user is resident, and the calls were made
pub record Loaded (user : ℕ) (plan : Plan) (old new : ImageState) : Type 0 where
  pub going : new.failed ≡ false
  pub images : (u : ℕ) → 1 ≤ u → image new u ≡ image old u
  pub resident : IsResident new.layout (size old user) user
  pub places : places_in new ≡ loaded (places_in old) user (size old user)
  pub bases : new.layout.bases ≡ bases_laid old user
  pub block_map : block_map_in new ≡ load_to old.slots.quotas.items (bases_laid old user) (map_laid old user) user (size old user)
  pub base_is : plan.base ≡ new_base old user
  pub moved : plan.moved ≡ is_moved (places_in old) user (size old user)
  pub dumped : plan.dumped ≡ dumps (places_in old) user (size old user)
  pub read : plan.read ≡ reads (places_in old) user (size old user)
  pub fresh : plan.fresh ≡ clears (places_in old) user (size old user)
  pub calls : new.drum.calls ≡ with_calls old.drum.calls (calls_of old new user)

-- a load that the drum didn't do: some of its calls were made, the last one failed, and images are lost
pub record LoadFails (user : ℕ) (old new : ImageState) : Type 0 where
  pub lost : new.failed ≡ true
  pub calls : FailedIn old.drum.calls new.drum.calls (calls_of old new user)
  pub cause : Rose old.drum.faults new.drum.faults

-- a load of a user
pub record Loads (user : ℕ) {E : Type 0} (result : Result Plan E) (old new : ImageState) : Type 0 where
  pub keeps : LoadKeeps user old new
  pub done : IfOk result (λ plan. Loaded user plan old new)
  pub fails : OnErr result (LoadFails user old new)
