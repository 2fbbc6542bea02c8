-- proof: what a move of blocks between core and drum leaves, which is a part of a load.
use Rattle.std.specs.Prelude.{◌≡◌, ◌≢◌, ℕ, ◌+◌, ◌<◌, ◌≤◌, ◌++◌, Bool, false, List, [], ◌∷◌, length, slice_set, OnOk, OnErr}
use Rattle.std.specs.declared.result.Result.{Result}
use Rattle.faults.specs.Faults.{Rose}
use Rattle.medium.specs.Medium.{Call, write_call}
use Rattle.medium.specs.declared.medium.Medium.{Ghosts}
use Rattle.core_bank.specs.Bank.{AreWords, block_at}
use Rattle.drum_slots.specs.Kept.{ServesSlots}
use Rattle.drum_slots.specs.Table.{records_of, next_of, record_of}
use Rattle.onion_swap.specs.Places.{owner_of}
use Rattle.plan_model.specs.Loads.{base_for}
use Rattle.plan_model.specs.Loads.{stays as stays_at}
use Rattle.image_map.specs.Image.{state}
use Rattle.image_map.specs.Loads.{BlockMap, dumped, put_one, put_to, put_calls_one, put_calls_to, block_taken, fetch_calls, load_one, load_to, calls_one, calls_to, map_before, bases_before, calls_before, with_calls, FailedIn}
use Rattle.image_map.specs.State.{ImageState, image, size, base, places_in, block_map_in}
use Rattle.image_map.specs.declared.image.Image.{Image}

-- a move of blocks: the block map behind it, and its calls of the drum
pub record Move : Type 0 where
  pub to : BlockMap
  pub calls : List Call

-- what lies at an owner's place goes to the least free record
abbrev pub a_dump : ImageState → ℕ → ℕ → Move
a_dump s owner place = record {
  to = dumped s.slots.quotas.items s.layout.bases (block_map_in s) owner place;
  calls = write_call (next_of s.slots) false ∷ [];
}

-- the copy of a user's block, if there is one, comes into core; it has these words
abbrev pub a_fetch : ImageState → ℕ → ℕ → List ℕ → Move
a_fetch s user block words = record {
  to = block_taken s.slots.quotas.items s.layout.bases (block_map_in s) user block (record_of s.slots user block);
  calls = fetch_calls (record_of s.slots user block) words;
}

-- what lies at a place goes to the drum, if the user owns it
abbrev pub a_put : ImageState → ℕ → ℕ → Move
a_put s user place = record {
  to = put_one s.slots.quotas.items s.layout.bases (block_map_in s) user place;
  calls = put_calls_one (block_map_in s) user place;
}

-- what a user owns of the places below one goes to the drum, in rising order
abbrev pub puts_below : ImageState → ℕ → ℕ → Move
puts_below s user place = record {
  to = put_to s.slots.quotas.items s.layout.bases (block_map_in s) user place;
  calls = put_calls_to s.slots.quotas.items s.layout.bases (block_map_in s) user place;
}

-- the first part of a load
abbrev pub a_laying : ImageState → ℕ → (stay : Bool) → Move
a_laying s user stay = record {
  to = map_before s.slots.quotas.items s.layout.bases (block_map_in s) user stay;
  calls = calls_before s.slots.quotas.items s.layout.bases (block_map_in s) user stay;
}

-- one block comes into core, with these words
abbrev pub a_loading : ImageState → ℕ → ℕ → List ℕ → Move
a_loading s user block words = record {
  to = load_one s.slots.quotas.items s.layout.bases (block_map_in s) user block;
  calls = calls_one s.slots.quotas.items s.layout.bases (block_map_in s) user block words;
}

-- a user's blocks below a number come into core, in rising order, with the words of their places
abbrev pub loads_below : ImageState → ℕ → ℕ → (ℕ → List ℕ) → Move
loads_below s user blocks words = record {
  to = load_to s.slots.quotas.items s.layout.bases (block_map_in s) user blocks;
  calls = calls_to s.slots.quotas.items s.layout.bases (block_map_in s) user blocks words;
}

-- both parts of a load of so many blocks, which lie from a place on then
abbrev pub a_load : ImageState → ℕ → ℕ → (from : ℕ) → (stay : Bool) → (ℕ → List ℕ) → Move
a_load s user blocks from stay words = record {
  to = load_to s.slots.quotas.items (bases_before s.layout.bases user stay from) (a_laying s user stay).to user blocks;
  calls = (a_laying s user stay).calls
      ++ calls_to s.slots.quotas.items (bases_before s.layout.bases user stay from) (a_laying s user stay).to user blocks words;
}

module _ {D : Type 0} {g : Ghosts D} where
  -- Blocks can be moved: the words of core are words, and the drum serves the slots.
  pub record CanMove (it : Image D g) : Type 0 where
    pub words : AreWords it.bank
    pub serves : ServesSlots (state it).drum.contents (state it).drum.count (state it).drum.each (records_of (state it).slots)

  -- A user has a block, and its place lies in core and is nobody's.
  pub record IsVacant (user block : ℕ) (it : Image D g) : Type 0 where
    pub inside : block < size (state it) user
    pub room : base (state it) user + block < 128
    pub owned : owner_of it.tables.owners.owners (base (state it) user + block) ≡ 0

  -- A load of so many blocks of a user is to begin: they will lie from a place on, and the user stays where it lies or doesn't.
  pub record IsPlanned (user blocks from : ℕ) (stay : Bool) (it : Image D g) : Type 0 where
    pub user_is : user < length (state it).sizes
    pub size_is : blocks ≤ size (state it) user
    pub inside : from < 128
    pub room : from + blocks ≤ 128
    pub stays : stay ≡ stays_at (places_in (state it)) user blocks
    pub starts : from ≡ base_for (places_in (state it)) user blocks

  -- Every move leaves, done or not: the same drum, which serves the slots, users' quotas and sizes, whether a load has failed, and words
  -- in core. The count of the drum's faults doesn't fall.
  pub record Holds (old new : Image D g) : Type 0 where
    pub same : (state new).drum.name ≡ (state old).drum.name
    pub serves : ServesSlots (state new).drum.contents (state new).drum.count (state new).drum.each (records_of (state new).slots)
    pub quotas : (state new).slots.quotas ≡ (state old).slots.quotas
    pub sizes : new.tables.sizes ≡ old.tables.sizes
    pub usable : new.failed ≡ old.failed
    pub words : AreWords new.bank
    pub faults_grow : (state old).drum.faults ≤ (state new).drum.faults

  -- Blocks were moved: the block map is that after the move, just its calls of the drum were made, and every user's image stays.
  pub record AreMoved (move : Move) (old new : Image D g) : Type 0 where
    pub block_map : block_map_in (state new) ≡ move.to
    pub images : (u : ℕ) → 1 ≤ u → image (state new) u ≡ image (state old) u
    pub calls : (state new).drum.calls ≡ with_calls (state old).drum.calls move.calls

  -- The drum failed in a move: some of its calls were made, and the last one failed.
  pub record StopsIn (move : Move) (old new : Image D g) : Type 0 where
    pub failed : FailedIn (state old).drum.calls (state new).drum.calls move.calls
    pub cause : Rose (state old).drum.faults (state new).drum.faults

  -- A move is done, unless the drum fails.
  pub record MakesMove (move : Move) {T E : Type 0} (result : Result T E) (old new : Image D g) : Type 0 where
    pub holds : Holds old new
    pub done : OnOk result (AreMoved move old new)
    pub fails : OnErr result (StopsIn move old new)

  -- A user's block of which there is no copy comes into core as plus zeros; every user's image stays.
  pub record TakesBlank (user block : ℕ) (old new : Image D g) : Type 0 where
    pub table : new.tables.kept ≡ old.tables.kept
    pub sizes : new.tables.sizes ≡ old.tables.sizes
    pub usable : new.failed ≡ old.failed
    pub words : AreWords new.bank
    pub bases : new.tables.owners.bases ≡ old.tables.owners.bases
    pub others : (q : ℕ) → q ≢ base (state old) user + block → block_at new.bank q ≡ block_at old.bank q
    pub owners : new.tables.owners.owners ≡ slice_set old.tables.owners.owners (base (state old) user + block) user
    pub images : (u : ℕ) → 1 ≤ u → image (state new) u ≡ image (state old) u
