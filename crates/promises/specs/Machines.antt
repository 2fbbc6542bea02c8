-- claim: a drum and a disk in memory that the top call can be given.
use Rattle.std.specs.Prelude.{◌≡◌, [], length}
use Rattle.medium.specs.MediumState.{rows_told}
use Rattle.drum_slots.specs.Kept.{ServesSlots}
use Rattle.track_store.specs.Tracks.{ServesTracks}
use Rattle.promises.specs.declared.machine.Machine.{Machine}

-- both have as many records as the supervisor uses, and their records are observable
pub record IsReady (m : Machine) : Type 0 where
  pub drum : ServesSlots (rows_told m.drum) (length m.drum.contents) m.drum.words_each 3840
  pub disk : ServesTracks (rows_told m.disk) (length m.disk.contents) m.disk.words_each 10000
  pub drum_shows : m.drum.damages ≡ []
  pub disk_shows : m.disk.damages ≡ []
