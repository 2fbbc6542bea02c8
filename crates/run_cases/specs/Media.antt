-- proof: drum and disk of a case serve as the program's do.
use Rattle.std.specs.Prelude.{length}
use Rattle.drum_slots.specs.Kept.{ServesSlots}
use Rattle.medium.specs.Rows.{told_rows}
use Rattle.track_store.specs.Tracks.{ServesTracks}
use Rattle.run_cases.specs.declared.play.Media.{Media}

pub record AreWhole (m : Media) : Type 0 where
  pub drum : ServesSlots (told_rows m.drum.records.damages m.drum.records.contents) (length m.drum.records.contents) m.drum.records.words_each 3840
  pub disk : ServesTracks (told_rows m.disk.damages m.disk.contents) (length m.disk.contents) m.disk.words_each 10000
