-- proof: what an `Image` shows.
use Rattle.std.specs.Prelude.{ℕ, List}
use Rattle.std.specs.Borrow.{MutBor}
use Rattle.medium.specs.declared.medium.Medium.{Ghosts}
use Rattle.image_map.specs.declared.image.Image.{Image}
use Rattle.image_map.specs.State.{DrumState, ImageState}

-- what is seen of a drum that is lent
abbrev pub drum_seen : {D : Type 0} → Ghosts D → MutBor D → DrumState
drum_seen g drum = record {
  name = drum.ghost_name;
  contents = g.contents drum.now;
  count = g.record_count drum.now;
  each = g.words_each drum.now;
  calls = g.calls drum.now;
  faults = g.faults drum.now;
}

module _ {D : Type 0} {g : Ghosts D} where
  abbrev pub state : Image D g → ImageState
  state it = record {
    failed = it.failed;
    layout = it.tables.owners;
    slots = it.tables.kept.slots;
    sizes = it.tables.sizes.items;
    words = it.bank;
    drum = drum_seen g it.tables.kept.drum;
  }

  -- the drum's own value
  abbrev pub drum_of : Image D g → D
  drum_of it = it.tables.kept.drum.now

  -- with other words in core
  abbrev pub with_words : Image D g → List ℕ → Image D g
  with_words it words = record it { bank = words }
