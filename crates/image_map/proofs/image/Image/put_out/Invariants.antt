use Rattle.std.proofs.Common.{◌≡◌}
use Rattle.image_map.specs.Image.{state}
use Rattle.image_map.specs.Moves.{puts_below, Holds, AreMoved}
use Rattle.image_map.proofs.image.Image.put_out.Given as goal

abbrev pub invariant-putting : goal.invariant-putting
invariant-putting g l = record {
  holds : Holds l.fn.self l.self;
  moved : AreMoved (puts_below (state l.fn.self) l.fn.user l.place) l.fn.self l.self;
  bank : l.self.bank ≡ l.fn.self.bank;
  bases : l.self.tables.owners.bases ≡ l.fn.self.tables.owners.bases;
}
