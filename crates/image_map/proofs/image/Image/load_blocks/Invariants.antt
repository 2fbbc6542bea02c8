use Rattle.std.proofs.Common.{◌≡◌, ◌⊎◌, ℕ, ◌+◌, ◌<◌, ◌≤◌}
use Rattle.core_bank.specs.Bank.{block_at}
use Rattle.image_map.specs.Image.{state}
use Rattle.image_map.specs.Images.{IsResident}
use Rattle.image_map.specs.Moves.{loads_below, Holds, AreMoved}
use Rattle.image_map.specs.State.{base}
use Rattle.image_map.proofs.image.Image.load_blocks.Given as goal

abbrev pub invariant-loading : goal.invariant-loading
invariant-loading g l = record {
  holds : Holds l.fn.self l.self;
  moved : AreMoved (loads_below (state l.fn.self) l.fn.user l.b (block_at l.self.bank)) l.fn.self l.self;
  resident : IsResident l.self.tables.owners l.b l.fn.user;
  bases : l.self.tables.owners.bases ≡ l.fn.self.tables.owners.bases;
  others : (q : ℕ) → (q < base (state l.fn.self) l.fn.user) ⊎ (base (state l.fn.self) l.fn.user + l.b ≤ q) → block_at l.self.bank q ≡ block_at l.fn.self.bank q;
}
