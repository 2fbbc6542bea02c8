use Rattle.std.proofs.Common.{◌≡◌}
use Rattle.core_bank.specs.Bank.{AreWords}
use Rattle.drum_slots.specs.Kept.{ServesSlots}
use Rattle.drum_slots.specs.Table.{records_of}
use Rattle.core_tests.proofs.images.runs.Given as goal

abbrev pub invariant-steps : goal.invariant-steps
invariant-steps g l = record {
  same : l.image.tables.kept.drum.ghost_name ≡ l.fn.image.tables.kept.drum.ghost_name;
  words : AreWords l.image.bank;
  serves : ServesSlots (g.D.Medium.contents l.image.tables.kept.drum.now)
      (g.D.Medium.record_count l.image.tables.kept.drum.now)
      (g.D.Medium.words_each l.image.tables.kept.drum.now) (records_of l.image.tables.kept.slots);
  quotas : l.image.tables.kept.slots.quotas ≡ l.fn.image.tables.kept.slots.quotas;
}
