use Rattle.std.proofs.Common.{◌≡◌}
use Rattle.drum_slots.specs.Kept.{ServesSlots}
use Rattle.drum_slots.specs.Table.{records_of}
use Rattle.core_tests.proofs.slots.runs.Given as goal

abbrev pub invariant-steps : goal.invariant-steps
invariant-steps g l = record {
  same : l.table.drum.ghost_name ≡ l.fn.table.drum.ghost_name;
  serves : ServesSlots (g.D.Medium.contents l.table.drum.now) (g.D.Medium.record_count l.table.drum.now)
      (g.D.Medium.words_each l.table.drum.now) (records_of l.table.slots);
  count : g.D.Medium.record_count l.table.drum.now ≡ g.D.Medium.record_count l.fn.table.drum.now;
  quotas : l.table.slots.quotas ≡ l.fn.table.slots.quotas;
}
