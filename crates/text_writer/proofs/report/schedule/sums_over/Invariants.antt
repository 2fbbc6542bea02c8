use Rattle.std.proofs.Common.{◌≤◌, ◌*◌, ◌^◌, ◌-◌, drop, length}
use Rattle.text_writer.specs.Sums.{AreSums, AreBelow}
use Rattle.text_writer.proofs.report.schedule.sums_over.Given as goal

abbrev pub invariant-entries : goal.invariant-entries
invariant-entries l = record {
  within : l.at ≤ length l.entries;
  sums : AreSums l.sums (drop l.at l.entries);
  below : AreBelow (2 ^ 64 * (length l.entries - l.at)) l.sums;
}

abbrev pub decreases-entries : goal.decreases-entries
decreases-entries l = l.at
