use Rattle.std.proofs.Common.{◌≤◌, ◌*◌, ◌^◌, ◌-◌, drop, length}
use Rattle.schedule_figures.specs.Work.{IsWork, AreBelow}
use Rattle.schedule_figures.proofs.work.work_of.Given as goal

abbrev pub invariant-entries : goal.invariant-entries
invariant-entries l = record {
  within : l.at ≤ length l.entries;
  work : IsWork l.user l.work (drop l.at l.entries);
  below : AreBelow (2 ^ 64 * (length l.entries - l.at)) l.work;
}

abbrev pub decreases-entries : goal.decreases-entries
decreases-entries l = l.at
