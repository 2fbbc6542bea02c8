use Rattle.std.proofs.Common.{◌≡◌, ◌≤◌, ◌*◌, take}
use Rattle.picture_model.specs.Figures.{total}
use Rattle.schedule_figures.specs.Time.{moved_of}
use Rattle.schedule_figures.proofs.time.moved_in.Given as goal

abbrev pub invariant-loop-entry : goal.invariant-loop-entry
invariant-loop-entry l = record {
  value : l.moved ≡ total moved_of (take l.entry-index l.entries);
  below : l.moved ≤ 510 * l.entry-index;
}
