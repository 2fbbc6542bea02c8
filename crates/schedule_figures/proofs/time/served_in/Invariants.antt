use Rattle.std.proofs.Common.{◌≡◌, ◌≤◌, ◌*◌, ◌^◌, take}
use Rattle.picture_model.specs.Figures.{total}
use Rattle.schedule_figures.specs.Time.{served_of}
use Rattle.schedule_figures.proofs.time.served_in.Given as goal

abbrev pub invariant-loop-entry : goal.invariant-loop-entry
invariant-loop-entry l = record {
  value : l.served ≡ total served_of (take l.entry-index l.entries);
  below : l.served ≤ 2 ^ 64 * l.entry-index;
}
