use Rattle.std.proofs.Common.{◌≡◌, ◌≤◌, ◌*◌, ◌^◌, take}
use Rattle.picture_model.specs.Figures.{total}
use Rattle.schedule_figures.specs.Time.{idle_of}
use Rattle.schedule_figures.proofs.time.idle_in.Given as goal

abbrev pub invariant-loop-entry : goal.invariant-loop-entry
invariant-loop-entry l = record {
  value : l.idle ≡ total idle_of (take l.entry-index l.entries);
  below : l.idle ≤ 2 ^ 64 * l.entry-index;
}
