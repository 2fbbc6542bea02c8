use Rattle.std.proofs.Common.{◌≡◌, ◌*◌, ◌^◌, ◌≤◌, drop}
use Rattle.picture_model.specs.Folds.{cut_before}
use Rattle.schedule_figures.proofs.chart.place.cut_before.Given as goal

abbrev pub invariant-loop-entry : goal.invariant-loop-entry
invariant-loop-entry l = record {
  same : cut_before l.place l.cut (drop l.entry-index l.entries) ≡ cut_before l.place 0 l.entries;
  below : l.cut ≤ 2 ^ 64 * l.entry-index;
}
