use Rattle.std.proofs.Common.{◌≡◌, ◌*◌, ◌^◌, ◌≤◌, ◌+◌, drop}
use Rattle.picture_model.specs.Folds.{all_cut}
use Rattle.schedule_figures.proofs.chart.place.all_cut.Given as goal

abbrev pub invariant-loop-entry : goal.invariant-loop-entry
invariant-loop-entry l = record {
  all : l.cut + all_cut (drop l.entry-index l.entries) ≡ all_cut l.entries;
  below : l.cut ≤ 2 ^ 64 * l.entry-index;
}
