use Rattle.std.proofs.Common.{◌*◌, ◌^◌, ◌≤◌, drop}
use Rattle.picture_model.specs.declared.request.Track.TheVariants.{Fresh}
use Rattle.picture_model.specs.Marks.{served_row}
use Rattle.schedule_figures.specs.Painted.{IsOnTheWay}
use Rattle.schedule_figures.proofs.chart.rows.served_row.Given as goal

abbrev pub invariant-loop-entry : goal.invariant-loop-entry
invariant-loop-entry l = record {
  painted : IsOnTheWay l.each (served_row l.swap l.user l.cut l.track (drop l.entry-index l.entries)) (served_row l.swap l.user 0 Fresh l.entries) l.row;
  below : l.cut ≤ 2 ^ 64 * l.entry-index;
}
