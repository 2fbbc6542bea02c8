use Rattle.std.proofs.Common.{◌*◌, ◌^◌, ◌≤◌, drop}
use Rattle.picture_model.specs.Marks.{event_row}
use Rattle.schedule_figures.specs.Painted.{IsOnTheWay}
use Rattle.schedule_figures.proofs.chart.rows.event_row.Given as goal

abbrev pub invariant-loop-entry : goal.invariant-loop-entry
invariant-loop-entry l = record {
  painted : IsOnTheWay l.each (event_row l.user l.cut (drop l.entry-index l.entries)) (event_row l.user 0 l.entries) l.row;
  below : l.cut ≤ 2 ^ 64 * l.entry-index;
}
