use Rattle.std.proofs.Common.{◌*◌, ◌^◌, ◌≤◌, drop}
use Rattle.picture_model.specs.Marks.{level_row}
use Rattle.schedule_figures.specs.Painted.{IsOnTheWay}
use Rattle.schedule_figures.proofs.chart.rows.level_row.Given as goal

abbrev pub invariant-loop-entry : goal.invariant-loop-entry
invariant-loop-entry l = record {
  painted : IsOnTheWay l.each (level_row l.level l.cut (drop l.entry-index l.entries)) (level_row l.level 0 l.entries) l.row;
  below : l.cut ≤ 2 ^ 64 * l.entry-index;
}
