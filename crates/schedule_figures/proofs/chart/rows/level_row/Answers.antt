use Rattle.std.proofs.Common.{ap, arith, ◌∙◌}
use Rattle.std.proofs.lemmas.List.{drop_all}
use Rattle.picture_model.specs.Marks.{level_marks, level_row}
use Rattle.schedule_figures.proofs.Painted.{painted_start, painted_more, painted_all}
use Rattle.schedule_figures.proofs.Left.{levels_left}
use Rattle.schedule_figures.proofs.chart.rows.level_row.Goals as goal

pub loop-entry-init : goal.loop-entry-init
loop-entry-init c = record {
  painted = painted_start c.args.each _ c.blank-row.result c.blank-row.ensures.each c.blank-row.ensures.cells;
  below = omega arith;
}

pub loop-entry-preserved : goal.loop-entry-preserved
loop-entry-preserved c = record {
  painted =
      painted_more c.args.each _ (level_marks c.args.level c.loop-entry.cut c.entry-item.result) _ _ c.loop-entry.row _
      (levels_left c.args.level c.loop-entry.cut c.from-cut.result c.loop-entry.entry-index c.args.entries.now c.entry-item.result
      c.loop-entry-test.true c.entry-item.is (c.from-cut.ensures ∙ c.cut_of.ensures))
      c.loop-entry.invariant.painted c.paint_level.ensures;
  below = omega arith;
}

pub returns : goal.returns
returns c =
    painted_all c.args.each _ _ c.loop-entry.row
    (ap (level_row c.args.level c.loop-entry.cut) (drop_all c.loop-entry.entry-index c.args.entries.now c.loop-entry-test.false)) c.loop-entry.invariant.painted
