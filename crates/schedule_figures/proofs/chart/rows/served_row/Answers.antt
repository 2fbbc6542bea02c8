use Rattle.std.proofs.Common.{ap, arith, ◌∙◌}
use Rattle.std.proofs.lemmas.List.{drop_all}
use Rattle.picture_model.specs.Marks.{served_marks, served_row}
use Rattle.schedule_figures.proofs.Painted.{painted_start, painted_more, painted_all}
use Rattle.schedule_figures.proofs.Left.{served_left}
use Rattle.schedule_figures.proofs.chart.rows.served_row.Goals as goal

pub loop-entry-init : goal.loop-entry-init
loop-entry-init c = record {
  painted = painted_start c.args.each _ c.blank-row.result c.blank-row.ensures.each c.blank-row.ensures.cells;
  below = omega arith;
}

pub loop-entry-preserved : goal.loop-entry-preserved
loop-entry-preserved c = record {
  painted =
      painted_more c.args.each _ (served_marks c.args.swap c.args.user c.loop-entry.cut c.loop-entry.track c.entry-item.result) _ _ c.loop-entry.row _
      (served_left c.args.swap c.args.user c.loop-entry.cut c.from-cut.result c.loop-entry.entry-index
      c.loop-entry.track c.after-track.result c.args.entries.now c.entry-item.result
      c.loop-entry-test.true c.entry-item.is (c.from-cut.ensures ∙ c.cut_of.ensures) c.after-track.ensures)
      c.loop-entry.invariant.painted c.paint_served.ensures;
  below = omega arith;
}

pub returns : goal.returns
returns c =
    painted_all c.args.each _ _ c.loop-entry.row
    (ap (served_row c.args.swap c.args.user c.loop-entry.cut c.loop-entry.track)
    (drop_all c.loop-entry.entry-index c.args.entries.now c.loop-entry-test.false)) c.loop-entry.invariant.painted
