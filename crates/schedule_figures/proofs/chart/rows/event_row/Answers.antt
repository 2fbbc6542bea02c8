use Rattle.std.proofs.Common.{ap, arith, ◌∙◌}
use Rattle.std.proofs.lemmas.List.{drop_all}
use Rattle.picture_model.specs.Marks.{event_marks, event_row}
use Rattle.schedule_figures.proofs.Painted.{painted_start, painted_more, painted_all}
use Rattle.schedule_figures.proofs.Left.{events_left}
use Rattle.schedule_figures.proofs.chart.rows.event_row.Goals as goal

pub loop-entry-init : goal.loop-entry-init
loop-entry-init c = record {
  painted = painted_start c.args.each _ c.blank-row.result c.blank-row.ensures.each c.blank-row.ensures.cells;
  below = omega arith;
}

pub loop-entry-preserved : goal.loop-entry-preserved
loop-entry-preserved c = record {
  painted =
      painted_more c.args.each _ (event_marks c.args.user c.loop-entry.cut c.entry-item.result) _ _ c.loop-entry.row _
      (events_left c.args.user c.loop-entry.cut c.from-cut.result c.loop-entry.entry-index c.args.entries.now c.entry-item.result
      c.loop-entry-test.true c.entry-item.is (c.from-cut.ensures ∙ c.cut_of.ensures))
      c.loop-entry.invariant.painted c.paint_event.ensures;
  below = omega arith;
}

pub returns : goal.returns
returns c =
    painted_all c.args.each _ _ c.loop-entry.row
    (ap (event_row c.args.user c.loop-entry.cut) (drop_all c.loop-entry.entry-index c.args.entries.now c.loop-entry-test.false)) c.loop-entry.invariant.painted
