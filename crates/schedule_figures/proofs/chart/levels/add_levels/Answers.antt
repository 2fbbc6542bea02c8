use Rattle.picture_model.specs.Chart.{level_line}
use Rattle.text_writer.proofs.Added.{adds_none, adds_next, adds_all}
use Rattle.schedule_figures.proofs.chart.levels.add_levels.Goals as goal

pub loop-level-init : goal.loop-level-init
loop-level-init g c = adds_none g.K.Sink c.args.out.now

pub loop-level-preserved : goal.loop-level-preserved
loop-level-preserved g c =
    adds_next g.K.Sink (level_line c.args.columns.each c.args.columns.count c.args.entries.now) c.args.levels.now c.loop-level.level-index 0 _ _ _
    c.loop-level-test.true c.loop-level.invariant c.add_level.ensures

pub returns : goal.returns
returns g c =
    adds_all g.K.Sink (level_line c.args.columns.each c.args.columns.count c.args.entries.now) c.args.levels.now c.loop-level.level-index _ _
    c.loop-level-test.false c.loop-level.invariant
