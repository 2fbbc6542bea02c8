use Rattle.schedule_figures.specs.Levels.{service_line}
use Rattle.text_writer.proofs.Added.{◌⨾◌, adds_none, adds_next, adds_all}
use Rattle.schedule_figures.proofs.levels.add_service_lines.Goals as goal

pub loop-level-init : goal.loop-level-init
loop-level-init g c = adds_none g.K.Sink c.args.out.now

pub loop-level-preserved : goal.loop-level-preserved
loop-level-preserved g c =
    adds_next g.K.Sink (service_line c.args.front.now c.args.behind.now c.args.entries.now) c.args.levels.now c.loop-level.level-index 0 _ _ _
    c.loop-level-test.true c.loop-level.invariant (c.add.ensures ⨾ c.add_service_line.ensures ⨾ c.add-in-loop-level.ensures)

pub returns : goal.returns
returns g c =
    adds_all g.K.Sink (service_line c.args.front.now c.args.behind.now c.args.entries.now) c.args.levels.now c.loop-level.level-index _ _
    c.loop-level-test.false c.loop-level.invariant
