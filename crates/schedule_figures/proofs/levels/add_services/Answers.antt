use Rattle.std.proofs.Common.{ap}
use Rattle.text_model.specs.Parts.{column}
use Rattle.schedule_figures.specs.Levels.{services_column}
use Rattle.text_writer.proofs.Added.{adds_is, adds_none, adds_next, adds_all}
use Rattle.schedule_figures.proofs.levels.add_services.Goals as goal

pub loop-cause-init : goal.loop-cause-init
loop-cause-init g c = adds_none g.K.Sink c.args.out.now

pub loop-cause-preserved : goal.loop-cause-preserved
loop-cause-preserved g c =
    adds_next g.K.Sink (services_column c.args.level c.args.entries.now) c.args.causes.now c.loop-cause.cause-index _ _ _ _
    c.loop-cause-test.true c.loop-cause.invariant (adds_is (ap (column 10) c.services.ensures) c.add_column.ensures)

pub returns : goal.returns
returns g c =
    adds_all g.K.Sink (services_column c.args.level c.args.entries.now) c.args.causes.now c.loop-cause.cause-index _ _ c.loop-cause-test.false c.loop-cause.invariant
