use Rattle.std.proofs.Common.{[], ◌++◌, ◌*◌, ℕ, ap, ◌∙◌}
use Rattle.picture_model.specs.Chart.{left_number}
use Rattle.picture_model.specs.Folds.{tick_at}
use Rattle.schedule_figures.proofs.Numbered.{ticks_start, tick_more, ticks_done}
use Rattle.text_writer.proofs.Added.{◌⨾◌, adds_is, adds_none}
use Rattle.schedule_figures.proofs.chart.ruler.add_ticks.Goals as goal

pub loop-tenth-init : goal.loop-tenth-init
loop-tenth-init g c = ([], adds_none g.K.Sink c.args.out.now, ticks_start c.args.each c.args.count c.args.entries.now)

pub loop-tenth-preserved : goal.loop-tenth-preserved
loop-tenth-preserved g c = (
  c.loop-tenth.invariant.0 ++ left_number (tick_at (10 * c.loop-tenth.tenth * c.args.each) c.args.entries.now),
  c.loop-tenth.invariant.1
      ⨾ adds_is
      (ap left_number
      (c.tick_at.ensures ∙ ap (λ (each : ℕ). tick_at (10 * c.loop-tenth.tenth * each) c.args.entries.now) c.from.ensures))
      c.add_left.ensures,
  tick_more c.args.each c.args.count c.loop-tenth.tenth c.args.entries.now c.loop-tenth.invariant.0 _ c.loop-tenth-test.true c.loop-tenth.invariant.2,
)

pub returns : goal.returns
returns g c =
    adds_is (ticks_done c.args.each c.args.count c.loop-tenth.tenth c.args.entries.now c.loop-tenth.invariant.0 _ c.loop-tenth-test.false c.loop-tenth.invariant.2)
    c.loop-tenth.invariant.1
