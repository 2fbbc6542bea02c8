use Rattle.std.proofs.Common.{◌∙◌, sym, arith}
use Rattle.picture_model.specs.Cores.{owner_in}
use Rattle.schedule_figures.specs.Maps.{users_of}
use Rattle.schedule_figures.proofs.Stretches.{stretch_on}
use Rattle.schedule_figures.proofs.chart.owners.stretch_from.Goals as goal

pub loop-next-preserved : goal.loop-next-preserved
loop-next-preserved c =
    let l = c.loop-next in
    let on = stretch_on (owner_in (users_of c.args.core.now)) c.args.user l.next c.loop-next-test.true
    (sym c.owner_at.ensures ∙ c.if-owner_at-user.false) in
    record {
      from = omega (arith, l.invariant.from);
      until = omega (arith, c.loop-next-test.true);
      same = omega (arith, on, l.invariant.same, l.invariant.from);
    }
