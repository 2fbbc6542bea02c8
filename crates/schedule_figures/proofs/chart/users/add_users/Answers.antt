use Rattle.std.proofs.Common.{[], ◌++◌, ◌+◌, refl}
use Rattle.picture_model.specs.Chart.{user_rows}
use Rattle.schedule_figures.proofs.Numbered.{user_more, users_done}
use Rattle.text_writer.proofs.Added.{◌⨾◌, adds_is, adds_none}
use Rattle.schedule_figures.proofs.chart.users.add_users.Goals as goal

pub loop-index-init : goal.loop-index-init
loop-index-init g c = ([], adds_none g.K.Sink c.args.out.now, refl)

pub loop-index-preserved : goal.loop-index-preserved
loop-index-preserved g c = (
  c.loop-index.invariant.0
      ++ user_rows c.args.swap c.args.columns.each c.args.columns.count (c.loop-index.index + 1) c.index-accounts-index.result c.args.entries.now,
  c.loop-index.invariant.1 ⨾ c.add_user.ensures,
  user_more c.args.swap c.args.columns.each c.args.columns.count c.args.entries.now c.args.accounts.now c.loop-index.index c.index-accounts-index.result
      c.loop-index.invariant.0 _ c.loop-index-test.true c.index-accounts-index.is c.loop-index.invariant.2,
)

pub returns : goal.returns
returns g c =
    adds_is
    (users_done c.args.swap c.args.columns.each c.args.columns.count c.args.entries.now c.args.accounts.now c.loop-index.index c.loop-index.invariant.0 _
    c.loop-index-test.false c.loop-index.invariant.2)
    c.loop-index.invariant.1
