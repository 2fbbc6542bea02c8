use Rattle.std.proofs.Common.{[], ◌++◌, ◌+◌, refl}
use Rattle.picture_model.specs.FigureLines.{between, user_line, user_lines}
use Rattle.schedule_figures.proofs.UserLines.{user_more, users_done}
use Rattle.text_writer.proofs.Added.{◌⨾◌, adds_is, adds_none}
use Rattle.schedule_figures.proofs.users.add_user_lines.Goals as goal

pub loop-index-init : goal.loop-index-init
loop-index-init g c = ([], adds_none g.K.Sink c.args.out.now, refl)

pub loop-index-preserved : goal.loop-index-preserved
loop-index-preserved g c = (
  c.loop-index.invariant.0
      ++ between c.args.front.now c.args.behind.now (user_line (c.loop-index.index + 1) c.index-accounts-index.result c.args.entries.now),
  c.loop-index.invariant.1 ⨾ (c.add.ensures ⨾ c.add_user_line.ensures ⨾ c.add-in-loop-index.ensures),
  user_more c.args.front.now c.args.behind.now c.args.entries.now c.args.accounts.now c.loop-index.index c.index-accounts-index.result
      c.loop-index.invariant.0 (user_lines c.args.front.now c.args.behind.now 1 c.args.accounts.now c.args.entries.now) c.loop-index-test.true
      c.index-accounts-index.is c.loop-index.invariant.2,
)

pub returns : goal.returns
returns g c =
    adds_is
    (users_done c.args.front.now c.args.behind.now c.args.entries.now c.args.accounts.now c.loop-index.index c.loop-index.invariant.0
    (user_lines c.args.front.now c.args.behind.now 1 c.args.accounts.now c.args.entries.now) c.loop-index-test.false c.loop-index.invariant.2)
    c.loop-index.invariant.1
