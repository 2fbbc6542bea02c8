use Rattle.std.proofs.Common.{[], ◌++◌, ◌+◌, refl}
use Rattle.text_model.specs.Canonical.{user_card, user_cards}
use Rattle.script_read.proofs.Users.{user_more, users_done}
use Rattle.text_writer.proofs.Added.{◌⨾◌, adds_is, adds_none}
use Rattle.script_read.proofs.text.add_users.Goals as goal

pub loop-index-init : goal.loop-index-init
loop-index-init g c = ([], adds_none g.K.Sink c.args.out.now, refl)

pub loop-index-preserved : goal.loop-index-preserved
loop-index-preserved g c = (
  c.loop-index.invariant.0 ++ user_card (c.loop-index.index + 1) c.index-accounts-index.result,
  c.loop-index.invariant.1 ⨾ c.add_user.ensures,
  user_more c.args.accounts.now c.loop-index.index c.index-accounts-index.result c.loop-index.invariant.0 (user_cards 1 c.args.accounts.now)
      c.loop-index-test.true c.index-accounts-index.is c.loop-index.invariant.2,
)

pub returns : goal.returns
returns g c =
    adds_is
    (users_done c.args.accounts.now c.loop-index.index c.loop-index.invariant.0 (user_cards 1 c.args.accounts.now) c.loop-index-test.false c.loop-index.invariant.2)
    c.loop-index.invariant.1
