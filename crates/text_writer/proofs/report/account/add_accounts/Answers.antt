use Rattle.std.proofs.Common.{[], ◌++◌, ◌+◌, ◌-◌, get_or, refl}
use Rattle.text_model.specs.Report.{account_text, accounts_text}
use Rattle.text_writer.proofs.Accounts.{account_more, accounts_done}
use Rattle.text_writer.proofs.Added.{◌⨾◌, adds_is, adds_none}
use Rattle.text_writer.proofs.report.account.add_accounts.Goals as goal

pub loop-index-init : goal.loop-index-init
loop-index-init g c = ([], adds_none g.K.Sink c.args.out.now, refl)

pub loop-index-preserved : goal.loop-index-preserved
loop-index-preserved g c = (
  c.loop-index.invariant.0
      ++ account_text c.args.dump (c.loop-index.index + 1) c.index-accounts-index.result
      (get_or c.args.run.now.transcripts (c.loop-index.index + 1 - 1) []) (get_or c.args.run.now.files (c.loop-index.index + 1 - 1) []),
  c.loop-index.invariant.1 ⨾ c.add_account.ensures,
  account_more c.args.dump c.args.run.now c.args.accounts.now c.loop-index.index c.index-accounts-index.result c.loop-index.invariant.0
      (accounts_text c.args.dump 1 c.args.accounts.now c.args.run.now) c.loop-index-test.true c.index-accounts-index.is c.loop-index.invariant.2,
)

pub returns : goal.returns
returns g c =
    adds_is
    (accounts_done c.args.dump c.args.run.now c.args.accounts.now c.loop-index.index c.loop-index.invariant.0
    (accounts_text c.args.dump 1 c.args.accounts.now c.args.run.now) c.loop-index-test.false c.loop-index.invariant.2)
    c.loop-index.invariant.1
