use Rattle.std.proofs.Common.{◌≡◌, ◌++◌, ◌+◌, ℕ, List, drop}
use Rattle.text_model.specs.Report.{accounts_text}
use Rattle.text_writer.specs.Writing.{Adds}
use Rattle.text_writer.proofs.report.account.add_accounts.Given as goal

-- the accounts so far were added, and with those that are left they are all
abbrev pub invariant-loop-index : goal.invariant-loop-index
invariant-loop-index g l =
    (done : List ℕ) × Adds g.K.Sink done l.fn.out l.out
    × (done ++ accounts_text l.dump (l.index + 1) (drop l.index l.accounts) l.run ≡ accounts_text l.dump 1 l.accounts l.run)
