use Rattle.std.proofs.Common.{◌≡◌, map, take}
use Rattle.ctss_types.specs.declared.script.Account.{Account}
use Rattle.live_run.proofs.start.quotas_of.Given as goal

abbrev pub invariant-loop-account : goal.invariant-loop-account
invariant-loop-account l = l.quotas.items ≡ map (λ (a : Account). a.blocks) (take l.account-index l.accounts)
