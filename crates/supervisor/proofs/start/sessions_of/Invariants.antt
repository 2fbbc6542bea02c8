use Rattle.std.proofs.Common.{◌≡◌, [], map, take}
use Rattle.ctss_types.specs.declared.script.Account.{Account}
use Rattle.user_model.specs.Session.{first_state}
use Rattle.supervisor.proofs.start.sessions_of.Given as goal

abbrev pub invariant-loop-account : goal.invariant-loop-account
invariant-loop-account l = l.sessions.items ≡ map (λ (a : Account). first_state a []) (take l.account-index l.accounts)
