use Rattle.std.proofs.Common.{◌≡◌, ◌<◌, ◌≤◌, ℕ, false, length}
use Rattle.time_sharing.specs.System.{at}
use Rattle.system_model.specs.Cases.{user_at}
use Rattle.supervisor.proofs.login.mark_on.Given as goal

abbrev pub invariant-users : goal.invariant-users
invariant-users l = record {
  list : l.accounts.list ≡ l.fn.accounts.list;
  few : length l.fn.accounts.list ≤ 30;
  all : length l.accounts.on ≡ length l.accounts.list;
  on : (u : ℕ) → 0 < u → u ≤ l.i → at false l.accounts.on u ≡ (user_at u l.sessions).on;
  end : l.count ≡ length l.fn.accounts.list;
}
