use Rattle.std.proofs.Common.{◌≡◌, ◌++◌, ◌+◌, ◌≤◌}
use Rattle.text_model.specs.Made.{made_events}
use Rattle.made_script.proofs.events.add_events.Given as goal

abbrev pub invariant-users : goal.invariant-users
invariant-users l = record {
  same : l.list ++ made_events l.left l.user ≡ l.fn.list ++ made_events l.fn.users 1;
  next : l.left + l.user ≡ l.fn.users + 1;
  some : 1 ≤ l.user;
}

abbrev pub decreases-users : goal.decreases-users
decreases-users l = l.left
