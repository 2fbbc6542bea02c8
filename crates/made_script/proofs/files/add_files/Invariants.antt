use Rattle.std.proofs.Common.{◌≡◌, ◌++◌, ◌+◌, ◌≤◌}
use Rattle.text_model.specs.Made.{made_files}
use Rattle.made_script.proofs.files.add_files.Given as goal

abbrev pub invariant-users : goal.invariant-users
invariant-users l = record {
  same : l.list ++ made_files l.left l.user l.x ≡ l.fn.list ++ made_files l.fn.users 1 l.fn.start;
  next : l.left + l.user ≡ l.fn.users + 1;
  some : 1 ≤ l.user;
}

abbrev pub decreases-users : goal.decreases-users
decreases-users l = l.left
