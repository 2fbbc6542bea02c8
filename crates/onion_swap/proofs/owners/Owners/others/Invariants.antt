use Rattle.std.proofs.Common.{◌≡◌, ◌≤◌}
use Rattle.plan_model.specs.Loads.{others_from}
use Rattle.onion_swap.specs.Places.{owner_of}
use Rattle.onion_swap.proofs.owners.Owners.others.Given as goal

abbrev pub invariant-counting : goal.invariant-counting
invariant-counting l = record {
  count : l.count ≡ others_from (owner_of l.self.owners) l.user l.k l.from;
  bound : l.count ≤ l.k;
}
