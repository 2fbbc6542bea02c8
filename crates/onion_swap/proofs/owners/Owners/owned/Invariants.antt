use Rattle.std.specs.Prelude.{nat_eq}
use Rattle.std.proofs.Common.{◌≡◌, ◌≤◌}
use Rattle.plan_model.specs.Loads.{count_below}
use Rattle.onion_swap.specs.Places.{owner_of}
use Rattle.onion_swap.proofs.owners.Owners.owned.Given as goal

abbrev pub invariant-counting : goal.invariant-counting
invariant-counting l = record {
  count : l.count ≡ count_below l.place (λ q. nat_eq (owner_of l.self.owners q) l.user);
  bound : l.count ≤ l.place;
}
