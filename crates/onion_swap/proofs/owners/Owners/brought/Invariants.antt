use Rattle.std.specs.Prelude.{nat_eq, slice_index_or, false}
use Rattle.std.proofs.Common.{◌≡◌, ◌+◌, ◌≤◌}
use Rattle.plan_model.specs.Loads.{count_below}
use Rattle.onion_swap.specs.Places.{owner_of, base_of}
use Rattle.onion_swap.specs.Brought.{comes_back, comes_fresh}
use Rattle.onion_swap.proofs.owners.Owners.brought.Given as goal

abbrev pub invariant-bringing : goal.invariant-bringing
invariant-bringing l = record {
  read : l.read ≡ count_below l.b (λ b. comes_back l.stays (nat_eq (owner_of l.self.owners (base_of l.self.bases l.user + b)) l.user) (slice_index_or l.kept b false));
  fresh : l.fresh ≡ count_below l.b (λ b. comes_fresh (nat_eq (owner_of l.self.owners (base_of l.self.bases l.user + b)) l.user) (slice_index_or l.kept b false));
  bounds : (l.read ≤ l.b) × (l.fresh ≤ l.b);
}
