use Rattle.std.proofs.Common.{◌≡◌, ◌⊎◌, ◌≤◌}
use Rattle.plan_model.specs.Loads.{others_from, first_least}
use Rattle.onion_swap.specs.Places.{owner_of}
use Rattle.onion_swap.proofs.owners.Owners.least.Given as goal

abbrev pub invariant-sliding : goal.invariant-sliding
invariant-sliding l = record {
  count : l.count ≡ others_from (owner_of l.self.owners) l.user l.blocks l.from;
  base : l.base ≡ first_least l.from (others_from (owner_of l.self.owners) l.user l.blocks);
  fewest : l.fewest ≡ others_from (owner_of l.self.owners) l.user l.blocks l.base;
  some : (l.base ≡ 0) ⊎ (1 ≤ l.blocks);
  bounds : (l.count ≤ l.blocks) × (l.fewest ≤ l.blocks) × (l.base ≤ l.from);
}
