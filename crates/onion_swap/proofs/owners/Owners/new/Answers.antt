use Rattle.onion_swap.proofs.Owned.{first_layout_is}
use Rattle.onion_swap.proofs.owners.Owners.new.Goals as goal

pub invariant_of-result : goal.invariant_of-result
invariant_of-result c = first_layout_is
