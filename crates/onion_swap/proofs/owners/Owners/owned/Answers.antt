use Rattle.std.proofs.Common.{◌∙◌, arith}
use Rattle.onion_swap.specs.Places.{owner_of}
use Rattle.onion_swap.proofs.Owned.{owned_is}
use Rattle.onion_swap.proofs.owners.Owners.owned.Goals as goal

pub returns-clause-value : goal.returns-clause-value
returns-clause-value c = c.counting.invariant.count ∙ owned_is (owner_of c.args.self.now.owners) c.args.user c.counting.place (omega arith)
