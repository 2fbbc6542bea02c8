use Rattle.std.proofs.Common.{◌≡◌, [], get_or}
use Rattle.fap_model.specs.Terms.{items_of}
use Rattle.fap_read.proofs.item.item_at.Given as goal

abbrev pub invariant-items : goal.invariant-items
invariant-items l = get_or (items_of l.rest) l.left [] ≡ get_or (items_of l.fn.field) l.place []

abbrev pub decreases-items : goal.decreases-items
decreases-items l = l.left
