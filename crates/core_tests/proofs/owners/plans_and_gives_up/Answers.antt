use Rattle.std.proofs.Common.{◌≡◌, ◌∙◌, ap, arith}
use Rattle.onion_swap.specs.Places.{Layout, owner_of}
use Rattle.image_map.proofs.Moves.{none_in}
use Rattle.core_tests.proofs.owners.plans_and_gives_up.Goals as goal

pub settle-requires-clause-none : goal.settle-requires-clause-none
settle-requires-clause-none g c = λ place is.
    let none : owner_of c.new-owners.result.owners place ≡ 0 = ap (λ (l : Layout). owner_of l.owners place) c.new-owners.ensures.value ∙ none_in 128 place in
    absurd (omega arith)
