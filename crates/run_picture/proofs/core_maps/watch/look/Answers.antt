use Rattle.std.proofs.Common.{◌∙◌, ap}
use Rattle.image_map.specs.Image.{state}
use Rattle.image_map.specs.Places.{places_of}
use Rattle.picture_model.specs.Cores.{owner_in}
use Rattle.run_picture.proofs.core_maps.watch.look.Goals as goal

pub returns-clause-owners : goal.returns-clause-owners
unfolding places_of
returns-clause-owners g c =
    ap owner_in (c.owners-owners.ensures ∙ ap (λ i. (state i).layout.owners) c.into_parts-cores.ensures.cores)
