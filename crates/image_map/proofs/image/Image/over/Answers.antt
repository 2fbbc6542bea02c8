use Rattle.std.proofs.Common.{ap}
use Rattle.onion_swap.specs.Places.{Layout}
use Rattle.image_map.proofs.Moves.{sound_new}
use Rattle.image_map.proofs.image.Image.over.Goals as goal

pub invariant_of-tables : goal.invariant_of-tables
invariant_of-tables g c = record {
  sound = rw (c.over.ensures.slots)
      (sound_new c.new.result.bases c.new.result.owners c.args.slots.slots.items c.args.slots.quotas.items c.args.sizes.items (ap (λ (l : Layout). l.bases) c.new.ensures.value) (ap (λ (l : Layout). l.owners) c.new.ensures.value)
      c.requires.none c.requires.sizes c.requires.few c.requires.limit);
}
