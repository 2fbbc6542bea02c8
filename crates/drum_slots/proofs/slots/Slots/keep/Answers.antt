use Rattle.std.specs.Prelude.{Some}
use Rattle.std.proofs.Common.{length-set, ◌∙◌}
use Rattle.drum_slots.proofs.Slotted.{sound_keep}
use Rattle.drum_slots.proofs.slots.Slots.keep.Goals as goal

pub invariant_of-self-clause-sound : goal.invariant_of-self-clause-sound
invariant_of-self-clause-sound c = sound_keep _ _ c.args.place c.args.at c.args.self.now.sound c.requires.inside c.requires.empty c.requires.at c.requires.is_free

pub invariant_of-self-clause-places : goal.invariant_of-self-clause-places
invariant_of-self-clause-places c = length-set c.args.self.now.slots.items c.args.place (Some c.args.at) ∙ c.args.self.now.places
