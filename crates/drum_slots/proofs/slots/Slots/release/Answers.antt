use Rattle.std.specs.Prelude.{None}
use Rattle.std.proofs.Common.{length-set, ◌∙◌}
use Rattle.drum_slots.proofs.Slotted.{sound_release}
use Rattle.drum_slots.proofs.slots.Slots.release.Goals as goal

pub invariant_of-self-clause-sound : goal.invariant_of-self-clause-sound
invariant_of-self-clause-sound c = sound_release _ _ c.args.place c.args.at c.args.self.now.sound c.requires.kept

pub invariant_of-self-clause-places : goal.invariant_of-self-clause-places
invariant_of-self-clause-places c = length-set c.args.self.now.slots.items c.args.place None ∙ c.args.self.now.places
