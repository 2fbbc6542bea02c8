use Rattle.std.proofs.Common.{sym, ◌∙◌}
use Rattle.drum_slots.proofs.Slotted.{not_free_below}
use Rattle.drum_slots.proofs.slots.Slots.free_at.Goals as goal

pub release-requires-clause-at : goal.release-requires-clause-at
release-requires-clause-at c = not_free_below _ c.in-Some.at (c.args.self.now.sound.held c.args.place c.in-Some.at (sym c.slot.ensures ∙ c.in-Some.is))
