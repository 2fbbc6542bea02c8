use Rattle.std.proofs.Common.{◌≡◌, ◌+◌, drop}
use Rattle.drum_slots.specs.Slots.{first_free}
use Rattle.drum_slots.proofs.slots.first_set.Given as goal

abbrev pub invariant-loop-at : goal.invariant-loop-at
invariant-loop-at l = l.at + first_free (drop l.at l.free) ≡ first_free l.free
