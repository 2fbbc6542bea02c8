use Rattle.level_queues.proofs.Counts.{sound_spent}
use Rattle.level_queues.proofs.Spending.{empty_spent}
use Rattle.level_queues.proofs.Rising.{rise_spent}
use Rattle.level_queues.proofs.queues.Queues.tick.Goals as goal

pub invariant_of-self : goal.invariant_of-self
invariant_of-self c = rw c.spend_in_all.ensures (sound_spent _ _ _ _ _ c.self.invariant.0, empty_spent _ _ _ _ c.self.invariant.1, c.self.invariant.2, rise_spent _ _ _ _ _ _ c.self.invariant.3)
