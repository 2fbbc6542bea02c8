use Rattle.std.proofs.Common.{rules}
use Rattle.level_queues.proofs.Rising.{sound_now, empty_now, rise_now}
use Rattle.level_queues.proofs.queues.Queues.preempt.Goals as goal

pub invariant_of-self : goal.invariant_of-self
invariant_of-self c =
    rw c.wait_from_in_all.ensures (sound_now _ _ _ _ _ c.self.invariant.0, empty_now _ _ _ _ c.self.invariant.1, c.self.invariant.2, rise_now _ _ _ _ _ _ _ c.self.invariant.3 (search rules) (search rules))
