use Rattle.level_queues.proofs.Counts.{sound_out}
use Rattle.level_queues.proofs.Spending.{empty_out}
use Rattle.level_queues.proofs.Rising.{rise_out}
use Rattle.level_queues.proofs.queues.Queues.drop_user.Goals as goal

pub lowest_in-self-inside-requires-clause-empty : goal.lowest_in-self-inside-requires-clause-empty
lowest_in-self-inside-requires-clause-empty c = rw c.drop_in_all.ensures (empty_out _ _ _ c.self.invariant.1)

pub invariant_of-self : goal.invariant_of-self
invariant_of-self c =
    (rw c.drop_in_all.ensures (sound_out _ _ _ _ c.self.invariant.0), c.lowest_in-self-inside.ensures.empty, c.lowest_in-self-inside.ensures.small, rw c.drop_in_all.ensures (rise_out _ _ _ _ _ c.self.invariant.3))
