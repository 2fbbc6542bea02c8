use Rattle.level_queues.proofs.Rising.{waiting_known}
use Rattle.level_queues.proofs.queues.Queues.due.Goals as goal

pub returns-clause-known : goal.returns-clause-known
returns-clause-known c = waiting_known c.self.inside.wq c.self.inside.quantum c.self.inside.rows _ c.first_waiting_in.result c.self.invariant.0 c.first_waiting_in.ensures.value
