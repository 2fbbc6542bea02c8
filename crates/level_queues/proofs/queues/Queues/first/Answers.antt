use Rattle.level_queues.proofs.Counts.{first_known_if}
use Rattle.level_queues.proofs.queues.Queues.first.Goals as goal

pub returns-clause-known : goal.returns-clause-known
returns-clause-known c = first_known_if c.self.inside.wq c.self.inside.quantum c.self.inside.rows c.first_in.result c.self.invariant.0 c.first_in.ensures.value
