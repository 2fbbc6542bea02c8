use Rattle.level_queues.specs.Sound.{AreEmpty}
use Rattle.level_queues.proofs.row.lowest_in.Given as goal

abbrev pub invariant-loop-level : goal.invariant-loop-level
invariant-loop-level l = AreEmpty l.level l.rows
