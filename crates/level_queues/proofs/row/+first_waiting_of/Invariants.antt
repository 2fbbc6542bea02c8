use Rattle.std.proofs.Common.{length}
use Rattle.level_queues.proofs.row.«+first_waiting_of».Given as goal

abbrev pub decreases-first_waiting_of : goal.decreases-first_waiting_of
decreases-first_waiting_of l = length l.items.now
