use Rattle.std.proofs.Common.{length}
use Rattle.level_queues.proofs.row.«+earliest_of».Given as goal

abbrev pub decreases-earliest_of : goal.decreases-earliest_of
decreases-earliest_of l = length l.items.now
