use Rattle.std.proofs.Common.{length}
use Rattle.level_queues.proofs.row.«+earliest_in».Given as goal

abbrev pub decreases-earliest_in : goal.decreases-earliest_in
decreases-earliest_in l = length l.rows.now
