use Rattle.level_queues.proofs.Spending.{first_below}
use Rattle.level_queues.proofs.row.first_in.Goals as goal

pub loop-level-init : goal.loop-level-init
loop-level-init c = first_below c.args.low c.args.rows.now c.requires.empty
