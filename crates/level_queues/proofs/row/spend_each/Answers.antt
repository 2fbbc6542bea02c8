use Rattle.std.proofs.Common.{rules}
use Rattle.level_queues.proofs.Spending.{spent_here, spent_past}
use Rattle.level_queues.proofs.row.spend_each.Goals as goal

pub returns-then-items-i-clause-spent : goal.returns-then-items-i-clause-spent
returns-then-items-i-clause-spent c =
    spent_here c.args.ticks c.args.user c.args.items.now c.loop-i.items c.loop-i.i _ c.saturating_sub.result c.loop-i.invariant.0 (search rules) (search rules) (search rules) c.requires

pub returns-clause-spent : goal.returns-clause-spent
returns-clause-spent c = spent_past c.args.ticks c.args.user c.args.items.now c.loop-i.items c.loop-i.i c.loop-i.invariant.0 c.loop-i.invariant.1 (search rules)
