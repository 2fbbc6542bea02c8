use Rattle.std.proofs.Common.{rules, refl}
use Rattle.level_queues.proofs.Spending.{in_below, row_once, row_here, row_on, rows_past}
use Rattle.level_queues.proofs.row.spend_in_all.Goals as goal

pub loop-i-init : goal.loop-i-init
loop-i-init c = (refl, in_below c.args.user c.args.low c.args.rows.now c.requires.empty)

pub spend-requires : goal.spend-requires
spend-requires c = row_once c.args.user c.args.rows.now c.loop-i.rows c.loop-i.i _ c.loop-i.invariant.0 (search rules) c.requires.once

pub returns-then-spend : goal.returns-then-spend
returns-then-spend c =
    row_here c.args.ticks c.args.user c.args.rows.now c.loop-i.rows c.loop-i.i _ c.spend.new.self c.loop-i.invariant.0 (search rules) c.spend.ensures.spent (search rules) c.requires.once

pub loop-i-preserved : goal.loop-i-preserved
loop-i-preserved c =
    row_on c.args.ticks c.args.user c.args.rows.now c.loop-i.rows c.loop-i.i _ c.spend.new.self c.loop-i.invariant.0 c.loop-i.invariant.1 (search rules) c.spend.ensures.spent (search rules)

pub returns : goal.returns
returns c = rows_past c.args.ticks c.args.user c.args.rows.now c.loop-i.rows c.loop-i.i c.loop-i.invariant.0 c.loop-i.invariant.1 (search rules)
