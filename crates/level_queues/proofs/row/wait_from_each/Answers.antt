use Rattle.plan_model.specs.Levels.{from_now}
use Rattle.level_queues.proofs.Counts.{over_at}
use Rattle.level_queues.proofs.row.wait_from_each.Goals as goal

pub loop-item-preserved : goal.loop-item-preserved
loop-item-preserved c = over_at (from_now c.args.user c.args.now) c.args.items.now c.loop-item.items c.loop-item.item-index _ _ c.loop-item-test.true c.loop-item.auto.items c.loop-item.invariant c.waiting_from.ensures
