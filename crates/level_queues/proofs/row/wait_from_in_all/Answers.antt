use Rattle.std.proofs.Common.{map}
use Rattle.plan_model.specs.Levels.{from_now}
use Rattle.level_queues.proofs.Counts.{over_at}
use Rattle.level_queues.proofs.row.wait_from_in_all.Goals as goal

pub loop-row-preserved : goal.loop-row-preserved
loop-row-preserved c = over_at (map (from_now c.args.user c.args.now)) c.args.rows.now c.loop-row.rows c.loop-row.row-index _ _ c.loop-row-test.true c.loop-row.auto.rows c.loop-row.invariant c.wait_from.ensures
