use Rattle.plan_model.specs.Levels.{without_user}
use Rattle.level_queues.proofs.Counts.{over_at}
use Rattle.level_queues.proofs.row.drop_in_all.Goals as goal

pub loop-row-preserved : goal.loop-row-preserved
loop-row-preserved c = over_at (without_user c.args.user) c.args.rows.now c.loop-row.rows c.loop-row.row-index _ _ c.loop-row-test.true c.loop-row.auto.rows c.loop-row.invariant c.drop_user.ensures
