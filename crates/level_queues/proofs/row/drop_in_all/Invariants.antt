use Rattle.std.proofs.Common.{◌≡◌, ◌++◌, map, take, drop}
use Rattle.plan_model.specs.Levels.{without_user}
use Rattle.level_queues.proofs.row.drop_in_all.Given as goal

abbrev pub invariant-loop-row : goal.invariant-loop-row
invariant-loop-row l = l.rows ≡ map (without_user l.user) (take l.row-index l.fn.rows) ++ drop l.row-index l.fn.rows
