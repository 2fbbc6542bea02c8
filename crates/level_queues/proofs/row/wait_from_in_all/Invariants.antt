use Rattle.std.proofs.Common.{◌≡◌, ◌++◌, map, take, drop}
use Rattle.plan_model.specs.Levels.{from_now}
use Rattle.level_queues.proofs.row.wait_from_in_all.Given as goal

abbrev pub invariant-loop-row : goal.invariant-loop-row
invariant-loop-row l = l.rows ≡ map (map (from_now l.user l.now)) (take l.row-index l.fn.rows) ++ drop l.row-index l.fn.rows
