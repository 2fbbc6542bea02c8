use Rattle.std.proofs.Common.{◌≡◌, ◌++◌, map, take, drop}
use Rattle.plan_model.specs.Levels.{from_now}
use Rattle.level_queues.proofs.row.wait_from_each.Given as goal

abbrev pub invariant-loop-item : goal.invariant-loop-item
invariant-loop-item l = l.items ≡ map (from_now l.user l.now) (take l.item-index l.fn.items) ++ drop l.item-index l.fn.items
