use Rattle.std.proofs.Common.{◌≡◌, drop}
use Rattle.plan_model.specs.Levels.{has_waited, first_with}
use Rattle.level_queues.proofs.row.first_waiting_in.Given as goal

abbrev pub invariant-loop-level : goal.invariant-loop-level
invariant-loop-level l = first_with (has_waited l.age l.served l.now) 1 (drop 1 l.rows) ≡ first_with (has_waited l.age l.served l.now) l.level (drop l.level l.rows)
