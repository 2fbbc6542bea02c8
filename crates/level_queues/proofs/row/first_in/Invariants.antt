use Rattle.std.proofs.Common.{◌≡◌, drop}
use Rattle.plan_model.specs.Levels.{first_of}
use Rattle.level_queues.proofs.row.first_in.Given as goal

abbrev pub invariant-loop-level : goal.invariant-loop-level
invariant-loop-level l = first_of 0 l.rows ≡ first_of l.level (drop l.level l.rows)
