use Rattle.std.proofs.Common.{◌≡◌, drop}
use Rattle.plan_model.specs.Levels.{is_in}
use Rattle.level_queues.proofs.row.has_in_any.Given as goal

abbrev pub invariant-loop-row : goal.invariant-loop-row
invariant-loop-row l = is_in l.user l.rows ≡ is_in l.user (drop l.row-index l.rows)
