use Rattle.std.proofs.Common.{◌≡◌, drop}
use Rattle.plan_model.specs.Levels.{is_in}
use Rattle.level_queues.proofs.row.spend_in_all.Given as goal

abbrev pub invariant-loop-i : goal.invariant-loop-i
invariant-loop-i l = (l.rows ≡ l.fn.rows) × (is_in l.user l.fn.rows ≡ is_in l.user (drop l.i l.fn.rows))
