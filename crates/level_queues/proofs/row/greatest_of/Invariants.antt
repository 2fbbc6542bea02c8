use Rattle.std.proofs.Common.{◌≡◌, ◌≤◌}
use Rattle.plan_model.specs.Levels.{greatest}
use Rattle.level_queues.proofs.row.greatest_of.Given as goal

abbrev pub invariant-levels : goal.invariant-levels
invariant-levels l = record { small : l.level ≤ 8; same : greatest l.level l.n ≡ greatest 8 l.n }

abbrev pub decreases-levels : goal.decreases-levels
decreases-levels l = l.level
