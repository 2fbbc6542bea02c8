use Rattle.std.proofs.Common.{◌≡◌, drop}
use Rattle.std.specs.List.{list_any}
use Rattle.plan_model.specs.Levels.{is_user}
use Rattle.level_queues.proofs.row.spend_each.Given as goal

abbrev pub invariant-loop-i : goal.invariant-loop-i
invariant-loop-i l = (l.items ≡ l.fn.items) × (list_any (is_user l.user) l.fn.items ≡ list_any (is_user l.user) (drop l.i l.fn.items))
