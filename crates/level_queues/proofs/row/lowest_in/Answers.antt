use Rattle.std.proofs.Common.{◌≡◌, ℕ, subst, arith}
use Rattle.level_queues.specs.Sound.{AreEmpty}
use Rattle.level_queues.proofs.row.lowest_in.Goals as goal

pub returns-clause-empty : goal.returns-clause-empty
returns-clause-empty c = let end : c.loop-level.level ≡ 8 = omega arith in subst (λ (n : ℕ). AreEmpty n c.args.rows.now) end c.loop-level.invariant
