use Rattle.std.proofs.Common.{◌≤◌, ◌^◌, sym, ◌∙◌, arith}
use Rattle.std.proofs.Math.Pow.{pow_mono}
use Rattle.level_queues.proofs.Greatest.{greatest-here}
use Rattle.level_queues.proofs.row.greatest_of.Goals as goal

pub returns-else-level-n-clause-value : goal.returns-else-level-n-clause-value
returns-else-level-n-clause-value c = let p : 2 ^ c.levels.level ≤ 2 ^ 8 = pow_mono {i = c.levels.level} {j = 8} c.levels.invariant.small in let h : 2 ^ c.levels.level ≤ c.args.n = omega (arith, p, c.if-level-n.false) in sym (greatest-here c.levels.level c.args.n c.levels-test.true h) ∙ c.levels.invariant.same
