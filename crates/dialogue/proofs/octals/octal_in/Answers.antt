use Rattle.std.proofs.Common.{arith}
use Rattle.std.proofs.Math.Nat.{pow-le-pow_right}
use Rattle.dialogue.proofs.octals.octal_in.Goals as goal

pub returns-then-are_octal-clause-below : goal.returns-then-are_octal-clause-below
returns-then-are_octal-clause-below c = omega (arith, c.octal_value.ensures.below, pow-le-pow_right {n = 8} (omega arith) c.if-word-most.true)
