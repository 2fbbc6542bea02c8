use Rattle.std.proofs.Common.{arith}
use Rattle.fap_read.proofs.DigitLists.{next_decimal}
use Rattle.fap_read.proofs.digits.decimal_value.Goals as goal

pub digits-preserved : goal.digits-preserved
digits-preserved c = omega (arith, next_decimal c.args.digits.now c.digits.b-index c.requires c.digits-test.true)
