use Rattle.std.proofs.Common.{arith}
use Rattle.fap_read.proofs.DigitLists.{octal_front_below, octal_between, next_octal}
use Rattle.fap_read.proofs.digits.octal_value.Goals as goal

pub overflow_mul-n : goal.overflow_mul-n
overflow_mul-n c = omega (arith, octal_front_below c.args.digits.now c.digits.b-index c.requires.digits c.requires.length c.digits-test.true)

pub overflow_add-n : goal.overflow_add-n
overflow_add-n c =
    omega (
      arith,
      octal_front_below c.args.digits.now c.digits.b-index c.requires.digits c.requires.length c.digits-test.true,
      octal_between c.args.digits.now c.digits.b-index c.requires.digits c.digits-test.true,
    )

pub digits-preserved : goal.digits-preserved
digits-preserved c = omega (arith, next_octal c.args.digits.now c.digits.b-index c.requires.digits c.digits-test.true)
