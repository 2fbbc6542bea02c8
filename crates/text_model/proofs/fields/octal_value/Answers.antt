use Rattle.std.proofs.Common.{arith}
use Rattle.text_model.proofs.FieldDigits.{front_below, front_within, digit_between, next_value}
use Rattle.text_model.proofs.fields.octal_value.Goals as goal

pub overflow_mul-n : goal.overflow_mul-n
overflow_mul-n c = omega (arith, front_below 8 11 c.args.field.now c.digits.b-index (omega arith) (omega arith) c.requires.digits c.requires.length c.digits-test.true)

pub overflow_add-n : goal.overflow_add-n
overflow_add-n c =
    omega (
      arith,
      front_below 8 11 c.args.field.now c.digits.b-index (omega arith) (omega arith) c.requires.digits c.requires.length c.digits-test.true,
      digit_between 8 c.args.field.now c.digits.b-index c.requires.digits c.digits-test.true,
    )

pub digits-preserved : goal.digits-preserved
digits-preserved c = omega (arith, next_value 8 c.args.field.now c.digits.b-index (omega arith) c.requires.digits c.digits-test.true)

pub returns-clause-below : goal.returns-clause-below
returns-clause-below c = omega (arith, front_within 8 12 c.args.field.now c.digits.b-index (omega arith) (omega arith) c.requires.digits c.requires.length)
