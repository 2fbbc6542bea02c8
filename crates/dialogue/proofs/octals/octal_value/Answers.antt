use Rattle.std.proofs.Common.{◌<◌, arith}
use Rattle.std.specs.Prelude.{slice_index}
use Rattle.dialogue.proofs.Digits.{digit_at, number_below}
use Rattle.dialogue.proofs.octals.octal_value.Goals as goal

pub overflow_mul-number : goal.overflow_mul-number
overflow_mul-number c =
    let i : c.digits.digit-index < 12 = omega (arith, c.digits-test.true, c.requires.few) in
    record { fits = omega (arith, (number_below c.digits.digit-index c.digits.number 48 i c.digits.invariant.below (omega arith) (omega arith)).1) }

pub overflow_add-number : goal.overflow_add-number
overflow_add-number c =
    let i : c.digits.digit-index < 12 = omega (arith, c.digits-test.true, c.requires.few) in
    let d = digit_at c.args.word.now c.digits.digit-index c.requires.digits c.digits-test.true in
    record { fits = omega (arith, c.from.ensures, d.1, (number_below c.digits.digit-index c.digits.number (slice_index c.args.word.now c.digits.digit-index) i c.digits.invariant.below d.0 d.1).1) }
