use Rattle.std.proofs.Common.{◌≡◌, nat_eq, false, ap, arith}
use Rattle.std.proofs.lemmas.Bool.Decides.{nat_tests}
use Rattle.word36.specs.Octal.{octal_digits}
use Rattle.text_writer.proofs.Added.{◌⨾◌, adds_is}
use Rattle.program_trace.proofs.Registers.{change_of}
use Rattle.program_trace.proofs.changes.add_word_change.Goals as goal

pub returns-then-bits : goal.returns-then-bits
returns-then-bits g c =
    let differ : nat_eq c.args.before c.args.after ≡ false = grind (arith, nat_tests, c.if-bits.true, c.bits.ensures.bits, c.bits-2.ensures.bits) in
    adds_is (change_of (nat_eq c.args.before c.args.after) c.args.name.now (octal_digits 12 c.args.after) differ)
    (c.add_name.ensures ⨾ adds_is (ap (octal_digits 12) c.bits-then-bits.ensures.bits) c.add_digits.ensures)
