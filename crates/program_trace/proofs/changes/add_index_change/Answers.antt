use Rattle.std.proofs.Common.{◌≡◌, ◌+◌, [], ◌∷◌, nat_eq, false, ap, ◌∙◌, arith}
use Rattle.std.proofs.lemmas.Bool.Decides.{nat_tests}
use Rattle.word36.specs.Octal.{octal_digits}
use Rattle.cpu_regs.specs.Registers.{xr}
use Rattle.text_writer.proofs.Added.{◌⨾◌, adds_is}
use Rattle.program_trace.proofs.Registers.{change_of}
use Rattle.program_trace.proofs.changes.add_index_change.Goals as goal

pub returns-then-xr : goal.returns-then-xr
returns-then-xr g c =
    let a = xr c.args.before.now c.args.tag in
    let b = xr c.args.after.now c.args.tag in
    let differ : nat_eq a b ≡ false = grind (arith, nat_tests, c.if-xr.true, c.xr.ensures.value, c.xr-2.ensures.value) in
    adds_is (change_of (nat_eq a b) (88 ∷ (48 + c.args.tag) ∷ []) (octal_digits 5 b) differ)
    (c.add_name.ensures ⨾ adds_is (ap (octal_digits 5) (c.from.ensures ∙ c.xr-then-xr.ensures.value)) c.add_digits.ensures)
