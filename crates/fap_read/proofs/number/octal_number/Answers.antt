use Rattle.std.proofs.Common.{rules, arith}
use Rattle.fap_read.proofs.DigitLists.{octal_at_most}
use Rattle.fap_read.proofs.number.octal_number.Goals as goal

pub returns-then-are_octal-clause-below : goal.returns-then-are_octal-clause-below
returns-then-are_octal-clause-below c = octal_at_most c.args.text.now _ _ c.octal_value.ensures (search rules) (omega arith)
