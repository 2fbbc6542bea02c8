use Rattle.std.proofs.Common.{sym, ap, ◌∙◌}
use Rattle.word36.specs.Octal.{octal_digits}
use Rattle.text_writer.proofs.Added.{◌⨾◌, adds_is}
use Rattle.program_trace.specs.Instructions.{is_prefixed}
use Rattle.program_trace.proofs.Fields.{decrement_is}
use Rattle.program_trace.proofs.instruction.add_decrement_field.Goals as goal

pub returns-then-is_prefixed : goal.returns-then-is_prefixed
returns-then-is_prefixed g c =
    adds_is (decrement_is c.args.i.now (ap is_prefixed (sym c.class.ensures) ∙ sym c.is_prefixed.ensures ∙ c.if-is_prefixed.true))
    (c.add.ensures ⨾ adds_is (ap (octal_digits 5) c.from.ensures) c.add_digits.ensures)
