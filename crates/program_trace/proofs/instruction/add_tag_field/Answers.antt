use Rattle.std.proofs.Common.{sym, ap, ◌∙◌}
use Rattle.word36.specs.Octal.{octal_digits}
use Rattle.opcode_table.specs.declared.op.Class.{Class}
use Rattle.text_writer.proofs.Added.{◌⨾◌, adds_is}
use Rattle.program_trace.specs.Instructions.{has_tag}
use Rattle.program_trace.proofs.Fields.{tag_is}
use Rattle.program_trace.proofs.instruction.add_tag_field.Goals as goal

pub returns-then-has_tag : goal.returns-then-has_tag
returns-then-has_tag g c =
    let i = c.args.i.now in
    adds_is (tag_is i (ap (λ (k : Class). has_tag k i.tag) (sym c.class.ensures) ∙ sym c.has_tag.ensures ∙ c.if-has_tag.true))
    (c.add.ensures ⨾ adds_is (ap (octal_digits 1) c.from.ensures) c.add_digits.ensures)
