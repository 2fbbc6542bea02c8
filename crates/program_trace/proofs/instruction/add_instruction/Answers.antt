use Rattle.std.proofs.Common.{◌∙◌}
use Rattle.text_writer.proofs.Added.{◌⨾◌, adds_is}
use Rattle.program_trace.proofs.instruction.add_instruction.Goals as goal

pub returns : goal.returns
returns g c =
    adds_is (c.as_bytes.ensures.value ∙ c.name.ensures) c.add.ensures ⨾ adds_is c.flag_mark.ensures c.add-2.ensures ⨾ c.add_gap.ensures ⨾ c.add_fields.ensures
