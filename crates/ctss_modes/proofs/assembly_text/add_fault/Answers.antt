use Rattle.text_writer.proofs.Added.{◌⨾◌}
use Rattle.ctss_modes.proofs.assembly_text.add_fault.Goals as goal

pub returns : goal.returns
returns g c = (c.add.ensures ⨾ c.number.ensures ⨾ c.blank.ensures ⨾ c.number-2.ensures) ⨾ c.end_line.ensures
