use Rattle.text_writer.proofs.Added.{◌⨾◌}
use Rattle.text_writer.proofs.report.add_end.Goals as goal

pub returns : goal.returns
returns g c = (c.add.ensures ⨾ c.number.ensures) ⨾ c.end_line.ensures
