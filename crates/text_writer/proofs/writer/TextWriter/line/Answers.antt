use Rattle.text_writer.proofs.Added.{◌⨾◌}
use Rattle.text_writer.proofs.writer.TextWriter.line.Goals as goal

pub returns : goal.returns
returns g c = c.add.ensures ⨾ c.end_line.ensures
