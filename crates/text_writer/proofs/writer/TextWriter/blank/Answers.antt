use Rattle.text_writer.proofs.Added.{◌⨾◌}
use Rattle.text_writer.proofs.writer.TextWriter.blank.Goals as goal

pub returns : goal.returns
returns g c = c.byte.ensures ⨾ c.add.ensures
