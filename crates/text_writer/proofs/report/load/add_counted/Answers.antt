use Rattle.text_writer.proofs.Added.{◌⨾◌, adds_is}
use Rattle.text_writer.proofs.report.load.add_counted.Goals as goal

pub returns : goal.returns
returns g c = (adds_is c.as_bytes.ensures.value c.add.ensures ⨾ c.number.ensures) ⨾ c.end_line.ensures
