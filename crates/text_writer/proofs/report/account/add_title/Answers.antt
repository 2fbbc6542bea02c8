use Rattle.text_writer.proofs.Added.{◌⨾◌}
use Rattle.text_writer.proofs.report.account.add_title.Goals as goal

pub returns : goal.returns
returns g c = (c.add.ensures ⨾ c.number.ensures ⨾ c.name.ensures) ⨾ c.end_line.ensures
