use Rattle.text_writer.proofs.Added.{◌⨾◌}
use Rattle.schedule_figures.proofs.csv.add_comma.Goals as goal

pub returns : goal.returns
returns g c = c.add.ensures ⨾ c.add_number.ensures
