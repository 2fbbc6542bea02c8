use Rattle.text_writer.proofs.Added.{◌⨾◌}
use Rattle.schedule_figures.proofs.csv.add_idle.Goals as goal

pub returns : goal.returns
returns g c = (c.add.ensures ⨾ c.add_comma.ensures ⨾ c.add_comma-2.ensures ⨾ c.add-2.ensures) ⨾ c.end_line.ensures
