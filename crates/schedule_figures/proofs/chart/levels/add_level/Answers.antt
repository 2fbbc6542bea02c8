use Rattle.text_writer.proofs.Added.{◌⨾◌}
use Rattle.schedule_figures.proofs.chart.levels.add_level.Goals as goal

pub returns : goal.returns
returns g c = (c.add.ensures ⨾ c.add_number.ensures ⨾ c.add-2.ensures ⨾ c.add_level_row.ensures) ⨾ c.end_line.ensures
