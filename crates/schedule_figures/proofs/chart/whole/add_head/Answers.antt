use Rattle.text_writer.proofs.Added.{◌⨾◌}
use Rattle.schedule_figures.proofs.chart.whole.add_head.Goals as goal

pub returns : goal.returns
returns g c = ((c.add_number.ensures ⨾ c.add.ensures) ⨾ c.end_line.ensures) ⨾ c.line.ensures
