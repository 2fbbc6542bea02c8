use Rattle.text_writer.proofs.Added.{◌⨾◌}
use Rattle.schedule_figures.proofs.chart.ruler.add_ruler.Goals as goal

pub returns : goal.returns
returns g c = (c.add.ensures ⨾ c.add_ticks.ensures) ⨾ c.end_line.ensures
