use Rattle.text_writer.proofs.Added.{◌⨾◌}
use Rattle.schedule_figures.proofs.chart.core_lines.add_load.Goals as goal

pub returns : goal.returns
returns g c =
    (c.add_column.ensures ⨾ c.add_column-2.ensures ⨾ c.add_column-3.ensures ⨾ c.add_column-4.ensures ⨾ c.add_column-5.ensures ⨾ c.add_places.ensures)
    ⨾ c.end_line.ensures
