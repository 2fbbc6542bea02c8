use Rattle.text_writer.proofs.Added.{◌⨾◌}
use Rattle.schedule_figures.proofs.chart.users.add_user.Goals as goal

pub returns : goal.returns
returns g c =
    ((c.add.ensures ⨾ c.add_event_row.ensures) ⨾ c.end_line.ensures)
    ⨾ ((c.add_column.ensures ⨾ c.add-2.ensures ⨾ c.add_characters.ensures ⨾ c.add-3.ensures ⨾ c.add_served_row.ensures)
    ⨾ c.end_line-2.ensures)
