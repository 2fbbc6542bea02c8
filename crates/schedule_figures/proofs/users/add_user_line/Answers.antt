use Rattle.text_writer.proofs.Added.{◌⨾◌}
use Rattle.schedule_figures.proofs.users.add_user_line.Goals as goal

pub returns : goal.returns
returns g c = c.add_column.ensures ⨾ c.add.ensures ⨾ c.add_characters.ensures ⨾ c.add_figure_columns.ensures
