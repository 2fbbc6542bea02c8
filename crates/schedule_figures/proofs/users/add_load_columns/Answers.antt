use Rattle.text_writer.proofs.Added.{◌⨾◌}
use Rattle.schedule_figures.proofs.users.add_load_columns.Goals as goal

pub returns : goal.returns
returns g c = c.add_column.ensures ⨾ c.add_column-2.ensures ⨾ c.add_column-3.ensures ⨾ c.add_column-4.ensures
