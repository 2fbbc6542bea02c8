use Rattle.text_writer.proofs.Added.{◌⨾◌}
use Rattle.schedule_figures.proofs.levels.add_service_line.Goals as goal

pub returns : goal.returns
returns g c = c.add_column.ensures ⨾ c.add.ensures ⨾ c.add_services.ensures
