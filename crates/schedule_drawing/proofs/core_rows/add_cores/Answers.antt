use Rattle.text_writer.proofs.Added.{◌⨾◌}
use Rattle.schedule_drawing.proofs.core_rows.add_cores.Goals as goal

pub returns : goal.returns
returns g c = c.add_core_names.ensures ⨾ c.add_loads.ensures
