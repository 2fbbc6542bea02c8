use Rattle.text_writer.proofs.Added.{◌⨾◌}
use Rattle.schedule_drawing.proofs.core_rows.add_load.Goals as goal

pub returns : goal.returns
returns g c = c.add_places.ensures ⨾ c.add_moved.ensures ⨾ c.add_moved-2.ensures ⨾ c.add_moved-3.ensures
