use Rattle.text_writer.proofs.Added.{◌⨾◌}
use Rattle.schedule_drawing.proofs.drawing.add_rows.Goals as goal

pub returns : goal.returns
returns g c = c.add_users.ensures ⨾ c.add_layer.ensures ⨾ c.add_level_names.ensures ⨾ c.add_layer-2.ensures
