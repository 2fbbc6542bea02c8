use Rattle.text_writer.proofs.Added.{◌⨾◌}
use Rattle.picture_model.specs.Drawing.{bar}
use Rattle.schedule_drawing.proofs.shape.add_bar.Goals as goal

pub returns : goal.returns
unfolding bar
returns g c = c.add.ensures ⨾ c.add-2.ensures ⨾ c.add_number.ensures ⨾ c.add-3.ensures ⨾ c.add_area.ensures ⨾ c.add_titled.ensures
