use Rattle.text_writer.proofs.Added.{◌⨾◌}
use Rattle.picture_model.specs.Drawing.{plain_box}
use Rattle.schedule_drawing.proofs.shape.add_box.Goals as goal

pub returns : goal.returns
unfolding plain_box
returns g c = c.add.ensures ⨾ c.add-2.ensures ⨾ c.add-3.ensures ⨾ c.add_area.ensures ⨾ c.line.ensures
