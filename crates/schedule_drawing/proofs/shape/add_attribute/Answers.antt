use Rattle.text_writer.proofs.Added.{◌⨾◌}
use Rattle.picture_model.specs.Drawing.{attribute}
use Rattle.schedule_drawing.proofs.shape.add_attribute.Goals as goal

pub returns : goal.returns
unfolding attribute
returns g c = c.add.ensures ⨾ c.add_number.ensures ⨾ c.add-2.ensures
