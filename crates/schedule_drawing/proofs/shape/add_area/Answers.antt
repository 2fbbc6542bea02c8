use Rattle.text_writer.proofs.Added.{◌⨾◌}
use Rattle.picture_model.specs.Drawing.{area}
use Rattle.schedule_drawing.proofs.shape.add_area.Goals as goal

pub returns : goal.returns
unfolding area
returns g c = c.add_attribute.ensures ⨾ c.add_attribute-2.ensures ⨾ c.add_attribute-3.ensures ⨾ c.add_attribute-4.ensures
