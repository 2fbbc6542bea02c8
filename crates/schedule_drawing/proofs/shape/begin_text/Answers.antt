use Rattle.text_writer.proofs.Added.{◌⨾◌}
use Rattle.picture_model.specs.Drawing.{text_begun}
use Rattle.schedule_drawing.proofs.shape.begin_text.Goals as goal

pub returns : goal.returns
unfolding text_begun
returns g c = c.add.ensures ⨾ c.add-2.ensures ⨾ c.add-3.ensures ⨾ c.add_attribute.ensures ⨾ c.add_attribute-2.ensures ⨾ c.add-4.ensures
