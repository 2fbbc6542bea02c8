use Rattle.text_writer.proofs.Added.{◌⨾◌}
use Rattle.picture_model.specs.Drawing.{tip}
use Rattle.schedule_drawing.proofs.shape.add_sign.Goals as goal

pub returns : goal.returns
unfolding tip
returns g c = c.add.ensures ⨾ c.add-2.ensures ⨾ c.add-3.ensures ⨾ c.add_form.ensures ⨾ c.add-4.ensures ⨾ c.add_titled.ensures
