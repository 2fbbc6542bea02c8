use Rattle.picture_model.specs.Drawing.{style}
use Rattle.text_writer.proofs.Added.{◌⨾◌}
use Rattle.schedule_drawing.proofs.drawing.add_style.Goals as goal

pub returns : goal.returns
unfolding style
returns g c = c.add.ensures ⨾ c.add-2.ensures ⨾ c.add-3.ensures ⨾ c.line.ensures
