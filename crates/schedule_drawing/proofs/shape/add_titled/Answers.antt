use Rattle.text_writer.proofs.Added.{◌⨾◌}
use Rattle.picture_model.specs.Drawing.{titled}
use Rattle.schedule_drawing.proofs.shape.add_titled.Goals as goal

pub returns : goal.returns
unfolding titled
returns g c = c.add.ensures ⨾ c.add_entry.ensures ⨾ c.add-2.ensures ⨾ c.add-3.ensures ⨾ c.line.ensures
