use Rattle.text_writer.proofs.Added.{◌⨾◌}
use Rattle.schedule_drawing.proofs.shape.add_number_at.Goals as goal

pub returns : goal.returns
returns g c = c.begin_text.ensures ⨾ c.add_number.ensures ⨾ c.line.ensures
