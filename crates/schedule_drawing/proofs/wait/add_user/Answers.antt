use Rattle.text_writer.proofs.Added.{◌⨾◌}
use Rattle.schedule_drawing.proofs.wait.add_user.Goals as goal

pub returns : goal.returns
returns g c = c.add_name.ensures ⨾ c.add_waits.ensures
