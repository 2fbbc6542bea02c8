use Rattle.text_writer.proofs.Added.{◌⨾◌, adds_is}
use Rattle.schedule_drawing.proofs.Drawn.{begun_is}
use Rattle.schedule_drawing.proofs.drawing.add_heading.Goals as goal

pub returns : goal.returns
returns g c =
    adds_is (begun_is _ c.units.ensures.value c.units-2.ensures.value) c.begin_text.ensures
    ⨾ c.add_time_line.ensures ⨾ c.line.ensures
