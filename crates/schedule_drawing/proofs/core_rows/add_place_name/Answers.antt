use Rattle.text_writer.proofs.Added.{◌⨾◌, adds_is}
use Rattle.schedule_drawing.proofs.Drawn.{begun_is, plus_is}
use Rattle.schedule_drawing.proofs.core_rows.add_place_name.Goals as goal

pub returns : goal.returns
returns g c =
    adds_is (begun_is _ c.units.ensures.value (plus_is c.place_top.ensures.value c.units-2.ensures.value)) c.begin_text.ensures
    ⨾ (c.add.ensures ⨾ c.add_number.ensures) ⨾ c.line.ensures
