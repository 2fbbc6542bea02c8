use Rattle.std.proofs.Common.{refl}
use Rattle.text_writer.proofs.Added.{◌⨾◌, adds_is}
use Rattle.schedule_drawing.proofs.Drawn.{box_is}
use Rattle.schedule_drawing.proofs.drawing.add_sheet.Goals as goal

pub returns : goal.returns
returns g c =
    c.begin_sheet.ensures ⨾ c.add_style.ensures
    ⨾ adds_is (box_is _ refl refl c.width.ensures.value c.height.ensures.value) c.add_box.ensures
