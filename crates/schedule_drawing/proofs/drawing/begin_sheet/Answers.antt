use Rattle.std.proofs.Common.{◌+◌, ◌*◌, ℕ, ap}
use Rattle.std.specs.Fmt.{decimal}
use Rattle.picture_model.specs.Drawing.{sheet_begun}
use Rattle.text_writer.proofs.Added.{◌⨾◌, adds_is}
use Rattle.schedule_drawing.proofs.Drawn.{attribute_is, ratio_is}
use Rattle.schedule_drawing.proofs.drawing.begin_sheet.Goals as goal

pub returns : goal.returns
unfolding sheet_begun
returns g c =
    c.add.ensures ⨾ adds_is (attribute_is _ c.units.ensures.value) c.add_attribute.ensures
    ⨾ c.add-2.ensures ⨾ adds_is (ap decimal c.width.ensures.value) c.add_number.ensures
    ⨾ c.add-3.ensures ⨾ adds_is (ap decimal c.height.ensures.value) c.add_number-2.ensures
    ⨾ c.add-4.ensures
    ⨾ adds_is (attribute_is _ (ratio_is c.width-2.ensures.value c.from.ensures)) c.add_attribute-2.ensures
    ⨾ adds_is (attribute_is _ (ap (λ (n : ℕ). 960 + 40 * n) c.from-2.ensures)) c.add_attribute-3.ensures
    ⨾ c.line.ensures
