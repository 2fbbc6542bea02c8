use Rattle.std.proofs.Common.{ap}
use Rattle.std.specs.Fmt.{decimal}
use Rattle.picture_model.specs.Drawing.{form}
use Rattle.text_writer.proofs.Added.{◌⨾◌, adds_is}
use Rattle.schedule_drawing.proofs.shape.add_form.Goals as goal

pub returns : goal.returns
unfolding form
returns g c =
    c.add_number.ensures ⨾ c.add.ensures ⨾ c.add_number-2.ensures ⨾ c.add-2.ensures
    ⨾ adds_is (ap decimal c.units.ensures.value) c.add_number-3.ensures ⨾ c.add-3.ensures
    ⨾ adds_is (ap decimal c.units-2.ensures.value) c.add_number-4.ensures ⨾ c.add-4.ensures
    ⨾ adds_is (ap decimal c.units-3.ensures.value) c.add_number-5.ensures
