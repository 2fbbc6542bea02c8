use Rattle.std.proofs.Common.{List, ℕ, ap}
use Rattle.picture_model.specs.Drawing.{text_begun}
use Rattle.text_writer.proofs.Added.{◌⨾◌, adds_is}
use Rattle.schedule_drawing.proofs.label.add_wide.Goals as goal

pub returns : goal.returns
returns g c =
    adds_is (ap (λ (l : List ℕ). text_begun l c.args.middle.x c.args.middle.y) c.label_class.ensures) c.begin_text.ensures
    ⨾ (c.add_number.ensures ⨾ c.add_letter.ensures) ⨾ c.line.ensures
