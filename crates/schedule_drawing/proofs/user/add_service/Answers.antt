use Rattle.std.proofs.Common.{◌∙◌, ◌*◌, ℕ, ap}
use Rattle.picture_model.specs.Drawing.{user_top}
use Rattle.text_writer.proofs.Added.{◌⨾◌, adds_is}
use Rattle.schedule_drawing.proofs.Drawn.{bar_is, label_is, plus_is}
use Rattle.schedule_drawing.proofs.user.add_service.Goals as goal

pub returns : goal.returns
returns g c =
    adds_is
    (bar_is _ _ _ c.bar_area-at.ensures.x c.bar_area-at.ensures.y (c.bar_area-at.ensures.width ∙ ap (λ (n : ℕ). c.args.sheet.zoom * n) c.from.ensures)
    c.bar_area-at.ensures.height)
    c.add_bar.ensures
    ⨾ adds_is
    (label_is _ _ c.across.ensures.value
    (plus_is (c.user_top.ensures.value ∙ ap (user_top c.args.sheet.scale) c.from-2.ensures) c.units.ensures.value)
    (c.wide.ensures.value ∙ ap (λ (n : ℕ). c.args.sheet.zoom * n) c.from-3.ensures) c.cause_letter.ensures)
    c.add_label.ensures
