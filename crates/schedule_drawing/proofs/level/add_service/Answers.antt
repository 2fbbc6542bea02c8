use Rattle.std.proofs.Common.{◌∙◌, ◌*◌, ℕ, ap}
use Rattle.text_writer.proofs.Added.{◌⨾◌, adds_is}
use Rattle.schedule_drawing.proofs.Drawn.{bar_is, level_label_is, plus_is}
use Rattle.schedule_drawing.proofs.level.add_service.Goals as goal

pub returns : goal.returns
returns g c =
    adds_is (bar_is _ _ _ c.across.ensures.value c.level_top.ensures.value (c.wide.ensures.value ∙ ap (λ (n : ℕ). c.args.sheet.zoom * n) c.from.ensures) c.units.ensures.value) c.add_bar.ensures
    ⨾ adds_is (level_label_is _ _ c.across-2.ensures.value (plus_is c.level_top-2.ensures.value c.units-2.ensures.value)
    (c.wide.ensures.value ∙ ap (λ (n : ℕ). c.args.sheet.zoom * n) c.from.ensures))
    c.add_level_label.ensures
