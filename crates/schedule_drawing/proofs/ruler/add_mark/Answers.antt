use Rattle.std.proofs.Common.{◌∙◌, ℕ, ap}
use Rattle.picture_model.specs.Folds.{tick_at}
use Rattle.text_writer.proofs.Added.{◌⨾◌, adds_is}
use Rattle.schedule_drawing.proofs.Drawn.{box_is, number_is, minus_is}
use Rattle.schedule_drawing.proofs.ruler.add_mark.Goals as goal

pub returns : goal.returns
returns g c =
    adds_is
    (box_is _ c.across.ensures.value c.units.ensures.value c.from.ensures
    (c.saturating_sub.ensures ∙ minus_is c.level_top.ensures.value c.units-2.ensures.value))
    c.add_box.ensures
    ⨾ adds_is
    (number_is _ c.across-2.ensures.value c.units-3.ensures.value
    (c.tick_at.ensures ∙ ap (λ (p : ℕ). tick_at p c.args.entries.now) c.from-2.ensures))
    c.add_number_at.ensures
