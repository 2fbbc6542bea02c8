use Rattle.std.proofs.Common.{◌*◌, ℕ, ap}
use Rattle.text_writer.proofs.Added.{◌⨾◌, adds_is}
use Rattle.schedule_drawing.proofs.Panel.{owner_bar_is, owner_label_is}
use Rattle.schedule_drawing.proofs.stretch.add_stretch.Goals as goal

pub returns : goal.returns
returns g c =
    adds_is
    (owner_bar_is c.args.stretch.user c.args.entry.now c.across.ensures.value c.place_top.ensures.value c.width.ensures.value
    (ap (λ (n : ℕ). 2 * n) c.times.ensures.value))
    c.add_owner.ensures
    ⨾ adds_is
    (owner_label_is c.args.sheet.scale c.args.stretch.user c.args.stretch.count c.across.ensures.value c.place_top.ensures.value c.width.ensures.value)
    c.add_owner_label.ensures
