use Rattle.text_writer.proofs.Added.{◌⨾◌, adds_is}
use Rattle.schedule_drawing.proofs.Drawn.{bar_is, idle_label_is}
use Rattle.schedule_drawing.proofs.level.add_idle.Goals as goal

pub returns : goal.returns
returns g c =
    adds_is (bar_is _ _ _ c.idle_area.ensures.x c.idle_area.ensures.y c.idle_area.ensures.width c.idle_area.ensures.height)
    c.add_bar.ensures
    ⨾ adds_is
    (idle_label_is _ _ c.place_of.ensures c.saturating_sub.ensures)
    c.add_idle_label.ensures
