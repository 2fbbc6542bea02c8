use Rattle.std.proofs.Common.{◌≡◌, ◌++◌, ◌-◌, ◌/◌, ℕ, suc, List}
use Rattle.picture_model.specs.Drawing.{ruler, ruler_drawn}
use Rattle.text_writer.specs.Writing.{Adds}
use Rattle.schedule_drawing.proofs.ruler.add_ruler.Given as goal

-- the marks so far were added, and with those that are left they are all
abbrev pub invariant-loop-mark : goal.invariant-loop-mark
invariant-loop-mark g l =
    (done : List ℕ) × Adds g.K.Sink done l.fn.out l.out
    × (done ++ ruler_drawn l.sheet.scale l.sheet.zoom l.sheet.users l.each l.mark (suc (l.places / l.each) - l.mark) l.entries
    ≡ ruler l.sheet.scale l.sheet.zoom l.sheet.users l.each l.places l.entries)
