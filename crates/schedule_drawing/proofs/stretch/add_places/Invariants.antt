use Rattle.std.proofs.Common.{◌≡◌, ◌++◌, ◌-◌, ℕ, List}
use Rattle.picture_model.specs.Cores.{owner_in}
use Rattle.picture_model.specs.CorePanel.{places_drawn}
use Rattle.schedule_figures.specs.Maps.{users_of}
use Rattle.text_writer.specs.Writing.{Adds}
use Rattle.schedule_drawing.proofs.stretch.add_places.Given as goal

-- the places so far were added, and with those that are left they are all
abbrev pub invariant-loop-place : goal.invariant-loop-place
invariant-loop-place g l =
    (done : List ℕ) × Adds g.K.Sink done l.fn.out l.out
    × (done ++ places_drawn l.sheet.scale l.sheet.zoom l.sheet.users l.span.from l.span.until (owner_in (users_of l.core)) l.entry
    l.place (128 - l.place)
    ≡ places_drawn l.sheet.scale l.sheet.zoom l.sheet.users l.span.from l.span.until (owner_in (users_of l.core)) l.entry
    0 128)
