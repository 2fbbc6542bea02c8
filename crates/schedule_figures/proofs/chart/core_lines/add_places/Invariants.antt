use Rattle.std.proofs.Common.{◌≡◌, ◌++◌, ◌-◌, ℕ, List}
use Rattle.picture_model.specs.Cores.{owner_in}
use Rattle.picture_model.specs.CoreLines.{places_text}
use Rattle.schedule_figures.specs.Maps.{users_of}
use Rattle.text_writer.specs.Writing.{Adds}
use Rattle.schedule_figures.proofs.chart.core_lines.add_places.Given as goal

-- the places so far were added, and with those that are left they are all
abbrev pub invariant-loop-place : goal.invariant-loop-place
invariant-loop-place g l =
    (done : List ℕ) × Adds g.K.Sink done l.fn.out l.out
    × (done ++ places_text (owner_in (users_of l.core)) l.place (128 - l.place)
    ≡ places_text (owner_in (users_of l.core)) 0 128)
