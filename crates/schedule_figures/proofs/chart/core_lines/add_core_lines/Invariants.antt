use Rattle.std.proofs.Common.{◌≡◌, ◌++◌, ℕ, List, drop, map}
use Rattle.picture_model.specs.Cores.{owner_in}
use Rattle.picture_model.specs.CoreLines.{core_lines}
use Rattle.text_writer.specs.Writing.{Adds}
use Rattle.schedule_figures.proofs.chart.core_lines.add_core_lines.Given as goal

-- the lines so far were added, and with those that are left they are all
abbrev pub invariant-loop-entry : goal.invariant-loop-entry
invariant-loop-entry g l =
    (done : List ℕ) × Adds g.K.Sink done l.fn.out l.out
    × (done ++ core_lines (map owner_in (drop l.next l.maps)) (drop l.entry-index l.entries) ≡ core_lines (map owner_in l.maps) l.entries)
