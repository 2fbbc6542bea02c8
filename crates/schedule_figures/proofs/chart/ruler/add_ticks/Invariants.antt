use Rattle.std.proofs.Common.{◌≡◌, ◌++◌, ◌-◌, ℕ, List}
use Rattle.picture_model.specs.Chart.{ruler_from}
use Rattle.text_writer.specs.Writing.{Adds}
use Rattle.schedule_figures.proofs.chart.ruler.add_ticks.Given as goal

-- the ticks so far were added, and with those that are left they are all
abbrev pub invariant-loop-tenth : goal.invariant-loop-tenth
invariant-loop-tenth g l =
    (done : List ℕ) × Adds g.K.Sink done l.fn.out l.out
    × (done ++ ruler_from l.each l.tenth (l.count - l.tenth) l.entries ≡ ruler_from l.each 0 l.count l.entries)
