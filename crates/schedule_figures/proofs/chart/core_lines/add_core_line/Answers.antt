use Rattle.std.proofs.Common.{◌∙◌, ℕ, map, drop, ap}
use Rattle.picture_model.specs.Cores.{owner_in}
use Rattle.picture_model.specs.CorePanel.{first_owners}
use Rattle.picture_model.specs.CoreLines.{load_line}
use Rattle.text_writer.proofs.Added.{adds_is, adds_none}
use Rattle.schedule_figures.proofs.Loads.{load_is, no_load}
use Rattle.schedule_figures.proofs.chart.core_lines.add_core_line.Goals as goal

pub returns-in-Swap : goal.returns-in-Swap
returns-in-Swap g c =
    let swap = c.in-Swap in
    adds_is
    (ap (λ (owner : ℕ → ℕ). load_line swap.tick swap.user swap.dumped swap.read swap.fresh owner) c.behind.ensures
    ∙ load_is (first_owners (map owner_in (drop c.args.next c.args.maps.now))) c.args.entry.now swap.tick swap.user swap.dumped swap.read swap.fresh swap.is)
    c.add_load.ensures

pub returns-in_default : goal.returns-in_default
returns-in_default g c =
    adds_is (no_load (first_owners (map owner_in (drop c.args.next c.args.maps.now))) c.args.entry.now c.in_default.not-Swap) (adds_none g.K.Sink c.args.out.now)
