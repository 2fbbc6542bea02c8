use Rattle.std.proofs.Common.{◌∙◌, ℕ, map, drop, ap}
use Rattle.picture_model.specs.Cores.{owner_in}
use Rattle.picture_model.specs.CorePanel.{first_owners, load_shown}
use Rattle.text_writer.proofs.Added.{adds_is, adds_none}
use Rattle.schedule_drawing.proofs.Panel.{load_is, no_load}
use Rattle.schedule_drawing.proofs.core_rows.add_core.Goals as goal

pub returns-in-Swap : goal.returns-in-Swap
returns-in-Swap g c =
    let s = c.args.sheet in
    let swap = c.in-Swap in
    adds_is
    (ap
    (λ (owner : ℕ → ℕ).
    load_shown s.scale s.zoom s.users c.place_of.result c.next_load.result swap.dumped swap.read swap.fresh owner c.args.entry.now)
    c.behind.ensures
    ∙ load_is s.scale s.zoom s.users c.args.standing.cut c.args.standing.last c.place_of.result c.next_load.result
    (first_owners (map owner_in (drop c.args.standing.next c.args.maps.now))) c.args.later.now c.args.entry.now
    swap.tick swap.user swap.dumped swap.read swap.fresh swap.is c.place_of.ensures c.next_load.ensures)
    c.add_load.ensures

pub returns-in_default : goal.returns-in_default
returns-in_default g c =
    let s = c.args.sheet in
    adds_is
    (no_load s.scale s.zoom s.users c.args.standing.cut _ (first_owners (map owner_in (drop c.args.standing.next c.args.maps.now))) c.args.entry.now
    c.in_default.not-Swap)
    (adds_none g.K.Sink c.args.out.now)
