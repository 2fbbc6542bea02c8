use Rattle.std.proofs.Common.{◌∙◌, ℕ, List, length, sym, ap}
use Rattle.schedule_figures.proofs.Kept.{maps_count}
use Rattle.schedule_figures.proofs.chart.maps.CoreMaps.count.Goals as goal

pub returns : goal.returns
returns c =
    ap (λ (ends : List ℕ). length ends) c.as_slice.ensures.value
    ∙ sym (maps_count 0 c.self.inside.ends.items c.self.inside.parts.items) ∙ ap (λ (maps : List (List ℕ)). length maps) c.self.view_is
