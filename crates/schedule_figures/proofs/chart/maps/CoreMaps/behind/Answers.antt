use Rattle.std.proofs.Common.{◌≡◌, ◌∙◌, ◌<◌, ◌≤◌, ◌-◌, ℕ, List, [], length, map, take, drop, get_or, refl, sym, ap, subst}
use Rattle.picture_model.specs.Cores.{owner_in}
use Rattle.picture_model.specs.CorePanel.{first_owners}
use Rattle.schedule_figures.specs.Maps.{AreEnds, start_in}
use Rattle.schedule_figures.specs.declared.chart.maps.CorePart.{CorePart}
use Rattle.schedule_figures.proofs.Kept.{starts, stops, parts_behind, none_behind}
use Rattle.schedule_figures.proofs.chart.maps.CoreMaps.behind.Goals as goal

pub returns-then-load-ends : goal.returns-then-load-ends
returns-then-load-ends c =
    let ends = c.self.inside.ends.items in
    none_behind ends c.self.inside.parts.items [] c.args.load (subst (λ (es : List ℕ). length es ≤ c.args.load) c.as_slice-ends.ensures.value c.if-load-ends.true) refl
    ∙ ap (λ (maps : List (List ℕ)). first_owners (map owner_in (drop c.args.load maps))) c.self.view_is

pub between-requires-clause-order : goal.between-requires-clause-order
between-requires-clause-order c =
    let ends = c.as_slice-ends.result.now in
    subst (λ (n : ℕ). n ≤ get_or ends c.args.load 0) (sym c.start_in.ensures)
    (starts ends (length c.self.inside.parts.items) c.args.load c.if-load-ends.false
    (subst (λ (es : List ℕ). AreEnds 0 es (length c.self.inside.parts.items)) (sym c.as_slice-ends.ensures.value) c.self.invariant))

pub between-requires-clause-within : goal.between-requires-clause-within
between-requires-clause-within c =
    let ends = c.as_slice-ends.result.now in
    subst (λ (ps : List CorePart). get_or ends c.args.load 0 ≤ length ps) (sym c.deref.ensures.value)
    (stops ends (length c.self.inside.parts.items) c.args.load c.if-load-ends.false
    (subst (λ (es : List ℕ). AreEnds 0 es (length c.self.inside.parts.items)) (sym c.as_slice-ends.ensures.value) c.self.invariant))

pub returns : goal.returns
returns c =
    let ends = c.self.inside.ends.items in
    let parts = c.self.inside.parts.items in
    let load = c.args.load in
    let is : c.between.result.now ≡ take (get_or ends load 0 - start_in ends load) (drop (start_in ends load) parts) =
    c.between.ensures
    ∙ ap (λ (n : ℕ). take (get_or c.as_slice-ends.result.now load 0 - n) (drop n c.deref.result.now)) c.start_in.ensures
    ∙ ap (λ (es : List ℕ). take (get_or es load 0 - start_in es load) (drop (start_in es load) c.deref.result.now)) c.as_slice-ends.ensures.value
    ∙ ap (λ (ps : List CorePart). take (get_or ends load 0 - start_in ends load) (drop (start_in ends load) ps)) c.deref.ensures.value in
    parts_behind ends parts c.between.result.now load (subst (λ (es : List ℕ). load < length es) c.as_slice-ends.ensures.value c.if-load-ends.false) is
    ∙ ap (λ (maps : List (List ℕ)). first_owners (map owner_in (drop load maps))) c.self.view_is
