use Rattle.std.proofs.Common.{◌≡◌, ◌∙◌, ◌++◌, ◌∷◌, [], ℕ, List, length, ap, rules}
use Rattle.schedule_figures.proofs.Kept.{maps_on, ends_on}
use Rattle.schedule_figures.proofs.chart.maps.CoreMaps.push.Goals as goal

pub invariant_of-self-2 : goal.invariant_of-self-2
invariant_of-self-2 c =
    let laid = c.lay.ensures in
    let parts : c.lay.new.parts.items ≡ c.self.inside.parts.items ++ laid.more = search rules in
    let ends : c.push.new.self.items ≡ c.self.inside.ends.items ++ length c.lay.new.parts.items ∷ [] = search rules in
    ends_on c.self.inside.ends.items c.push.new.self.items c.self.inside.parts.items c.lay.new.parts.items laid.more c.self.invariant parts ends

pub returns-clause-ok : goal.returns-clause-ok
returns-clause-ok c =
    let laid = c.lay.ensures in
    let parts : c.lay.new.parts.items ≡ c.self.inside.parts.items ++ laid.more = search rules in
    let ends : c.push.new.self.items ≡ c.self.inside.ends.items ++ length c.lay.new.parts.items ∷ [] = search rules in
    maps_on c.self.inside.ends.items c.push.new.self.items c.self.inside.parts.items c.lay.new.parts.items laid.more c.args.owners.now
    c.self.invariant parts laid.users ends
    ∙ ap (λ (maps : List (List ℕ)). maps ++ c.args.owners.now ∷ []) c.self.view_is
