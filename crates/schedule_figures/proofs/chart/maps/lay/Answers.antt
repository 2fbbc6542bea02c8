use Rattle.std.proofs.Common.{◌≡◌, ◌∙◌, ◌++◌, ◌∷◌, [], ℕ, List, take, replicate, get_or, sym, ap, append_assoc, append-nil, rules}
use Rattle.schedule_figures.specs.Maps.{users_of}
use Rattle.schedule_figures.specs.declared.chart.maps.CorePart.{CorePart}
use Rattle.schedule_figures.proofs.Kept.{users_append}
use Rattle.schedule_figures.proofs.chart.maps.lay.Goals as goal

pub parts-preserved : goal.parts-preserved
parts-preserved c =
    let was = c.parts.invariant in
    let owners = c.args.owners.now in
    let place = c.parts.place in
    let count = c.count_from-count.result in
    let user : ℕ = get_or owners place 0 in
    let part : CorePart = record { user = user; count = count } in
    let items : c.push.new.self.items ≡ c.parts.parts.items ++ part ∷ [] = search rules in
    record {
      more = was.more ++ part ∷ [];
      parts = items ∙ ap (λ (ps : List CorePart). ps ++ part ∷ []) was.parts ∙ append_assoc c.args.parts.now.items was.more (part ∷ []);
      users =
          users_append was.more (part ∷ [])
          ∙ ap (λ (us : List ℕ). us ++ users_of (part ∷ [])) was.users
          ∙ ap (λ (us : List ℕ). take place owners ++ us) (append-nil (replicate count user))
          ∙ sym c.count_from-count.ensures.same;
      within = c.count_from-count.ensures.within;
      room = search rules;
    }
