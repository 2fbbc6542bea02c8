use Rattle.std.proofs.Common.{ap, refl, ◌∙◌, List, ℕ, nat_lt, length}
use Rattle.fap_model.specs.declared.types.Listed.{Listed}
use Rattle.fap_model.specs.Listed.{defined_on, used_on, mentions_from, rows_from}
use Rattle.fap_model.specs.Places.{nothing_known}
use Rattle.fap_assemble.specs.Wholes.{whole_in}
use Rattle.fap_assemble.proofs.Listings.{has_end_is, all_listed}
use Rattle.fap_assemble.proofs.listing.listed_with.Goals as goal

pub returns : goal.returns
returns c =
    let whole = whole_in c.args.whole.now in
    let read = c.requires.read in
    let all : Listed = record {
      rows = c.rows.inside.items.items;
      symbols = c.in_ok-symbols.symbols;
      definitions = c.definitions.inside.items.items;
      uses = c.uses.inside.items.items;
      literals = c.in_ok-to_list.field-0;
      end_place = c.args.whole.now.end_place;
      blocks = c.args.whole.now.blocks;
      start = c.in_ok-start.start;
      has_end = nat_lt c.args.end (length c.args.cards.now);
    } in
    all_listed c.args.cards.now whole all c.requires.whole
    (c.rows.view_is ∙ c.in_ok-rows.ensures ∙ ap (λ (cs : List (List ℕ)). rows_from whole nothing_known cs) read)
    c.in_ok-symbols.ensures
    (c.definitions.view_is ∙ c.in_ok-definitions.ensures ∙ ap (λ (cs : List (List ℕ)). mentions_from defined_on 1 cs) read)
    (c.uses.view_is ∙ c.in_ok-uses.ensures ∙ ap (λ (cs : List (List ℕ)). mentions_from used_on 1 cs) read)
    c.in_ok-to_list.ensures refl refl c.in_ok-start.ensures (has_end_is c.args.cards.now c.args.end c.requires.end)
