use Rattle.std.proofs.Common.{ap, refl, ◌∙◌, List, ℕ, nat_lt, length, []}
use Rattle.fap_model.specs.Listed.{defined_on, used_on, mentions_from}
use Rattle.link_model.specs.declared.types.ListedModule.{ListedModule}
use Rattle.link_model.specs.Listed.{module_rows_from}
use Rattle.link_model.specs.ModuleCards.{entries_of}
use Rattle.link_model.specs.Moves.{nothing_moved}
use Rattle.fap_assemble.specs.Judging.{relocated_in}
use Rattle.fap_assemble.specs.Steps.{texts}
use Rattle.fap_assemble.proofs.Listings.{has_end_is}
use Rattle.fap_assemble.proofs.ModuleEnds.{told_is}
use Rattle.fap_assemble.proofs.ModuleListings.{known_read, all_listed}
use Rattle.fap_assemble.proofs.module_listing.listed_by.Goals as goal

pub start_of-requires-clause-told : goal.start_of-requires-clause-told
start_of-requires-clause-told c = told_is (relocated_in c.args.r.now) (texts c.args.cards.now) (texts c.args.read.now) c.requires.tells.told c.requires.read

pub returns : goal.returns
returns c =
    let r = c.args.r.now in
    let cards = texts c.args.cards.now in
    let read = c.requires.read in
    let all : ListedModule = record {
      rows = c.in_ok-rows_of.field-0;
      symbols = c.in_ok-to_list.field-0;
      definitions = c.in_ok-definitions_of.field-0;
      uses = c.in_ok-uses_of.field-0;
      entries = c.in_ok-entries_of.field-0;
      externs = c.in_ok-to_list-2.field-0;
      literals = c.in_ok-to_list-3.field-0;
      end_place = c.args.r.now.whole.end_place;
      start = c.in_ok-start_of.field-0;
      has_end = nat_lt c.args.end (length c.args.cards.now);
    } in
    all_listed c.args.cards.now r all
    (told_is (relocated_in r) cards (texts c.args.read.now) c.requires.tells.told read)
    (known_read r cards (texts c.args.read.now) c.requires.tells.symbols read)
    (c.in_ok-rows_of.ensures ∙ ap (λ (cs : List (List ℕ)). module_rows_from (relocated_in r) nothing_moved [] cs) read)
    c.in_ok-to_list.ensures
    (c.in_ok-definitions_of.ensures ∙ ap (λ (cs : List (List ℕ)). mentions_from defined_on 1 cs) read)
    (c.in_ok-uses_of.ensures ∙ ap (λ (cs : List (List ℕ)). mentions_from used_on 1 cs) read)
    (c.in_ok-entries_of.ensures ∙ ap (λ (cs : List (List ℕ)). entries_of (relocated_in r) cs) read)
    c.in_ok-to_list-2.ensures c.in_ok-to_list-3.ensures refl c.in_ok-start_of.ensures (has_end_is c.args.cards.now c.args.end c.requires.end)
