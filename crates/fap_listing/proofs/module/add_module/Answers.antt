use Rattle.std.proofs.Common.{List, ap, sym}
use Rattle.std.proofs.lemmas.List.{length-map}
use Rattle.fap_read.specs.declared.card.Card.{Card}
use Rattle.link_model.specs.declared.types.ModuleRow.{ModuleRow}
use Rattle.fap_assemble.specs.Steps.{texts}
use Rattle.fap_listing.specs.Listing.{end_text, literals_text}
use Rattle.fap_listing.specs.ModuleListing.{module_text, module_rows_text, entries_text, externs_text}
use Rattle.fap_listing.proofs.Rows.{symbols_same}
use Rattle.text_writer.proofs.Added.{◌⨾◌, adds_is}
use Rattle.fap_listing.proofs.module.add_module.Goals as goal

pub returns : goal.returns
unfolding module_text
returns g c =
    let l = c.args.listed.now in
    c.line.ensures
    ⨾ adds_is (ap (λ (rows : List ModuleRow). module_rows_text 1 rows (texts c.args.cards.now)) c.as_slice.ensures) c.add_module_rows.ensures
    ⨾ adds_is (ap (end_text l.has_end) (sym (length-map c.args.cards.now (λ (card : Card). card.text)))) c.add_end.ensures
    ⨾ adds_is (ap (literals_text l.end_place) c.as_slice-2.ensures) c.add_literals.ensures
    ⨾ adds_is (symbols_same _ _ _ _ _ _ c.as_slice-3.ensures c.as_slice-4.ensures c.as_slice-5.ensures) c.add_symbols.ensures
    ⨾ adds_is (ap entries_text c.as_slice-6.ensures) c.add_entries.ensures
    ⨾ adds_is (ap externs_text c.as_slice-7.ensures) c.add_externs.ensures
    ⨾ c.end_line.ensures
    ⨾ c.add_module_figures_line.ensures
