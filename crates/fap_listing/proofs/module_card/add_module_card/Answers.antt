use Rattle.std.proofs.Common.{Option, ap}
use Rattle.fap_model.specs.declared.types.Operation.{Operation}
use Rattle.fap_listing.specs.Words.{place_text}
use Rattle.fap_listing.specs.ModuleListing.{first_kind}
use Rattle.fap_listing.proofs.Rows.{first_same}
use Rattle.text_writer.proofs.Added.{◌⨾◌, adds_is}
use Rattle.fap_listing.proofs.module_card.add_module_card.Goals as goal

pub returns : goal.returns
returns g c =
    let op = c.module_operation-op.ensures in
    (c.add_column.ensures ⨾ c.add_gap.ensures ⨾ adds_is (ap (λ (o : Option Operation). place_text o c.args.row.now.place) op) c.add_place.ensures ⨾ c.add_gap-2.ensures
    ⨾ adds_is (first_same c.split_of.result c.module_operation-op.result _ _ _ c.split_of.ensures op c.as_slice-words.ensures) c.add_first_word.ensures
    ⨾ adds_is (ap (first_kind c.args.row.now.kind) c.as_slice-words.ensures) c.add_first_kind.ensures ⨾ c.add_gap-3.ensures ⨾ c.add_text.ensures)
    ⨾ c.end_line.ensures
