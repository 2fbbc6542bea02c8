use Rattle.std.proofs.Common.{Option, ap}
use Rattle.fap_model.specs.declared.types.Operation.{Operation}
use Rattle.fap_listing.specs.Faults.{fault_lines}
use Rattle.fap_listing.proofs.Rows.{lines_same}
use Rattle.text_writer.proofs.Added.{◌⨾◌, adds_is}
use Rattle.fap_listing.proofs.card.add_row.Goals as goal

pub returns : goal.returns
returns g c =
    let op = c.operation_in-op.ensures in
    c.add_card.ensures
    ⨾ adds_is (lines_same c.split_of.result c.operation_in-op.result _ _ _ _ _ _ c.split_of.ensures op c.next_place.ensures c.later_words-later.ensures c.as_slice.ensures) c.add_word_lines.ensures
    ⨾ adds_is (ap (λ (o : Option Operation). fault_lines o c.args.row.now.cause c.args.row.now.column) op) c.add_fault.ensures
    ⨾ c.add_looks.ensures
