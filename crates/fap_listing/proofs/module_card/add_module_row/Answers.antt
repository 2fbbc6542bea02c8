use Rattle.fap_listing.proofs.Rows.{lines_same}
use Rattle.text_writer.proofs.Added.{◌⨾◌, adds_is}
use Rattle.fap_listing.proofs.module_card.add_module_row.Goals as goal

pub returns : goal.returns
returns g c =
    c.add_module_card.ensures
    ⨾ adds_is
    (lines_same c.split_of.result c.module_operation-op.result _ _ _ _ _ _ c.split_of.ensures c.module_operation-op.ensures c.next_place.ensures c.later_words-later.ensures c.as_slice.ensures)
    c.add_word_lines.ensures
    ⨾ c.add_module_fault.ensures
    ⨾ c.add_looks.ensures
