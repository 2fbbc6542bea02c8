use Rattle.std.proofs.Common.{rules}
use Rattle.fap_listing.proofs.Rows.{look_of}
use Rattle.text_writer.proofs.Added.{◌⨾◌, adds_is}
use Rattle.fap_listing.proofs.fault.add_look.Goals as goal

pub returns-then-column-ne0 : goal.returns-then-column-ne0
returns-then-column-ne0 g c =
    adds_is (look_of c.args.column c.args.text.now (search rules))
    (c.add_mark.ensures ⨾ (c.add_gap.ensures ⨾ c.add.ensures ⨾ c.add_at_column.ensures) ⨾ c.end_line.ensures)
