use Rattle.std.proofs.Common.{rules}
use Rattle.fap_listing.proofs.Rows.{end_of}
use Rattle.text_writer.proofs.Added.{◌⨾◌, adds_is}
use Rattle.fap_listing.proofs.listing.add_end.Goals as goal

pub returns-then-not-has_end : goal.returns-then-not-has_end
returns-then-not-has_end g c =
    adds_is (end_of c.args.has_end c.args.count (search rules))
    ((c.add_gap.ensures ⨾ c.add.ensures ⨾ c.add_number.ensures ⨾ c.add-then-not-has_end.ensures) ⨾ c.end_line.ensures)
