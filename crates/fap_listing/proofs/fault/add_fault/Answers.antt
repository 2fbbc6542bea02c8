use Rattle.std.proofs.Common.{rules, ap}
use Rattle.std.specs.Fmt.{decimal}
use Rattle.fap_listing.specs.Faults.{at_column}
use Rattle.fap_listing.proofs.Rows.{fault_of}
use Rattle.text_writer.proofs.Added.{◌⨾◌, adds_is}
use Rattle.fap_listing.proofs.fault.add_fault.Goals as goal

pub returns-in-Some : goal.returns-in-Some
returns-in-Some g c =
    adds_is (fault_of c.args.op c.args.cause c.in-Some.cause c.args.column (search rules))
    (c.add_mark.ensures ⨾ (c.add_gap.ensures ⨾ c.add.ensures ⨾ adds_is (ap decimal c.number.ensures) c.add_number.ensures
    ⨾ adds_is (ap (at_column c.args.column) c.wanted.ensures) c.add_at_column.ensures) ⨾ c.end_line.ensures)
