use Rattle.std.proofs.Common.{rules}
use Rattle.fap_listing.proofs.ModuleRows.{fault_of}
use Rattle.text_writer.proofs.Added.{◌⨾◌, adds_is}
use Rattle.fap_listing.proofs.module_card.add_module_fault.Goals as goal

pub returns-then-fault-ne0 : goal.returns-then-fault-ne0
returns-then-fault-ne0 g c =
    adds_is (fault_of c.args.fault (search rules))
    ((c.add_gap.ensures ⨾ c.add.ensures ⨾ c.add_number.ensures ⨾ c.add-then-fault-ne0.ensures ⨾ adds_is c.module_wanted.ensures c.add-then-fault-ne0-2.ensures) ⨾ c.end_line.ensures)
