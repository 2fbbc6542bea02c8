use Rattle.std.proofs.Common.{ap}
use Rattle.std.specs.Fmt.{decimal}
use Rattle.text_writer.proofs.Added.{◌⨾◌, adds_is}
use Rattle.fap_listing.proofs.module.add_module_figures_line.Goals as goal

pub returns : goal.returns
returns g c =
    (c.add_first_module_figures.ensures ⨾ c.add.ensures ⨾ adds_is (ap decimal c.len.ensures) c.add_number.ensures ⨾ c.add-2.ensures
    ⨾ adds_is (ap decimal c.module_fault_count-faults.ensures) c.add_number-2.ensures) ⨾ c.end_line.ensures
