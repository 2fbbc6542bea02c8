use Rattle.text_writer.proofs.Added.{◌⨾◌}
use Rattle.fap_listing.proofs.fault.add_at_column.Goals as goal

pub returns : goal.returns
returns g c = c.add.ensures ⨾ c.add_number.ensures ⨾ c.add-2.ensures ⨾ c.add-3.ensures
