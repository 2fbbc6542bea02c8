use Rattle.text_writer.proofs.Added.{◌⨾◌}
use Rattle.run_listing.proofs.text.add_no_line.Goals as goal

pub returns : goal.returns
returns g c = (c.add.ensures ⨾ c.add_number.ensures ⨾ c.add-2.ensures) ⨾ c.end_line.ensures
