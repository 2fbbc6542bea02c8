use Rattle.text_writer.proofs.Added.{◌⨾◌}
use Rattle.fap_listing.proofs.module.add_extern.Goals as goal

pub returns : goal.returns
returns g c = c.add_characters.ensures ⨾ c.end_line.ensures
