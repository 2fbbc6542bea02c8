use Rattle.std.proofs.Common.{ap}
use Rattle.word36.specs.Octal.{octal_digits}
use Rattle.text_writer.proofs.Added.{◌⨾◌, adds_is}
use Rattle.fap_listing.proofs.module.add_entry.Goals as goal

pub returns : goal.returns
returns g c = (c.add_characters.ensures ⨾ c.add_gap.ensures ⨾ adds_is (ap (octal_digits 5) c.from.ensures) c.add_digits.ensures) ⨾ c.end_line.ensures
