use Rattle.std.proofs.Common.{ap}
use Rattle.word36.specs.Octal.{octal_digits}
use Rattle.text_writer.proofs.Added.{◌⨾◌, adds_is}
use Rattle.fap_listing.proofs.symbol.add_symbol.Goals as goal

pub returns : goal.returns
returns g c =
    (c.add_characters.ensures ⨾ c.add_gap.ensures ⨾ adds_is (ap (octal_digits 5) c.from.ensures) c.add_digits.ensures ⨾ c.add.ensures ⨾ c.add_mentions.ensures
    ⨾ c.add-2.ensures ⨾ c.add_mentions-2.ensures) ⨾ c.end_line.ensures
