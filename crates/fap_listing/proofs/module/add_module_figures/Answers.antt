use Rattle.std.proofs.Common.{ap}
use Rattle.std.specs.Fmt.{decimal}
use Rattle.word36.specs.Octal.{octal_digits}
use Rattle.text_writer.proofs.Added.{◌⨾◌, adds_is}
use Rattle.fap_listing.proofs.module.add_module_figures.Goals as goal

pub returns : goal.returns
returns g c =
    c.add.ensures ⨾ adds_is (ap (octal_digits 5) c.from.ensures) c.add_digits.ensures ⨾ c.add-2.ensures ⨾ adds_is (ap decimal c.all_places.ensures) c.add_number.ensures ⨾ c.add-3.ensures
    ⨾ adds_is (ap decimal c.len.ensures) c.add_number-2.ensures ⨾ c.add-4.ensures ⨾ adds_is (ap decimal c.len-2.ensures) c.add_number-3.ensures ⨾ c.add-5.ensures
    ⨾ adds_is (ap decimal c.len-3.ensures) c.add_number-4.ensures ⨾ c.add-6.ensures
