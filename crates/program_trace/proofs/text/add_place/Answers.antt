use Rattle.std.proofs.Common.{ap}
use Rattle.word36.specs.Octal.{octal_digits}
use Rattle.text_writer.proofs.Added.{◌⨾◌, adds_is}
use Rattle.program_trace.specs.Texts.{card_text, symbol_text}
use Rattle.program_trace.proofs.text.add_place.Goals as goal

pub returns : goal.returns
returns g c =
    adds_is (ap (octal_digits 5) c.from.ensures) c.add_digits.ensures ⨾ adds_is (ap card_text c.card_at.ensures) c.add_card.ensures
    ⨾ adds_is (ap symbol_text c.symbol_with.ensures) c.add_symbol.ensures
