use Rattle.std.proofs.Common.{sym, ap}
use Rattle.text_writer.proofs.Added.{◌⨾◌, adds_is}
use Rattle.program_trace.specs.Texts.{card_text}
use Rattle.program_trace.proofs.text.add_card.Goals as goal

pub returns-in-Some : goal.returns-in-Some
returns-in-Some g c = adds_is (sym (ap card_text c.in-Some.is)) (c.add.ensures ⨾ c.add_number.ensures)
