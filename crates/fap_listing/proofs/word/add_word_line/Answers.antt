use Rattle.text_writer.proofs.Added.{◌⨾◌}
use Rattle.fap_listing.proofs.word.add_word_line.Goals as goal

pub returns : goal.returns
returns g c = (c.add_gap.ensures ⨾ c.add_digits.ensures ⨾ c.add_gap-2.ensures ⨾ c.add_word.ensures) ⨾ c.end_line.ensures
