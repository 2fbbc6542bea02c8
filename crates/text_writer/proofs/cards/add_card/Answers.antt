use Rattle.text_writer.proofs.Added.{◌⨾◌}
use Rattle.text_writer.proofs.cards.add_card.Goals as goal

pub returns : goal.returns
returns g c = (c.add.ensures ⨾ c.add_words.ensures) ⨾ c.end_line.ensures
