use Rattle.fap_listing.proofs.Rows.{first_word_is}
use Rattle.text_writer.proofs.Added.{◌⨾◌, adds_is}
use Rattle.fap_listing.proofs.word.add_first_word.Goals as goal

pub returns-in-len1-up : goal.returns-in-len1-up
returns-in-len1-up g c =
    adds_is (first_word_is c.args.split c.args.words.now c.word-item.result c.in-len1-up.len_at_least c.word-item.is)
    (c.add_word.ensures ⨾ adds_is c.gap.ensures.value c.add_gap-in-len1-up.ensures)
