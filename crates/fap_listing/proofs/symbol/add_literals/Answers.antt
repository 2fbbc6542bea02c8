use Rattle.std.proofs.Common.{[], ◌∷◌, codes, append_assoc}
use Rattle.fap_listing.specs.Words.{blanks}
use Rattle.fap_listing.proofs.Rows.{literals_of}
use Rattle.text_writer.proofs.Added.{◌⨾◌, adds_is}
use Rattle.fap_listing.proofs.symbol.add_literals.Goals as goal

pub returns-in-len1-up : goal.returns-in-len1-up
returns-in-len1-up g c =
    adds_is (literals_of c.args.place c.args.literals.now c.in-len1-up.len_at_least)
    (adds_is (append_assoc (blanks 30) (codes "LITERALS") (10 ∷ [])) (c.add_gap.ensures ⨾ c.line.ensures) ⨾ c.add_word_lines.ensures)
