use Rattle.std.proofs.Common.{arith}
use Rattle.dialogue.proofs.Parts.{word_all, behind_all}
use Rattle.dialogue.proofs.runcom.made.+word_at.Goals as goal

pub word_at-requires : goal.word_at-requires
word_at-requires t c = (omega (arith, c.decreases, c.if-number-eq0.false), behind_all c.args.text.now _ c.first_word.ensures.behind c.requires.characters)

pub returns-then-number-eq0-clause-characters : goal.returns-then-number-eq0-clause-characters
returns-then-number-eq0-clause-characters t c = word_all c.args.text.now _ c.first_word.ensures.word c.requires.characters
