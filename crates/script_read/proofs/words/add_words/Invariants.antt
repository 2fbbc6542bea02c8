use Rattle.std.proofs.Common.{◌≡◌}
use Rattle.text_model.specs.Cards.{fields_in}
use Rattle.text_model.specs.Fields.{octal_in}
use Rattle.script_read.proofs.CardWords.{behind}
use Rattle.script_read.proofs.words.add_words.Given as goal

abbrev pub invariant-words : goal.invariant-words
invariant-words l = behind l.words (fields_in octal_in l.left l.rest) ≡ behind l.fn.words (fields_in octal_in 5 l.text)

abbrev pub decreases-words : goal.decreases-words
decreases-words l = l.left
