use Rattle.std.proofs.Common.{◌≡◌, ◌++◌}
use Rattle.fap_read.specs.Given.{words_in}
use Rattle.fap_read.proofs.words.packed_words.Given as goal

abbrev pub invariant-words : goal.invariant-words
invariant-words l = l.words ++ words_in l.left l.rest ≡ words_in l.count l.fn.text

abbrev pub decreases-words : goal.decreases-words
decreases-words l = l.left
