use Rattle.std.proofs.Common.{◌≡◌, ◌++◌}
use Rattle.program_model.specs.Lines.{words_of_line}
use Rattle.script_read.proofs.words.add_line.Given as goal

abbrev pub invariant-words : goal.invariant-words
invariant-words l = l.words ++ words_of_line l.left l.rest ≡ l.fn.words ++ words_of_line 14 l.line

abbrev pub decreases-words : goal.decreases-words
decreases-words l = l.left
