use Rattle.std.proofs.Common.{length}
use Rattle.ctss_types.specs.Words.{words_of}
use Rattle.supervisor.proofs.words.+count_words.Given as goal

abbrev pub decreases-count_words : goal.decreases-count_words
decreases-count_words l = length (words_of l.text.now)
