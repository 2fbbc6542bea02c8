use Rattle.std.specs.Prelude.{length}
use Rattle.ctss_types.specs.Words.{words_of}
use Rattle.dialogue.proofs.command_table.+are_short.Given as goal

abbrev pub decreases-are_short : goal.decreases-are_short
decreases-are_short l = length (words_of l.text.now)
