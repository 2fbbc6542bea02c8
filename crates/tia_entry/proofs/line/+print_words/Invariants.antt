use Rattle.tia_entry.proofs.line.+print_words.Given as goal

abbrev pub decreases-print_words : goal.decreases-print_words
decreases-print_words g l = l.count
