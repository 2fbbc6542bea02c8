use Rattle.dialogue.proofs.command_table.+are_at_most.Given as goal

abbrev pub decreases-are_at_most : goal.decreases-are_at_most
decreases-are_at_most l = l.most
