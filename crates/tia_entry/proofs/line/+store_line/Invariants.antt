use Rattle.tia_entry.proofs.line.+store_line.Given as goal

abbrev pub decreases-store_line : goal.decreases-store_line
decreases-store_line g l = l.count
