use Rattle.cmd_program.proofs.post_mortem.+put_octal.Given as goal

abbrev pub decreases-put_octal : goal.decreases-put_octal
decreases-put_octal l = l.count
