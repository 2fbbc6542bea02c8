-- Each read takes a byte or more of what may be read in the turn.
use Rattle.run_cases.proofs.talk.Talk.hear.Given as goal

abbrev pub decreases-reading : goal.decreases-reading
decreases-reading l = l.room
