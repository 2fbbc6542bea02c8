use Rattle.std.specs.Prelude.{length}
use Rattle.dialogue.proofs.runcom.made.+add_parts.Given as goal

abbrev pub decreases-add_parts : goal.decreases-add_parts
decreases-add_parts l = length l.line.now
