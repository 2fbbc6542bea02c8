use Rattle.std.proofs.Common.{refl}
use Rattle.fap_assemble.proofs.moves.Moves.new.Goals as goal

pub returns-clause-moved : goal.returns-clause-moved
returns-clause-moved c = rw (c.new.ensures, c.new-2.ensures, c.new-3.ensures) refl
