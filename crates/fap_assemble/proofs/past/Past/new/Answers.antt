use Rattle.std.proofs.Common.{refl}
use Rattle.fap_assemble.proofs.past.Past.new.Goals as goal

pub returns : goal.returns
returns c = rw (c.new.ensures, c.new-2.ensures) refl
