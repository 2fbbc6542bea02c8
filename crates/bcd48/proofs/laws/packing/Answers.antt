use Rattle.std.proofs.Common.{ap, map}
use Rattle.bcd48.specs.Characters.{char_of}
use Rattle.bcd48.proofs.Packing.{codes_in-packed}
use Rattle.bcd48.proofs.laws.packing.Goals as goal

pub returns-clause-text : goal.returns-clause-text
returns-clause-text c cs six small = ap (map char_of) (codes_in-packed cs six small)
