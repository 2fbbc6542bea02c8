use Rattle.std.proofs.Common.{arith, rules}
use Rattle.word36.proofs.OctalText.{padded_octal}
use Rattle.word36.proofs.WordDisplay.fmt.Goals as goal

pub returns-clause-writes : goal.returns-clause-writes
returns-clause-writes g c = rw (← c.self.view_is, ← padded_octal 11 c.self.inside.bits (omega arith) (omega arith)) (search rules)
