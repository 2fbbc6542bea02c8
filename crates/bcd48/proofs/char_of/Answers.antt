use Rattle.std.proofs.Common.{arith}
use Rattle.bcd48.proofs.Table.{is_character-char_of}
use Rattle.bcd48.proofs.char_of.Goals as goal

pub returns-clause-character : goal.returns-clause-character
returns-clause-character c = is_character-char_of c.from.result (omega arith)
