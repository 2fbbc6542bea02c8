use Rattle.bcd48.proofs.Table.{char_of-code_of, code_of-char_of}
use Rattle.bcd48.proofs.laws.both_ways.Goals as goal

pub returns-clause-character : goal.returns-clause-character
returns-clause-character c = char_of-code_of

pub returns-clause-code : goal.returns-clause-code
returns-clause-code c = code_of-char_of
