use Rattle.bcd48.proofs.Table.{is_character-ascii, all_characters}
use Rattle.bcd48.proofs.laws.printing.Goals as goal

pub returns-clause-ascii : goal.returns-clause-ascii
returns-clause-ascii c = is_character-ascii

pub returns-clause-word : goal.returns-clause-word
returns-clause-word c = all_characters
