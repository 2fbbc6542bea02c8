use Rattle.core_bank.specs.Bank.{blank}
use Rattle.core_bank.proofs.Blocks.{AreWords-blank}
use Rattle.core_bank.proofs.Bank.clear_block.Goals as goal

pub returns-clause-words : goal.returns-clause-words
unfolding blank
returns-clause-words c = c.copy_in.ensures.words AreWords-blank
