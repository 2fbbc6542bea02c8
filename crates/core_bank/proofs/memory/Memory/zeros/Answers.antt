use Rattle.std.proofs.Common.{◌∙◌, sym, subst}
use Rattle.core_bank.specs.Bank.{AreWords}
use Rattle.core_bank.proofs.Blocks.{zeros_are_words}
use Rattle.core_bank.proofs.memory.Memory.zeros.Goals as goal

pub returns-clause-value : goal.returns-clause-value
returns-clause-value c = c.of.ensures ∙ c.in_ok-words.ensures.ok

pub returns-clause-words : goal.returns-clause-words
returns-clause-words c = subst AreWords (sym (returns-clause-value c)) zeros_are_words
