use Rattle.std.proofs.Common.{◌∙◌, sym, ap, subst, List, ℕ, arith}
use Rattle.std.proofs.lemmas.Grind.{common_steps}
use Rattle.core_bank.specs.Bank.{AreWords, block_at}
use Rattle.core_bank.proofs.Blocks.{block_at-with_block_other, AreWords-with_block}
use Rattle.core_bank.proofs.Bank.copy_in.Goals as goal

pub returns-clause-value : goal.returns-clause-value
returns-clause-value c = grind (arith, common_steps)

pub returns-clause-others : goal.returns-clause-others
returns-clause-others c = λ b other.
    ap (λ (l : List ℕ). block_at l b) (returns-clause-value c)
    ∙ block_at-with_block_other c.args.self.now c.args.from.now c.args.block b (sym c.word_count-count.ensures.len ∙ c.word_count-count.ensures.value) c.requires.block c.requires.whole other

pub returns-clause-words : goal.returns-clause-words
returns-clause-words c = λ new old.
    subst AreWords (sym (returns-clause-value c)) (AreWords-with_block c.args.self.now c.args.from.now c.args.block old new)
