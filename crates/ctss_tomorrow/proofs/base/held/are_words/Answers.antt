use Rattle.std.proofs.Common.{ℕ, ◌<◌, ◌^◌, List, subst}
use Rattle.std.specs.List.{All}
use Rattle.std.proofs.lemmas.List.{take_all}
use Rattle.std.proofs.lemmas.List.Elements.{All-more}
use Rattle.ctss_tomorrow.proofs.base.held.are_words.Goals as goal

abbrev IsWord : ℕ → Type 0
IsWord w = w < 2 ^ 36

pub loop-word-preserved : goal.loop-word-preserved
loop-word-preserved c =
    All-more IsWord c.args.words.now c.loop-word.word-index c.word-item.result c.loop-word-test.true c.loop-word.invariant
    (subst IsWord c.word-item.is (subst IsWord c.bits.ensures.bits c.bits.ensures.below))

pub returns : goal.returns
returns c =
    subst (λ (ws : List ℕ). All IsWord ws) (take_all c.loop-word.word-index c.args.words.now c.loop-word-test.false) c.loop-word.invariant
