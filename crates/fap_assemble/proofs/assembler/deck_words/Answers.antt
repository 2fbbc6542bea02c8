use Rattle.std.proofs.Common.{◌≡◌, ℕ, List, subst, arith}
use Rattle.std.specs.Prelude.{IfOk}
use Rattle.fap_assemble.specs.Steps.{texts}
use Rattle.fap_assemble.specs.Wholes.{whole_in}
use Rattle.fap_assemble.proofs.Reading.{deck_is, sound_end}
use Rattle.fap_assemble.proofs.assembler.deck_words.Goals as goal

pub start-requires-clause-within : goal.start-requires-clause-within
start-requires-clause-within c = omega (arith, c.requires.end, sound_end c.args.cards.now c.requires.sound)

pub returns : goal.returns
returns c =
    subst (λ (l : List ℕ). IfOk c.words_of.result (λ ws. ws ≡ l))
    (deck_is (whole_in c.args.whole.now) (texts c.args.cards.now) (texts c.args.read.now) c.head.result c.in_ok-start.start c.requires.whole c.requires.read c.in_ok-start.ensures c.head.ensures)
    c.words_of.ensures
