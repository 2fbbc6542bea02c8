use Rattle.std.proofs.Common.{◌≡◌, ◌++◌, length, map}
use Rattle.fap_model.specs.Cards.{cards_of}
use Rattle.fap_read.proofs.card.cards_of_words.Given as goal

abbrev pub invariant-cards : goal.invariant-cards
invariant-cards l = map (λ c. c.text) l.cards ++ cards_of l.rest ≡ cards_of l.fn.words

abbrev pub decreases-cards : goal.decreases-cards
decreases-cards l = length l.rest
