use Rattle.std.proofs.Common.{◌≡◌, ◌++◌, ℕ, List, length}
use Rattle.text_model.specs.Canonical.{word_cards}
use Rattle.text_writer.specs.Writing.{Adds}
use Rattle.text_writer.proofs.cards.add_word_cards.Given as goal

-- the cards so far were added, and with those of what is left they are all
abbrev pub invariant-cards : goal.invariant-cards
invariant-cards g l = (done : List ℕ) × Adds g.K.Sink done l.fn.out l.out × (done ++ word_cards l.rest ≡ word_cards l.words)

abbrev pub decreases-cards : goal.decreases-cards
decreases-cards g l = length l.rest
