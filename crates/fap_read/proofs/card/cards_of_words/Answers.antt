use Rattle.std.proofs.Common.{rules}
use Rattle.fap_read.proofs.FileCards.{card_done}
use Rattle.fap_read.proofs.card.cards_of_words.Goals as goal

pub cards-preserved : goal.cards-preserved
cards-preserved c =
    card_done c.cards.cards c.push.new.self c.in_ok-card_of_words.field-0 c.cards.rest.now c.split_at.result.0.now c.split_at.result.1.now _ c.min.result
    (search rules) (search rules) c.split_at.ensures.front c.split_at.ensures.back c.in_ok-card_of_words.ensures (search rules) c.cards.invariant
