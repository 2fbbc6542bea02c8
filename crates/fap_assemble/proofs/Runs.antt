-- The words of cards, while they grow, are those of the definition's segments.
use Rattle.std.proofs.Common.{◌≡◌, ℕ, List, [], ◌∷◌, refl}
use Rattle.bss_loader.specs.Runs.{Open, words_in, closed}
use Rattle.bss_loader.proofs.Runs.{StandsFor, closed_by, steps}
use Rattle.fap_model.specs.Places.{Known, known_behind}
use Rattle.fap_model.specs.Decks.{Segment, Whole, add_words, segment_words, segments_from, words_by, operation_in}
use Rattle.fap_assemble.specs.Runs.{cards_in}

card_steps : (whole : Whole) (pre : List ℕ) (o : Open) (ss : List Segment) (k : Known) (cards : List (List ℕ)) → StandsFor pre o ss
    → StandsFor pre (cards_in whole o k cards) (segments_from whole ss k cards)
card_steps whole pre o ss k [] h = h
card_steps whole pre o ss k (card ∷ cards) h =
    card_steps whole pre (words_in o k.place (words_by whole k (operation_in card) card)) (add_words ss k.place (words_by whole k (operation_in card) card)) (known_behind k card) cards
    (steps pre o ss k.place (words_by whole k (operation_in card) card) h)

pub all_words_are : (whole : Whole) (k : Known) (cards : List (List ℕ)) (place head : ℕ) (ws : List ℕ)
    → closed (words_in (cards_in whole (record { done = head ∷ []; first = 0; run = [] }) k cards) place ws)
    ≡ head ∷ segment_words (add_words (segments_from whole [] k cards) place ws)
all_words_are whole k cards place head ws =
    let o : Open = cards_in whole (record { done = head ∷ []; first = 0; run = [] }) k cards in
    let grown : StandsFor (head ∷ []) o (segments_from whole [] k cards) = card_steps whole (head ∷ []) _ [] k cards (refl, refl) in
    let all : StandsFor (head ∷ []) (words_in o place ws) (add_words (segments_from whole [] k cards) place ws) = steps (head ∷ []) o _ place ws grown in
    closed_by (head ∷ []) (words_in o place ws).done (words_in o place ws).first (words_in o place ws).run _ all
