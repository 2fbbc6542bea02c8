-- The cards of a file's words.
use Rattle.std.proofs.Common.{◌≡◌, ℕ, ◌<◌, List, [], ◌∷◌, ◌++◌, length, take, drop, map, min, zero, suc, arith, refl, sym, ap, ◌∙◌, append_assoc}
use Rattle.std.proofs.lemmas.List.{append-nil, map_push, take_min, drop_min}
use Rattle.std.specs.List.{flat_map}
use Rattle.bcd48.specs.Words.{characters_of}
use Rattle.fap_model.specs.Cards.{grown, cards_of}
use Rattle.fap_read.specs.declared.card.Card.{Card}

grown_is : (card : List ℕ) (room : ℕ) (ws : List ℕ) → grown card room ws ≡ (card ++ flat_map characters_of (take room ws)) ∷ cards_of (drop room ws)
grown_is card zero [] = rw (append-nil card) refl
grown_is card (suc room) [] = rw (append-nil card) refl
grown_is card zero (w ∷ ws) = rw (append-nil card) refl
grown_is card (suc room) (w ∷ ws) =
    grown_is (card ++ characters_of w) room ws
    ∙ ap (λ (l : List ℕ). l ∷ cards_of (drop room ws)) (append_assoc card (characters_of w) (flat_map characters_of (take room ws)))

first_card : (ws : List ℕ) → 0 < length ws → cards_of ws ≡ flat_map characters_of (take 14 ws) ∷ cards_of (drop 14 ws)
first_card [] h = absurd (omega arith)
first_card (w ∷ ws) h = grown_is (characters_of w) 13 ws

-- a card more
pub card_done : (cards news : List Card) (c : Card) (ws first more : List ℕ) (total : List (List ℕ)) (n : ℕ) → 0 < length ws → n ≡ min (length ws) 14
    → first ≡ take n ws → more ≡ drop n ws → c.text ≡ flat_map characters_of first → news ≡ cards ++ c ∷ []
    → map (λ (c : Card). c.text) cards ++ cards_of ws ≡ total → map (λ (c : Card). c.text) news ++ cards_of more ≡ total
card_done cards news c ws first more total n h m f o t e i =
    let turned : n ≡ min 14 (length ws) = omega arith in
    let front : first ≡ take 14 ws = f ∙ ap (λ (k : ℕ). take k ws) turned ∙ take_min 14 ws in
    let back : more ≡ drop 14 ws = o ∙ ap (λ (k : ℕ). drop k ws) turned ∙ drop_min 14 ws in
    let text : c.text ≡ flat_map characters_of (take 14 ws) = t ∙ ap (λ (l : List ℕ). flat_map characters_of l) front in
    ap (λ (l : List Card). map (λ (c : Card). c.text) l ++ cards_of more) e
    ∙ ap (λ (l : List (List ℕ)). l ++ cards_of more) (map_push (λ (c : Card). c.text) cards c)
    ∙ append_assoc (map (λ (c : Card). c.text) cards) (c.text ∷ []) (cards_of more)
    ∙ ap (λ (l : List ℕ). map (λ (c : Card). c.text) cards ++ l ∷ cards_of more) text
    ∙ ap (λ (l : List ℕ). map (λ (c : Card). c.text) cards ++ flat_map characters_of (take 14 ws) ∷ cards_of l) back
    ∙ ap (λ (l : List (List ℕ)). map (λ (c : Card). c.text) cards ++ l) (sym (first_card ws h))
    ∙ i
