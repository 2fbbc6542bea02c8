-- How far the words of cards reach.
use Rattle.std.proofs.Common.{ℕ, zero, suc, ◌+◌, ◌*◌, ◌≤◌, List, [], ◌∷◌, ◌++◌, length, All, sym, subst, arith, le_trans, le_refl}
use Rattle.std.proofs.lemmas.List.Elements.{All-nil, All-cons}
use Rattle.fap_model.specs.Places.{Known, max_place, known_behind}
use Rattle.fap_model.specs.Decks.{Whole, Segment, operation_in, size_by, reach_of, reach_from, blocks_for, words_by, add_words, segments_from}
use Rattle.rule_laws.specs.Cards.{known}
use Rattle.rule_laws.specs.Assembly.{words_of_cards, IsWithin}
use Rattle.rule_laws.proofs.PlaceLaws.{known_push}
use Rattle.rule_laws.proofs.AddedWords.{IsShort, words_fit}
use Rattle.rule_laws.proofs.CardRooms.{AllRoomy}

pub reach_grows : (reach place n : ℕ) → reach ≤ reach_of reach place n
reach_grows reach place zero = omega arith
reach_grows reach place (suc n) = omega arith

pub reach_covers : (reach place n : ℕ) → 1 ≤ n → place + n ≤ reach_of reach place n
reach_covers reach place zero h = absurd (omega (arith, h))
reach_covers reach place (suc n) h = omega arith

pub reach_small : (limit reach place n : ℕ) → reach ≤ limit → (1 ≤ n → place + n ≤ limit)
    → reach_of reach place n ≤ limit
reach_small limit reach place zero h k = h
reach_small limit reach place (suc n) h k = let end : place + suc n ≤ limit = k (omega arith) in omega (arith, h, end)

reach_more : (reach : ℕ) (k : Known) (cards : List (List ℕ)) → reach ≤ reach_from reach k cards
reach_more reach k [] = le_refl reach
reach_more reach k (card ∷ cards) =
    let next : ℕ = reach_of reach k.place (size_by (operation_in card) k card) in
    le_trans (reach_grows reach k.place (size_by (operation_in card) k card))
    (reach_more next (known_behind k card) cards)

pub reach_within : (whole : Whole) (reach : ℕ) (k : Known) (cards : List (List ℕ)) → AllRoomy whole k cards
    → reach ≤ max_place → reach_from reach k cards ≤ max_place
reach_within whole reach k [] all h = h
reach_within whole reach k (card ∷ cards) all h =
    reach_within whole (reach_of reach k.place (size_by (operation_in card) k card)) (known_behind k card) cards all.1
    (reach_small max_place reach k.place (size_by (operation_in card) k card) h (all.0).room)

-- the segments of cards lie within their reach
in_reach : (place size taken bound : ℕ) → taken ≤ size → (1 ≤ size → place + size ≤ bound) → 1 ≤ taken
    → place + taken ≤ bound
in_reach place size taken bound h k some =
    let one : 1 ≤ size = omega (arith, h, some) in
    let end : place + size ≤ bound = k one in
    omega (arith, h, end)

pub segments_fit : (bound reach : ℕ) (whole : Whole) (segments : List Segment) (k : Known) (cards : List (List ℕ))
    → AllRoomy whole k cards → reach_from reach k cards ≤ bound → All (IsShort bound) segments
    → All (IsShort bound) (segments_from whole segments k cards)
segments_fit bound reach whole segments k [] all h short = short
segments_fit bound reach whole segments k (card ∷ cards) all h short =
    let size : ℕ = size_by (operation_in card) k card in
    let ws : List ℕ = words_by whole k (operation_in card) card in
    let next : ℕ = reach_of reach k.place size in
    segments_fit bound next whole (add_words segments k.place ws) (known_behind k card) cards all.1 h
    (words_fit bound segments k.place ws
    (in_reach k.place size (length ws) bound (all.0).words_fit
    (λ (some : 1 ≤ size). le_trans (reach_covers reach k.place size some)
    (le_trans (reach_more next (known_behind k card) cards) h)))
    short)

-- and so do the words of each card
pub cards_within : (bound reach : ℕ) (whole : Whole) (before cards : List (List ℕ))
    → AllRoomy whole (known before) cards → reach_from reach (known before) cards ≤ bound
    → All (IsWithin bound) (words_of_cards whole before cards)
cards_within bound reach whole before [] all h = All-nil (IsWithin bound)
cards_within bound reach whole before (card ∷ cards) all h =
    let k : Known = known before in
    let size : ℕ = size_by (operation_in card) k card in
    let ws : List ℕ = words_by whole k (operation_in card) card in
    let next : ℕ = reach_of reach k.place size in
    All-cons (IsWithin bound) (record { first = k.place; words = ws })
    (words_of_cards whole (before ++ card ∷ []) cards)
    (in_reach k.place size (length ws) bound (all.0).words_fit
    (λ (some : 1 ≤ size). le_trans (reach_covers reach k.place size some)
    (le_trans (reach_more next (known_behind k card) cards) h)))
    (cards_within bound next whole (before ++ card ∷ []) cards
    (subst (λ (l : Known). AllRoomy whole l cards) (sym (known_push before card)) all.1)
    (subst (λ (l : Known). reach_from next l cards ≤ bound) (sym (known_push before card)) h))

pub within_more : (bound size : ℕ) (s : Segment) → bound ≤ size → IsWithin bound s → IsWithin size s
within_more bound size s h within some = le_trans (within some) h

-- the blocks for a reach
pub record AreBlocks (reach blocks : ℕ) : Type 0 where
  pub some : 1 ≤ blocks
  pub most : blocks ≤ 128
  pub cover : reach ≤ 256 * blocks

pub blocks_are : (reach : ℕ) → reach ≤ max_place → AreBlocks reach (blocks_for reach)
blocks_are reach h = record { some = omega arith; most = omega (arith, h); cover = omega arith }
