-- The core that a linked deck leaves: its words from the first place on.
use Rattle.std.proofs.Common.{◌≡◌, ℕ, zero, suc, ◌+◌, ◌*◌, ◌<◌, ◌≤◌, List, [], ◌∷◌, length, get_or, replicate, refl, sym, ap, ◌∙◌, arith, length-append, ⊎_elim}
use Rattle.std.proofs.lemmas.Bool.{cases_lt}
use Rattle.std.proofs.lemmas.List.{get_or-replicate, length-replicate}
use Rattle.std.proofs.lemmas.List.{length-map}
use Rattle.std.proofs.lemmas.List.Elements.{All-nil, All-cons}
use Rattle.program_model.specs.Decks.{filled}
use Rattle.fap_model.specs.Decks.{Segment, blocks_for, add_words, segment_words}
use Rattle.link_model.specs.declared.types.Module.{Module}
use Rattle.link_model.specs.Modules.{pair_word}
use Rattle.link_model.specs.Links.{places_of_all, linked_word, linked_from, linked_deck, start_of_all}
use Rattle.rule_laws.specs.Decks.{Covers, AreStored}
use Rattle.rule_laws.proofs.AddedWords.{IsShort, words_over, words_fit, words_laid}
use Rattle.rule_laws.proofs.Overlays.{overlaid, overlaid_stores}
use Rattle.rule_laws.proofs.StoreLaws.{filled_is}

pub linked_length : (base : ℕ) (entries : List (ℕ × ℕ)) (modules : List Module) → length (linked_from base entries modules) ≡ places_of_all modules
linked_length base entries [] = refl
linked_length base entries (m ∷ modules) =
    length-append _ (linked_from (base + length m.places) entries modules)
    ∙ ap (λ (n : ℕ). n + length (linked_from (base + length m.places) entries modules)) (length-map m.places (linked_word base entries m.externs))
    ∙ ap (λ (n : ℕ). length m.places + n) (linked_length (base + length m.places) entries modules)

-- words that are stored as segments from place 0 on
over_core : (head : ℕ) (ws core : List ℕ) → length ws ≤ 32768
    → filled (head ∷ segment_words (add_words [] 0 ws)) core ≡ overlaid (record { first = 0; words = ws } ∷ []) core
over_core head ws core small =
    filled_is head (segment_words (add_words [] 0 ws)) (add_words [] 0 ws) core
    (words_laid (length ws) (add_words [] 0 ws) small
    (words_fit (length ws) [] 0 ws (λ (some : 1 ≤ length ws). omega arith) (All-nil (IsShort (length ws)))))
    ∙ words_over [] 0 ws core

-- so many plus zeros
abbrev zeros : ℕ → List ℕ
zeros n = replicate n 0

room_for : (places : ℕ) → places ≤ 256 * blocks_for places
room_for places = omega arith

past : (ws : List ℕ) (place : ℕ) → length ws ≤ place → get_or ws place 0 ≡ 0
past [] place h = refl
past (w ∷ ws) zero h = absurd (omega (arith, h))
past (w ∷ ws) (suc place) h = past ws place (omega (arith, h))

zero_at : (n place : ℕ) → get_or (zeros n) place 0 ≡ 0
zero_at n place =
    ⊎_elim (λ (low : place < n). get_or-replicate n place 0 0 low)
    (λ (high : n ≤ place). past (zeros n) place (omega (arith, high, size))) (cases_lt place n)
  where
    size : length (zeros n) ≡ n
    size = length-replicate n 0

stored_at : (ws core : List ℕ) (n place : ℕ) → length ws ≤ n → AreStored (record { first = 0; words = ws } ∷ []) (zeros n) core
    → get_or core place 0 ≡ get_or ws place 0
stored_at ws core n place room stored =
    ⊎_elim
    (λ (low : place < length ws).
    let inside : 0 + place < length (zeros n) = omega (arith, low, room, size) in
    let here : 0 + place ≡ place = omega arith in
    ap (λ (p : ℕ). get_or core p 0) (sym here)
    ∙ stored.last [] [] (record { first = 0; words = ws }) place refl low inside (All-nil (λ (t : Segment). ¬ (Covers t (0 + place)))))
    (λ (high : length ws ≤ place).
    stored.old place
    (All-cons (λ (t : Segment). ¬ (Covers t place)) (record { first = 0; words = ws }) [] (λ (c : Covers (record { first = 0; words = ws }) place). omega (arith, high, c.1))
    (All-nil (λ (t : Segment). ¬ (Covers t place))))
    ∙ zero_at n place ∙ sym (past ws place high))
    (cases_lt place (length ws))
  where
    size : length (zeros n) ≡ n
    size = length-replicate n 0

pub core_is : (entries : List (ℕ × ℕ)) (modules : List Module) (place : ℕ) → places_of_all modules ≤ 32768
    → get_or (filled (linked_deck entries modules) (zeros (256 * blocks_for (places_of_all modules)))) place 0
    ≡ get_or (linked_from 0 entries modules) place 0
core_is entries modules place small =
    let ws : List ℕ = linked_from 0 entries modules in
    let n : ℕ = 256 * blocks_for (places_of_all modules) in
    let size : length ws ≡ places_of_all modules = linked_length 0 entries modules in
    let fits : places_of_all modules ≤ n = room_for (places_of_all modules) in
    ap (λ (l : List ℕ). get_or l place 0)
    (over_core (pair_word (start_of_all modules) (blocks_for (places_of_all modules))) ws (zeros n) (omega (arith, size, small)))
    ∙ stored_at ws (overlaid (record { first = 0; words = ws } ∷ []) (zeros n)) n place (omega (arith, size, fits))
    (overlaid_stores (record { first = 0; words = ws } ∷ []) (zeros n))
