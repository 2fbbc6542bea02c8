-- A linked deck as LOADGO reads it: where it starts, and its blocks.
use Rattle.std.proofs.Common.{◌≡◌, ℕ, ◌+◌, ◌*◌, ◌<◌, ◌≤◌, Bool, true, false, ◌||◌, nat_le, if◌then◌else◌, List, [], ◌∷◌, ◌++◌, length, map, All, Ok, Err, is_none, refl, sym, ap, ◌∙◌, subst, arith, leb-true, leb-false, length-append}
use Rattle.std.proofs.lemmas.Bool.{or_parts}
use Rattle.std.proofs.lemmas.List.{length-map}
use Rattle.std.proofs.lemmas.List.Elements.{All-nil, All-weaker}
use Rattle.word36.specs.Bits.{address_of, decrement_of}
use Rattle.program_model.specs.declared.Deck.{Deck}
use Rattle.program_model.specs.declared.LoadFault.TheVariants.{TooLarge}
use Rattle.program_model.specs.Decks.{deck_in}
use Rattle.fap_model.specs.declared.types.Operation.TheVariants.{End as end}
use Rattle.fap_model.specs.Statements.{field_for}
use Rattle.fap_model.specs.Decks.{Segment, operation_in, is_end, cards_read, cards_before_end, blocks_for, add_words, segment_words, start_is_outside, start_in}
use Rattle.link_model.specs.declared.types.Module.{Module}
use Rattle.link_model.specs.Modules.{pair_word}
use Rattle.link_model.specs.Links.{places_of_all, linked_from, linked_deck, start_of_all}
use Rattle.link_model.specs.Moves.{Moved, nothing_moved, moved_behind, moved_after}
use Rattle.link_model.specs.ModuleCards.{Relocated, relocated_of, symbols_seen, card_kind, cell, cells_from, module_faults, module_start, module_of_cards, relocatable, module_made}
use Rattle.rule_laws.specs.Decks.{IsInside, IsDeck}
use Rattle.rule_laws.proofs.DeckLaws.{deck_is_laid}
use Rattle.rule_laws.proofs.AddedWords.{IsShort, words_fit, words_laid}
use Rattle.rule_laws.proofs.EndCards.{start_below}
use Rattle.rule_laws.specs.Linked.{AreMade, deck_said}
use Rattle.rule_laws.proofs.Tests.{sound_card}
use Rattle.rule_laws.proofs.Cores.{linked_length}
use Rattle.rule_laws.proofs.Made.{ModuleGood, module_good, cells_size, without_faults}

-- the start that a module's END says

start_at : (r : Relocated) (m : Moved) (cards : List (List ℕ)) (last : List ℕ) → cards_read cards ≡ cards_before_end cards ++ last ∷ [] → is_end (operation_in last) ≡ true
    → module_start r m cards ≡ start_in r.whole (moved_after r.externs m (cards_before_end cards)).known (field_for end last)
start_at r m [] last h e = absurd cc
start_at r m (card ∷ cards) last h e = by_test (is_end (operation_in card)) refl h (λ rest. start_at r (moved_behind r.externs m card) cards last rest e)
  where
    by_test :
        (b : Bool) → is_end (operation_in card) ≡ b
        → (if b then card ∷ [] else card ∷ cards_read cards) ≡ (if b then [] else card ∷ cards_before_end cards) ++ last ∷ []
        → (cards_read cards ≡ cards_before_end cards ++ last ∷ []
        → module_start r (moved_behind r.externs m card) cards
        ≡ start_in r.whole (moved_after r.externs (moved_behind r.externs m card) (cards_before_end cards)).known (field_for end last))
        → (if b then start_in r.whole m.known (field_for end card) else module_start r (moved_behind r.externs m card) cards)
        ≡ start_in r.whole (moved_after r.externs m (if b then [] else card ∷ cards_before_end cards)).known (field_for end last)
    by_test true t e ih = let same : card ≡ last = cc in ap (λ (x : List ℕ). start_in r.whole m.known (field_for end x)) same
    by_test false t e ih = let rest : cards_read cards ≡ cards_before_end cards ++ last ∷ [] = cc in ih rest

some_blocks : (n : ℕ) → 1 ≤ blocks_for n
some_blocks n = omega arith

more_blocks : (a b s : ℕ) → a ≤ b → s < 256 * blocks_for a → s < 256 * blocks_for b
more_blocks a b s h k = omega (arith, h, k)

pub module_starts : (cards : List (List ℕ)) (g : ModuleGood cards) → (module_of_cards cards).start < 256 * blocks_for (length (module_of_cards cards).places)
module_starts cards g =
    let r : Relocated = relocated_of cards in
    let m : Moved = moved_after (relocated_of cards).externs nothing_moved (cards_before_end cards) in
    let s = sound_card r.whole.names (length r.whole.literals + 1)
    (is_none (card_kind end r m g.last) || start_is_outside r.whole m.known (field_for end g.last)) (symbols_seen m ([] ++ cards_before_end cards)) end g.last (field_for end g.last)
    (g.end).fault in
    let inside : start_is_outside r.whole m.known (field_for end g.last) ≡ false =
    (or_parts (is_none (card_kind end r m g.last)) (start_is_outside r.whole m.known (field_for end g.last)) s.right).1 in
    let below : start_in r.whole m.known (field_for end g.last) < 256 * r.whole.blocks =
    start_below r.whole m.known (field_for end g.last) (some_blocks (r.whole.end_place + length r.whole.literals)) inside in
    let start : (module_of_cards cards).start ≡ start_in r.whole m.known (field_for end g.last) = start_at r nothing_moved cards g.last g.read g.last_is in
    let count : length (module_of_cards cards).places ≡ r.whole.end_place + length r.whole.literals =
    length-append (cells_from r nothing_moved (cards_before_end cards)) (map (cell 0) r.whole.literals)
    ∙ ap (λ (n : ℕ). n + length (map (cell 0) r.whole.literals)) (cells_size cards g)
    ∙ ap (λ (n : ℕ). r.whole.end_place + n) (length-map r.whole.literals (cell 0)) in
    subst (λ (n : ℕ). (module_of_cards cards).start < 256 * blocks_for n) (sym count)
    (subst (λ (n : ℕ). n < 256 * r.whole.blocks) (sym start) below)

pub made_starts : (cards : List (List ℕ)) (m : Module) → module_made cards ≡ relocatable m → m.start < 256 * blocks_for (length m.places)
unfolding module_made
made_starts cards m made =
    let two = without_faults (module_faults cards) cards m made in
    subst (λ (x : Module). x.start < 256 * blocks_for (length x.places)) two.1 (module_starts cards (module_good cards two.0))

none_below : 0 < 256 * blocks_for 0
none_below = omega arith

first_part : (a b : ℕ) → a ≤ a + b
first_part a b = omega arith

all_start : (all : List (List (List ℕ))) (modules : List Module) → AreMade all modules → start_of_all modules < 256 * blocks_for (places_of_all modules)
all_start [] [] made = none_below
all_start [] (m ∷ modules) made = absurd made
all_start (cards ∷ all) [] made = absurd made
all_start (cards ∷ all) (m ∷ modules) made =
    more_blocks (length m.places) (length m.places + places_of_all modules) m.start (first_part (length m.places) (places_of_all modules)) (made_starts cards m made.0)

-- the deck

few_blocks : (n : ℕ) → n ≤ 32768 → blocks_for n ≤ 128
few_blocks n h = omega (arith, h)

first_start : (start blocks : ℕ) → start < 256 * blocks → blocks ≤ 128 → decrement_of (pair_word start blocks) ≡ start
first_start start blocks h k = omega (arith, h, k)

first_blocks : (start blocks : ℕ) → blocks ≤ 128 → address_of (pair_word start blocks) ≡ blocks
first_blocks start blocks k = omega (arith, k)

covered : (n : ℕ) → n ≤ 256 * blocks_for n
covered n = omega arith

inside_of : (bound size : ℕ) (s : Segment) → bound ≤ size → IsShort bound s → IsInside size s
inside_of bound size s h short = let e = short.inside in record { some = short.some; inside = omega (arith, h, e) }

is_laid : (entries : List (ℕ × ℕ)) (modules : List Module) → places_of_all modules ≤ 32768 → start_of_all modules < 256 * blocks_for (places_of_all modules)
    → IsDeck (deck_said modules) (linked_deck entries modules)
is_laid entries modules small start =
    let ws : List ℕ = linked_from 0 entries modules in
    let size : length ws ≡ places_of_all modules = linked_length 0 entries modules in
    let few : length ws ≤ 32768 = omega (arith, size, small) in
    let blocks : ℕ = blocks_for (places_of_all modules) in
    let most : blocks_for (places_of_all modules) ≤ 128 = few_blocks (places_of_all modules) small in
    let short : All (IsShort (length ws)) (add_words [] 0 ws) =
    words_fit (length ws) [] 0 ws (λ (some : 1 ≤ length ws). omega arith) (All-nil (IsShort (length ws))) in
    let room : length ws ≤ 256 * blocks_for (places_of_all modules) = subst (λ (n : ℕ). n ≤ 256 * blocks_for (places_of_all modules)) (sym size) (covered (places_of_all modules)) in (
      add_words [] 0 ws,
      record {
        first = pair_word (start_of_all modules) (blocks_for (places_of_all modules));
        rest = segment_words (add_words [] 0 ws);
        words_are = refl;
        start_is = first_start (start_of_all modules) (blocks_for (places_of_all modules)) start most;
        blocks_are = first_blocks (start_of_all modules) (blocks_for (places_of_all modules)) most;
        laid = words_laid (length ws) (add_words [] 0 ws) few short;
        some = some_blocks (places_of_all modules);
        most = most;
        start = start;
        inside = All-weaker (IsShort (length ws)) (IsInside (256 * blocks_for (places_of_all modules)))
            (λ (s : Segment) (h : IsShort (length ws) s). inside_of (length ws) (256 * blocks_for (places_of_all modules)) s room h) (add_words [] 0 ws) short;
      },
    )

read_so : (quota : ℕ) (words : List ℕ) (d : Deck) → IsDeck d words → deck_in quota words ≡ (if nat_le d.blocks quota then Ok d else Err TooLarge)
read_so quota words d h = by_test (nat_le d.blocks quota) refl
  where
    by_test : (b : Bool) → nat_le d.blocks quota ≡ b → deck_in quota words ≡ (if b then Ok d else Err TooLarge)
    by_test true fits = (deck_is_laid.deck quota words d).1 (h, leb-true d.blocks quota fits)
    by_test false over = (deck_is_laid.large quota words).1 (d, h, leb-false d.blocks quota over)

pub deck_is_read : (entries : List (ℕ × ℕ)) (all : List (List (List ℕ))) (modules : List Module) → AreMade all modules → places_of_all modules ≤ 32768 → (quota : ℕ)
    → deck_in quota (linked_deck entries modules) ≡ (if nat_le (blocks_for (places_of_all modules)) quota then Ok (deck_said modules) else Err TooLarge)
deck_is_read entries all modules made small quota =
    read_so quota (linked_deck entries modules) (deck_said modules) (is_laid entries modules small (all_start all modules made))
