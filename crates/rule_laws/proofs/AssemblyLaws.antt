-- The deck of cards without a fault, read and stored.
use Rattle.std.proofs.Common.{◌≡◌, ℕ, ◌+◌, ◌*◌, ◌^◌, ◌<◌, ◌≤◌, Bool, true, false, nat_le, if◌then◌else◌, List, [], ◌∷◌, ◌++◌, length, All, Ok, Err, refl, sym, ap, subst, ◌∙◌, arith, leb-true, leb-false, le_trans}
use Rattle.std.proofs.lemmas.Bool.{false≢true}
use Rattle.std.proofs.lemmas.List.Elements.{All-nil, All-push, All-weaker}
use Rattle.word36.specs.Bits.{address_of, decrement_of}
use Rattle.program_model.specs.declared.Deck.{Deck}
use Rattle.program_model.specs.declared.LoadFault.TheVariants.{TooLarge}
use Rattle.program_model.specs.Lines.{with_words}
use Rattle.program_model.specs.Decks.{deck_in, filled}
use Rattle.fap_model.specs.declared.types.Operation.TheVariants.{End as end}
use Rattle.fap_model.specs.Statements.{field_for}
use Rattle.fap_model.specs.Places.{Known, nothing_known, max_place}
use Rattle.fap_model.specs.Decks.{Whole, Segment, operation_in, is_end, cards_read, cards_before_end, has_end, whole_of, reach_of, reach_from, blocks_for, faults_from, faults_of, words_by, add_words, segments_from, segments_of, segment_words, start_in, start_from, start_is_outside, deck_words, Assembled, deck, faulty, assembled_by, assembled}
use Rattle.rule_laws.specs.Cards.{known}
use Rattle.rule_laws.specs.Decks.{IsInside, IsLaid, IsDeck, AreStored}
use Rattle.rule_laws.specs.Assembly.{words_of_cards, literals_of, IsWithin, IsLoadedAs, DeckIsStored}
use Rattle.rule_laws.proofs.DeckLaws.{deck_is_laid}
use Rattle.rule_laws.proofs.Overlays.{overlaid, overlaid_append, overlaid_stores}
use Rattle.rule_laws.proofs.StoreLaws.{filled_is}
use Rattle.rule_laws.proofs.PlaceLaws.{known_push}
use Rattle.rule_laws.proofs.AddedWords.{IsShort, words_over, words_fit, words_laid}
use Rattle.rule_laws.proofs.CardRooms.{IsGood, AllRoomy, good_end, both_none, no_faults}
use Rattle.rule_laws.proofs.Reaches.{AreBlocks, reach_grows, reach_covers, reach_small, reach_within, segments_fit, cards_within, within_more, blocks_are}
use Rattle.rule_laws.proofs.EndCards.{Ended, ended, start_below}

-- what the segments leave in a core

-- the words of cards, each over those before
cards_over : (whole : Whole) (segments : List Segment) (before cards : List (List ℕ)) (core : List ℕ)
    → overlaid (segments_from whole segments (known before) cards) core
    ≡ overlaid (words_of_cards whole before cards) (overlaid segments core)
cards_over whole segments before [] core = refl
cards_over whole segments before (card ∷ cards) core =
    let place : ℕ = (known before).place in
    let ws : List ℕ = words_by whole (known before) (operation_in card) card in
    ap (λ (k : Known). overlaid (segments_from whole (add_words segments place ws) k cards) core)
    (sym (known_push before card))
    ∙ cards_over whole (add_words segments place ws) (before ++ card ∷ []) cards core
    ∙ ap (λ (l : List ℕ). overlaid (words_of_cards whole (before ++ card ∷ []) cards) l)
    (words_over segments place ws core)

-- and the literals over all
all_over : (whole : Whole) (cards : List (List ℕ)) (core : List ℕ)
    → overlaid (add_words (segments_from whole [] nothing_known cards) whole.end_place whole.literals) core
    ≡ overlaid (words_of_cards whole [] cards ++ literals_of whole ∷ []) core
all_over whole cards core =
    words_over (segments_from whole [] nothing_known cards) whole.end_place whole.literals core
    ∙ ap (λ (l : List ℕ). with_words l whole.end_place whole.literals) (cards_over whole [] [] cards core)
    ∙ sym (overlaid_append (words_of_cards whole [] cards) (literals_of whole ∷ []) core)

-- the segments of cards without a fault are a deck's

-- what is true of the whole list
record IsWhole (whole : Whole) (before : List (List ℕ)) : Type 0 where
  place_is : whole.end_place ≡ (known before).place
  blocks_are_so :
      whole.blocks ≡ blocks_for (reach_of (reach_from 0 nothing_known before) whole.end_place (length whole.literals))

-- cards and literals that have room
record HasRoom (whole : Whole) (before : List (List ℕ)) : Type 0 where
  cards_room : AllRoomy whole nothing_known before
  end_room : whole.end_place + length whole.literals ≤ max_place

abbrev reach_in : Whole → List (List ℕ) → ℕ
reach_in whole before = reach_of (reach_from 0 nothing_known before) whole.end_place (length whole.literals)

small_reach : (whole : Whole) (before : List (List ℕ)) → HasRoom whole before → reach_in whole before ≤ max_place
small_reach whole before h =
    let none : 0 ≤ max_place = omega arith in
    reach_small max_place (reach_from 0 nothing_known before) whole.end_place (length whole.literals)
    (reach_within whole 0 nothing_known before h.cards_room none)
    (λ (some : 1 ≤ length whole.literals). h.end_room)

all_short : (whole : Whole) (before : List (List ℕ)) → HasRoom whole before
    → All (IsShort (reach_in whole before))
    (add_words (segments_from whole [] nothing_known before) whole.end_place whole.literals)
all_short whole before h =
    let bound : ℕ = reach_in whole before in
    words_fit bound (segments_from whole [] nothing_known before) whole.end_place whole.literals
    (λ (some : 1 ≤ length whole.literals). reach_covers (reach_from 0 nothing_known before) whole.end_place
    (length whole.literals) some)
    (segments_fit bound 0 whole [] nothing_known before h.cards_room
    (reach_grows (reach_from 0 nothing_known before) whole.end_place (length whole.literals)) (All-nil (IsShort bound)))

inside_of : (bound size : ℕ) (s : Segment) → bound ≤ size → IsShort bound s → IsInside size s
inside_of bound size s h short = record { some = short.some; inside = le_trans short.inside h }

first_start : (start blocks : ℕ) → start < 256 * blocks → blocks ≤ 128 → decrement_of (start * 2 ^ 18 + blocks) ≡ start
first_start start blocks h k = omega (arith, h, k)

first_blocks : (start blocks : ℕ) → blocks ≤ 128 → address_of (start * 2 ^ 18 + blocks) ≡ blocks
first_blocks start blocks k = omega (arith, k)

deck_laid : (bound : ℕ) (d : Deck) (segments : List Segment) → AreBlocks bound d.blocks → d.start < 256 * d.blocks
    → bound ≤ max_place → All (IsShort bound) segments
    → IsLaid d segments ((d.start * 2 ^ 18 + d.blocks) ∷ segment_words segments)
deck_laid bound d segments blocks below small short =
    record {
      first = d.start * 2 ^ 18 + d.blocks;
      rest = segment_words segments;
      words_are = refl;
      start_is = first_start d.start d.blocks below blocks.most;
      blocks_are = first_blocks d.start d.blocks blocks.most;
      laid = words_laid bound segments small short;
      some = blocks.some;
      most = blocks.most;
      start = below;
      inside = All-weaker (IsShort bound) (IsInside (256 * d.blocks))
          (λ (s : Segment) (h : IsShort bound s). inside_of bound (256 * d.blocks) s blocks.cover h) segments short;
    }

-- what a deck says

read_so : (quota : ℕ) (words : List ℕ) (d : Deck) → IsDeck d words
    → deck_in quota words ≡ (if nat_le d.blocks quota then Ok d else Err TooLarge)
read_so quota words d h = by_test (nat_le d.blocks quota) refl
  where
    by_test : (b : Bool) → nat_le d.blocks quota ≡ b → deck_in quota words ≡ (if b then Ok d else Err TooLarge)
    by_test true fits = (deck_is_laid.deck quota words d).1 (h, leb-true d.blocks quota fits)
    by_test false over = (deck_is_laid.large quota words).1 (d, h, leb-false d.blocks quota over)

-- the faults of cards

no_more : (b : Bool) (x : ℕ × ℕ) → (if b then [] else x ∷ []) ≡ [] → b ≡ true
no_more true x h = refl
no_more false x h = cc

abbrev is_deck_made : Assembled → Bool
is_deck_made (deck words) = true
is_deck_made (faulty faults) = false

abbrev words_made : Assembled → List ℕ
words_made (deck words) = words
words_made (faulty faults) = []

without_faults : (faults : List (ℕ × ℕ)) (cards : List (List ℕ)) (words : List ℕ)
    → assembled_by faults cards ≡ deck words → (faults ≡ []) × (deck_words cards ≡ words)
without_faults [] cards words h = (refl, ap words_made h)
without_faults (f ∷ fs) cards words h = absurd (false≢true (ap is_deck_made h))

end_fits : (place known_place n : ℕ) → place ≡ known_place → known_place + 0 + n ≤ max_place → place + n ≤ max_place
end_fits place known_place n e h = omega (arith, e, h)

-- the segments of cards before an END without a fault
abbrev segments_in : Whole → List (List ℕ) → List Segment
segments_in whole before = add_words (segments_from whole [] nothing_known before) whole.end_place whole.literals

abbrev deck_in_whole : Whole → ℕ → Deck
deck_in_whole whole start = record { start = start; blocks = whole.blocks }

-- cards and END without a fault
record IsFaultless (whole : Whole) (before : List (List ℕ)) (last : List ℕ) : Type 0 where
  whole_is : IsWhole whole before
  last_is : is_end (operation_in last) ≡ true
  none : faults_from whole 1 nothing_known (before ++ last ∷ []) ≡ []

end_is : (whole : Whole) (before : List (List ℕ)) (last : List ℕ) → IsFaultless whole before last
    → IsGood (length whole.literals) (start_is_outside whole (known before) (field_for end last)) (known before) end
    (field_for end last)
end_is whole before last h =
    good_end whole (known before) last h.last_is (no_faults whole 1 nothing_known before last h.none).1

has_room : (whole : Whole) (before : List (List ℕ)) (last : List ℕ) → IsFaultless whole before last
    → HasRoom whole before
has_room whole before last h =
    record {
      cards_room = (no_faults whole 1 nothing_known before last h.none).0;
      end_room =
          end_fits whole.end_place (known before).place (length whole.literals) (h.whole_is).place_is
          (end_is whole before last h).room;
    }

has_blocks : (whole : Whole) (before : List (List ℕ)) → IsWhole whole before → HasRoom whole before
    → AreBlocks (reach_in whole before) whole.blocks
has_blocks whole before w room =
    subst (AreBlocks (reach_in whole before)) (sym w.blocks_are_so)
    (blocks_are (reach_in whole before) (small_reach whole before room))

is_laid : (whole : Whole) (before : List (List ℕ)) (last : List ℕ) (start : ℕ) → IsFaultless whole before last
    → start ≡ start_in whole (known before) (field_for end last)
    → IsLaid (deck_in_whole whole start) (segments_in whole before)
    ((start * 2 ^ 18 + whole.blocks) ∷ segment_words (segments_in whole before))
is_laid whole before last start h start_is =
    let room : HasRoom whole before = has_room whole before last h in
    let blocks : AreBlocks (reach_in whole before) whole.blocks = has_blocks whole before h.whole_is room in
    let below : start < 256 * whole.blocks =
    subst (λ (s : ℕ). s < 256 * whole.blocks) (sym start_is)
    (start_below whole (known before) (field_for end last) blocks.some (end_is whole before last h).right) in
    deck_laid (reach_in whole before) (deck_in_whole whole start) (segments_in whole before) blocks below
    (small_reach whole before room) (all_short whole before room)

-- all words lie within the blocks
is_inside : (whole : Whole) (before : List (List ℕ)) (last : List ℕ) → IsFaultless whole before last
    → All (IsWithin (256 * whole.blocks)) (words_of_cards whole [] before ++ literals_of whole ∷ [])
is_inside whole before last h =
    let room : HasRoom whole before = has_room whole before last h in
    let blocks : AreBlocks (reach_in whole before) whole.blocks = has_blocks whole before h.whole_is room in
    let bound : ℕ = reach_in whole before in
    let cards : All (IsWithin bound) (words_of_cards whole [] before) =
    cards_within bound 0 whole [] before room.cards_room
    (reach_grows (reach_from 0 nothing_known before) whole.end_place (length whole.literals)) in
    let literals : IsWithin bound (literals_of whole) =
    λ (some : 1 ≤ length whole.literals).
    reach_covers (reach_from 0 nothing_known before) whole.end_place (length whole.literals) some in
    All-weaker (IsWithin bound) (IsWithin (256 * whole.blocks))
    (λ (s : Segment) (within : IsWithin bound s). within_more bound (256 * whole.blocks) s blocks.cover within)
    (words_of_cards whole [] before ++ literals_of whole ∷ [])
    (All-push (IsWithin bound) (words_of_cards whole [] before) (literals_of whole) cards literals)

-- and what they leave in a core
is_stored : (whole : Whole) (before : List (List ℕ)) (d : Deck) (words core : List ℕ)
    → IsLaid d (segments_in whole before) words
    → AreStored (words_of_cards whole [] before ++ literals_of whole ∷ []) core (filled words core)
is_stored whole before d words core laid =
    let segments : List Segment = words_of_cards whole [] before ++ literals_of whole ∷ [] in
    let over : filled words core ≡ overlaid segments core =
    ap (λ (l : List ℕ). filled l core) laid.words_are
    ∙ filled_is laid.first laid.rest (segments_in whole before) core laid.laid ∙ all_over whole before core in
    subst (AreStored segments core) (sym over) (overlaid_stores segments core)

whole_so : (cards : List (List ℕ)) → IsWhole (whole_of cards) (cards_before_end cards)
whole_so cards = record { place_is = refl; blocks_are_so = refl }

loaded_as : (cards : List (List ℕ)) → faults_of cards ≡ [] → IsLoadedAs cards (deck_words cards)
loaded_as cards none =
    let whole : Whole = whole_of cards in
    let before : List (List ℕ) = cards_before_end cards in
    let start : ℕ = start_from whole nothing_known cards in
    let two = both_none (faults_from whole 1 nothing_known (cards_read cards))
    (if has_end cards then [] else (length cards + 1, 6) ∷ []) none in
    let e : Ended cards = ended cards (no_more (has_end cards) (length cards + 1, 6) two.1) in
    let faults : faults_from whole 1 nothing_known (before ++ e.last ∷ []) ≡ [] =
    ap (λ (l : List (List ℕ)). faults_from whole 1 nothing_known l) (sym e.read) ∙ two.0 in
    let good : IsFaultless whole before e.last =
    record { whole_is = whole_so cards; last_is = e.last_is; none = faults } in
    let laid : IsLaid (deck_in_whole whole start) (segments_of cards) (deck_words cards) =
    is_laid whole before e.last start good (e.start whole nothing_known) in
    record {
      said = λ quota. read_so quota (deck_words cards) (deck_in_whole whole start) (segments_of cards, laid);
      stored = λ core. is_stored whole before (deck_in_whole whole start) (deck_words cards) core laid;
      inside = is_inside whole before e.last good;
    }

pub deck_is_stored : DeckIsStored
unfolding assembled
deck_is_stored cards words h = let so = without_faults (faults_of cards) cards words h in
    subst (IsLoadedAs cards) so.1 (loaded_as cards so.0)
