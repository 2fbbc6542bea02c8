-- What a file says as a deck, by how it is laid.
use Rattle.std.proofs.Common.{◌≡◌, ℕ, ◌*◌, ◌<◌, ◌≤◌, Bool, true, false, ◌&&◌, nat_le, nat_lt, if◌then◌else◌, List, [], ◌∷◌, ◌++◌, All, get_or, drop, Ok, Err, refl, sym, ap, ap₂, subst, ◌∙◌, arith, leb-true, leb-false, ltb-true, le-leb, lt-ltb}
use Rattle.std.specs.declared.result.Result.{Result}
use Rattle.std.proofs.lemmas.Bool.{and_parts, and_from, false≢true}
use Rattle.std.proofs.lemmas.List.{nil_from_length}
use Rattle.word36.specs.Bits.{address_of, decrement_of}
use Rattle.program_model.specs.declared.Deck.{Deck}
use Rattle.program_model.specs.declared.LoadFault.{LoadFault}
use Rattle.program_model.specs.declared.LoadFault.TheVariants.{BadDeck, TooLarge}
use Rattle.program_model.specs.Decks.{are_segments, is_deck, deck_in}
use Rattle.fap_model.specs.Decks.{Segment}
use Rattle.rule_laws.specs.Decks.{AreLaid, IsInside, IsLaid, IsDeck, DeckIsLaid}
use Rattle.rule_laws.proofs.DeckWalks.{Found, found, all_passed}

abbrev made : ℕ → ℕ → Deck
made start blocks = record { start = start; blocks = blocks }

-- the deck that a first word says
abbrev deck_at : ℕ → Deck
deck_at w = made (decrement_of w) (address_of w)

-- words that pass the test are laid
laid_so : (w : ℕ) (ws : List ℕ) → is_deck w ws ≡ true → IsDeck (deck_at w) (w ∷ ws)
laid_so w ws h =
    let all = and_parts (nat_le 1 (address_of w) && nat_le (address_of w) 128 && nat_lt (decrement_of w)
    (256 * address_of w)) (are_segments (256 * address_of w) 0 ws) h in
    let head = and_parts (nat_le 1 (address_of w) && nat_le (address_of w) 128)
    (nat_lt (decrement_of w) (256 * address_of w)) all.0 in
    let blocks = and_parts (nat_le 1 (address_of w)) (nat_le (address_of w) 128) head.0 in
    let f : Found (256 * address_of w) 0 ws = found (256 * address_of w) 0 ws all.1 in
    let behind : ws ≡ f.rest = f.words_are ∙ ap (λ (l : List ℕ). l ++ f.rest) (nil_from_length f.front f.front_is) in
    let laid : IsLaid (deck_at w) f.segments (w ∷ ws) =
    record {
      first = w;
      rest = f.rest;
      words_are = ap (λ (l : List ℕ). w ∷ l) behind;
      start_is = refl;
      blocks_are = refl;
      laid = f.laid;
      some = leb-true 1 (address_of w) blocks.0;
      most = leb-true (address_of w) 128 blocks.1;
      start = ltb-true (decrement_of w) (256 * address_of w) head.1;
      inside = f.inside;
    } in
    (f.segments, laid)

-- and words that are laid pass it, as the deck that their first word says
tested : (d : Deck) (first : ℕ) (rest : List ℕ) (segments : List Segment) → AreLaid segments rest
    → All (IsInside (256 * d.blocks)) segments
    → decrement_of first ≡ d.start → address_of first ≡ d.blocks → 1 ≤ d.blocks → d.blocks ≤ 128
    → d.start < 256 * d.blocks → is_deck first rest ≡ true
tested d first rest segments laid inside start blocks some most within =
    let low : 1 ≤ address_of first = omega (arith, blocks, some) in
    let high : address_of first ≤ 128 = omega (arith, blocks, most) in
    let below : decrement_of first < 256 * address_of first = omega (arith, start, blocks, within) in
    let walk : are_segments (256 * address_of first) 0 rest ≡ true =
    ap (λ (n : ℕ). are_segments (256 * n) 0 rest) blocks ∙ all_passed (256 * d.blocks) segments rest laid inside in
    and_from (nat_le 1 (address_of first) && nat_le (address_of first) 128 && nat_lt (decrement_of first)
    (256 * address_of first)) (are_segments (256 * address_of first) 0 rest)
    (and_from (nat_le 1 (address_of first) && nat_le (address_of first) 128)
    (nat_lt (decrement_of first) (256 * address_of first))
    (and_from (nat_le 1 (address_of first)) (nat_le (address_of first) 128) (le-leb 1 (address_of first) low)
    (le-leb (address_of first) 128 high))
    (lt-ltb (decrement_of first) (256 * address_of first) below))
    walk

-- the parts of a list that isn't empty
front_is : (w v : ℕ) (ws vs : List ℕ) → w ∷ ws ≡ v ∷ vs → w ≡ v
front_is w v ws vs e = ap (λ (l : List ℕ). get_or l 0 0) e

behind_is : (w v : ℕ) (ws vs : List ℕ) → w ∷ ws ≡ v ∷ vs → ws ≡ vs
behind_is w v ws vs e = ap (λ (l : List ℕ). drop 1 l) e

laid_passes : (d : Deck) (w : ℕ) (ws : List ℕ) → IsDeck d (w ∷ ws) → is_deck w ws ≡ true
laid_passes d w ws h =
    let l = h.1 in
    ap₂ (λ (v : ℕ) (vs : List ℕ). is_deck v vs) (front_is w l.first ws l.rest l.words_are)
    (behind_is w l.first ws l.rest l.words_are)
    ∙ tested d l.first l.rest h.0 l.laid l.inside l.start_is l.blocks_are l.some l.most l.start

empty_is_none : (d : Deck) → ¬ (IsDeck d [])
empty_is_none d h = let e = (h.1).words_are in cc

-- a file is one deck at most
same_deck : (d e : Deck) → d.start ≡ e.start → d.blocks ≡ e.blocks → d ≡ e
same_deck d e start blocks = ap₂ made start blocks

one_deck : (d e : Deck) (words : List ℕ) → IsDeck d words → IsDeck e words → d ≡ e
one_deck d e words h k =
    let a = h.1 in
    let b = k.1 in
    let first : a.first ≡ b.first = front_is a.first b.first a.rest b.rest (sym a.words_are ∙ b.words_are) in
    same_deck d e (sym a.start_is ∙ ap decrement_of first ∙ b.start_is)
    (sym a.blocks_are ∙ ap address_of first ∙ b.blocks_are)

-- the three things that a file can be
data Outcome (quota : ℕ) (words : List ℕ) : Type 0 where
  loads : (d : Deck) → IsDeck d words → d.blocks ≤ quota → deck_in quota words ≡ Ok d → Outcome quota words
  too_large : (d : Deck) → IsDeck d words → quota < d.blocks → deck_in quota words ≡ Err TooLarge → Outcome quota words
  is_bad : ((d : Deck) → ¬ (IsDeck d words)) → deck_in quota words ≡ Err BadDeck → Outcome quota words

abbrev said : Bool → Bool → Deck → Result Deck LoadFault
said deck fits d = if deck then (if fits then Ok d else Err TooLarge) else Err BadDeck

outcome : (quota : ℕ) (words : List ℕ) → Outcome quota words
outcome quota [] = is_bad empty_is_none refl
outcome quota (w ∷ ws) = by_test (is_deck w ws) refl (nat_le (address_of w) quota) refl
  where
    by_test : (b : Bool) → is_deck w ws ≡ b → (c : Bool) → nat_le (address_of w) quota ≡ c → Outcome quota (w ∷ ws)
    by_test true laid true fits = loads (deck_at w) (laid_so w ws laid) (leb-true (address_of w) quota fits)
        (ap₂ (λ (b c : Bool). said b c (deck_at w)) laid fits)
    by_test true laid false fits =
        too_large (deck_at w) (laid_so w ws laid) (leb-false (address_of w) quota fits)
        (ap₂ (λ (b c : Bool). said b c (deck_at w)) laid fits)
    by_test false laid c fits = is_bad
        (λ (d : Deck) (h : IsDeck d (w ∷ ws)). false≢true (sym laid ∙ laid_passes d w ws h))
        (ap₂ (λ (b c : Bool). said b c (deck_at w)) laid fits)

-- and so each answer says which

deck_when : (quota : ℕ) (words : List ℕ) (d : Deck) → Outcome quota words → deck_in quota words ≡ Ok d
    → IsDeck d words × (d.blocks ≤ quota)
deck_when quota words d (loads e is fits got) h =
    let same : e ≡ d = cc in
    (subst (λ (x : Deck). IsDeck x words) same is, subst (λ (x : Deck). x.blocks ≤ quota) same fits)
deck_when quota words d (too_large e is over got) h = absurd cc
deck_when quota words d (is_bad none got) h = absurd cc

deck_if : (quota : ℕ) (words : List ℕ) (d : Deck) → Outcome quota words → IsDeck d words → d.blocks ≤ quota
    → deck_in quota words ≡ Ok d
deck_if quota words d (loads e is fits got) h small = got ∙ ap (λ (x : Deck). Ok x) (one_deck e d words is h)
deck_if quota words d (too_large e is over got) h small =
    let same : e.blocks ≡ d.blocks = ap (λ (x : Deck). x.blocks) (one_deck e d words is h) in
    absurd (omega (arith, same, over, small))
deck_if quota words d (is_bad none got) h small = absurd (none d h)

large_when : (quota : ℕ) (words : List ℕ) → Outcome quota words → deck_in quota words ≡ Err TooLarge
    → (d : Deck) × IsDeck d words × (quota < d.blocks)
large_when quota words (loads e is fits got) h = absurd cc
large_when quota words (too_large e is over got) h = (e, is, over)
large_when quota words (is_bad none got) h = absurd cc

large_if : (quota : ℕ) (words : List ℕ) (d : Deck) → Outcome quota words → IsDeck d words → quota < d.blocks
    → deck_in quota words ≡ Err TooLarge
large_if quota words d (loads e is fits got) h over =
    let same : e.blocks ≡ d.blocks = ap (λ (x : Deck). x.blocks) (one_deck e d words is h) in
    absurd (omega (arith, same, over, fits))
large_if quota words d (too_large e is over got) h over_too = got
large_if quota words d (is_bad none got) h over = absurd (none d h)

bad_when : (quota : ℕ) (words : List ℕ) (d : Deck) → Outcome quota words → deck_in quota words ≡ Err BadDeck
    → ¬ (IsDeck d words)
bad_when quota words d (loads e is fits got) h = absurd cc
bad_when quota words d (too_large e is over got) h = absurd cc
bad_when quota words d (is_bad none got) h = none d

bad_if : (quota : ℕ) (words : List ℕ) → Outcome quota words → ((d : Deck) → ¬ (IsDeck d words))
    → deck_in quota words ≡ Err BadDeck
bad_if quota words (loads e is fits got) none = absurd (none e is)
bad_if quota words (too_large e is over got) none = absurd (none e is)
bad_if quota words (is_bad none_too got) none = got

pub deck_is_laid : DeckIsLaid
deck_is_laid =
    record {
      deck =
          λ quota words d. (
            λ h. deck_when quota words d (outcome quota words) h,
            λ h. deck_if quota words d (outcome quota words) h.0 h.1,
          );
      large =
          λ quota words. (
            λ h. large_when quota words (outcome quota words) h,
            λ h. large_if quota words h.0 (outcome quota words) h.1 h.2,
          );
      bad =
          λ quota words. (
            λ h d. bad_when quota words d (outcome quota words) h,
            λ h. bad_if quota words (outcome quota words) h,
          );
    }
