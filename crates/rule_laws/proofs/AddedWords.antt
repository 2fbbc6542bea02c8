-- Words that are added to segments: what the segments then leave in a core, and that each stays short and inside.
use Rattle.std.proofs.Common.{◌≡◌, ℕ, suc, ◌+◌, ◌*◌, ◌^◌, ◌<◌, ◌≤◌, Bool, true, false, ◌&&◌, nat_eq, nat_lt, if◌then◌else◌, List, [], ◌∷◌, ◌++◌, length, set, All, refl, ap, ◌∙◌, arith, eqb-true, ltb-true, length-append}
use Rattle.std.proofs.lemmas.Bool.{and_parts}
use Rattle.std.proofs.lemmas.List.Elements.{All-nil, All-cons, All-head, All-tail}
use Rattle.word36.specs.Bits.{address_of, decrement_of}
use Rattle.program_model.specs.Lines.{with_words}
use Rattle.fap_model.specs.Decks.{Segment, max_run, add_word, add_words, segment_words}
use Rattle.rule_laws.specs.Decks.{AreLaid}
use Rattle.rule_laws.proofs.Overlays.{overlaid, with_words_append}

abbrev one_word : ℕ → ℕ → Segment
one_word place w = record { first = place; words = w ∷ [] }

abbrev grown : Segment → ℕ → Segment
grown s w = record { first = s.first; words = s.words ++ w ∷ [] }

-- whether a word goes behind a segment
abbrev goes_on : Segment → ℕ → Bool
goes_on s place = nat_eq (s.first + length s.words) place && nat_lt (length s.words) max_run

-- in a core

word_over : (segments : List Segment) (place w : ℕ) (core : List ℕ)
    → overlaid (add_word segments place w) core ≡ set (overlaid segments core) place w
word_over [] place w core = refl
word_over (s ∷ []) place w core = by_test (goes_on s place) refl
  where
    by_test : (b : Bool) → goes_on s place ≡ b
        → overlaid (if b then grown s w ∷ [] else s ∷ one_word place w ∷ []) core
        ≡ set (with_words core s.first s.words) place w
    by_test true on =
        let parts = and_parts (nat_eq (s.first + length s.words) place) (nat_lt (length s.words) max_run) on in
        with_words_append core s.first s.words (w ∷ [])
        ∙ ap (λ (p : ℕ). set (with_words core s.first s.words) p w) (eqb-true (s.first + length s.words) place parts.0)
    by_test false on = refl
word_over (s ∷ t ∷ segments) place w core = word_over (t ∷ segments) place w (with_words core s.first s.words)

pub words_over : (segments : List Segment) (place : ℕ) (ws core : List ℕ)
    → overlaid (add_words segments place ws) core ≡ with_words (overlaid segments core) place ws
words_over segments place [] core = refl
words_over segments place (w ∷ ws) core =
    words_over (add_word segments place w) (suc place) ws core
    ∙ ap (λ (l : List ℕ). with_words l (suc place) ws) (word_over segments place w core)

-- short ones within a bound

pub record IsShort (bound : ℕ) (s : Segment) : Type 0 where
  pub some : 1 ≤ length s.words
  pub run : length s.words ≤ 4096
  pub inside : s.first + length s.words ≤ bound

one_fits : (bound place w : ℕ) → suc place ≤ bound → IsShort bound (one_word place w)
one_fits bound place w room = record { some = omega arith; run = omega arith; inside = omega (arith, room) }

grown_fits : (bound place w : ℕ) (s : Segment) → suc place ≤ bound → goes_on s place ≡ true → IsShort bound (grown s w)
grown_fits bound place w s room on =
    let parts = and_parts (nat_eq (s.first + length s.words) place) (nat_lt (length s.words) max_run) on in
    let here : s.first + length s.words ≡ place = eqb-true (s.first + length s.words) place parts.0 in
    let few : length s.words < 4096 = ltb-true (length s.words) max_run parts.1 in
    let size : length (s.words ++ w ∷ []) ≡ length s.words + 1 = length-append s.words (w ∷ []) in
    record { some = omega (arith, size); run = omega (arith, size, few); inside = omega (arith, size, here, room) }

word_fits : (bound : ℕ) (segments : List Segment) (place w : ℕ) → suc place ≤ bound → All (IsShort bound) segments
    → All (IsShort bound) (add_word segments place w)
word_fits bound [] place w room all = All-cons (IsShort bound) (one_word place w) [] (one_fits bound place w room) all
word_fits bound (s ∷ []) place w room all = by_test (goes_on s place) refl
  where
    by_test : (b : Bool) → goes_on s place ≡ b
        → All (IsShort bound) (if b then grown s w ∷ [] else s ∷ one_word place w ∷ [])
    by_test true on = All-cons (IsShort bound) (grown s w) [] (grown_fits bound place w s room on)
        (All-nil (IsShort bound))
    by_test false on =
        All-cons (IsShort bound) s (one_word place w ∷ []) (All-head (IsShort bound) s [] all)
        (All-cons (IsShort bound) (one_word place w) [] (one_fits bound place w room) (All-nil (IsShort bound)))
word_fits bound (s ∷ t ∷ segments) place w room all =
    All-cons (IsShort bound) s (add_word (t ∷ segments) place w) (All-head (IsShort bound) s (t ∷ segments) all)
    (word_fits bound (t ∷ segments) place w room (All-tail (IsShort bound) s (t ∷ segments) all))

pub words_fit : (bound : ℕ) (segments : List Segment) (place : ℕ) (ws : List ℕ)
    → (1 ≤ length ws → place + length ws ≤ bound) → All (IsShort bound) segments
    → All (IsShort bound) (add_words segments place ws)
words_fit bound segments place [] room all = all
words_fit bound segments place (w ∷ ws) room all =
    let end : place + suc (length ws) ≤ bound = room (omega arith) in
    let first : suc place ≤ bound = omega (arith, end) in
    let rest : suc place + length ws ≤ bound = omega (arith, end) in
    words_fit bound (add_word segments place w) (suc place) ws (λ (h : 1 ≤ length ws). rest)
    (word_fits bound segments place w first all)

-- in a file

head_address : (count place : ℕ) → place < 2 ^ 15 → address_of (count * 2 ^ 18 + place) ≡ place
head_address count place h = omega (arith, h)

head_decrement : (count place : ℕ) → count < 2 ^ 15 → place < 2 ^ 15 → decrement_of (count * 2 ^ 18 + place) ≡ count
head_decrement count place h k = omega (arith, h, k)

pub words_laid : (bound : ℕ) (segments : List Segment) → bound ≤ 32768 → All (IsShort bound) segments
    → AreLaid segments (segment_words segments)
words_laid bound [] small all = refl
words_laid bound (s ∷ segments) small all =
    let short : IsShort bound s = All-head (IsShort bound) s segments all in
    let place : s.first < 2 ^ 15 = omega (arith, short.some, short.inside, small) in
    let count : length s.words < 2 ^ 15 = omega (arith, short.run) in (
      length s.words * 2 ^ 18 + s.first,
      segment_words segments,
      refl,
      head_address (length s.words) s.first place,
      head_decrement (length s.words) s.first count place,
      words_laid bound segments small (All-tail (IsShort bound) s segments all),
    )
