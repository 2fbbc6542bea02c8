-- Words over a core, and segments one over the other.
use Rattle.std.proofs.Common.{◌≡◌, ℕ, zero, suc, ◌+◌, ◌<◌, ◌≤◌, ◌≢◌, ◌⊎◌, List, [], ◌∷◌, ◌++◌, length, get_or, set, refl, ap, ◌∙◌, arith, inl, inr, ⊎_elim, length-set, get_or-set_same, get_or-set_other}
use Rattle.std.proofs.lemmas.Bool.{cases_lt}
use Rattle.std.proofs.lemmas.List.Elements.{All-head, All-tail}
use Rattle.program_model.specs.Lines.{with_words}
use Rattle.fap_model.specs.Decks.{Segment}
use Rattle.rule_laws.specs.Decks.{Covers, NoneCovers, AreStored}

-- one run of words

with_words_size : (core : List ℕ) (at : ℕ) (ws : List ℕ) → length (with_words core at ws) ≡ length core
with_words_size core at [] = refl
with_words_size core at (w ∷ ws) = with_words_size (set core at w) (suc at) ws ∙ length-set core at w

-- a place before or behind some words
abbrev IsApart : ℕ → ℕ → ℕ → Type 0
IsApart at n place = (place < at) ⊎ (at + n ≤ place)

apart_next : (at n place : ℕ) → IsApart at (suc n) place → IsApart (suc at) n place
apart_next at n place h = ⊎_elim (λ (low : place < at). inl (omega (arith, low)))
    (λ (high : at + suc n ≤ place). inr (omega (arith, high))) h

apart_first : (at n place : ℕ) → IsApart at (suc n) place → place ≢ at
apart_first at n place h =
    ⊎_elim (λ (low : place < at) (e : place ≡ at). omega (arith, low, e))
    (λ (high : at + suc n ≤ place) (e : place ≡ at). omega (arith, high, e)) h

with_words_old : (core : List ℕ) (at : ℕ) (ws : List ℕ) (place : ℕ) → IsApart at (length ws) place
    → get_or (with_words core at ws) place 0 ≡ get_or core place 0
with_words_old core at [] place h = refl
with_words_old core at (w ∷ ws) place h =
    with_words_old (set core at w) (suc at) ws place (apart_next at (length ws) place h)
    ∙ get_or-set_other core at place w 0 (apart_first at (length ws) place h)

with_words_new : (core : List ℕ) (at : ℕ) (ws : List ℕ) (k : ℕ) → k < length ws → at + k < length core
    → get_or (with_words core at ws) (at + k) 0 ≡ get_or ws k 0
with_words_new core at [] k below within = absurd (omega (arith, below))
with_words_new core at (w ∷ ws) zero below within =
    let here : at + 0 ≡ at = omega arith in
    let before : at < suc at = omega arith in
    let inside : at < length core = omega (arith, within) in
    ap (λ (p : ℕ). get_or (with_words (set core at w) (suc at) ws) p 0) here
    ∙ with_words_old (set core at w) (suc at) ws at (inl before)
    ∙ get_or-set_same core at w 0 inside
with_words_new core at (w ∷ ws) (suc k) below within =
    let there : at + suc k ≡ suc at + k = omega arith in
    let size : length (set core at w) ≡ length core = length-set core at w in
    let inside : suc at + k < length (set core at w) = omega (arith, within, size) in
    ap (λ (p : ℕ). get_or (with_words (set core at w) (suc at) ws) p 0) there
    ∙ with_words_new (set core at w) (suc at) ws k (omega (arith, below)) inside

-- words in two parts
pub with_words_append : (core : List ℕ) (at : ℕ) (us vs : List ℕ)
    → with_words core at (us ++ vs) ≡ with_words (with_words core at us) (at + length us) vs
with_words_append core at [] vs = let here : at ≡ at + 0 = omega arith in ap (λ (p : ℕ). with_words core p vs) here
with_words_append core at (u ∷ us) vs =
    let there : suc at + length us ≡ at + suc (length us) = omega arith in
    with_words_append (set core at u) (suc at) us vs
    ∙ ap (λ (p : ℕ). with_words (with_words (set core at u) (suc at) us) p vs) there

-- segments, each over those before it

abbrev pub overlaid : List Segment → List ℕ → List ℕ
overlaid [] core = core
overlaid (s ∷ segments) core = overlaid segments (with_words core s.first s.words)

pub overlaid_append : (a b : List Segment) (core : List ℕ) → overlaid (a ++ b) core ≡ overlaid b (overlaid a core)
overlaid_append [] b core = refl
overlaid_append (s ∷ a) b core = overlaid_append a b (with_words core s.first s.words)

overlaid_size : (segments : List Segment) (core : List ℕ) → length (overlaid segments core) ≡ length core
overlaid_size [] core = refl
overlaid_size (s ∷ segments) core = overlaid_size segments (with_words core s.first s.words)
    ∙ with_words_size core s.first s.words

apart : (s : Segment) (place : ℕ) → ¬ (Covers s place) → IsApart s.first (length s.words) place
apart s place h =
    ⊎_elim (λ (low : place < s.first). inl low)
    (λ (past : s.first ≤ place).
    ⊎_elim (λ (inside : place < s.first + length s.words). absurd (h (past, inside)))
    (λ (high : s.first + length s.words ≤ place). inr high)
    (cases_lt place (s.first + length s.words))) (cases_lt place s.first)

overlaid_old : (segments : List Segment) (core : List ℕ) (place : ℕ) → NoneCovers segments place
    → get_or (overlaid segments core) place 0 ≡ get_or core place 0
overlaid_old [] core place h = refl
overlaid_old (s ∷ segments) core place h =
    let P : Segment → Type 0 = λ (t : Segment). ¬ (Covers t place) in
    overlaid_old segments (with_words core s.first s.words) place (All-tail P s segments h)
    ∙ with_words_old core s.first s.words place (apart s place (All-head P s segments h))

overlaid_last : (before after : List Segment) (s : Segment) (core : List ℕ) (k : ℕ) → k < length s.words
    → s.first + k < length core → NoneCovers after (s.first + k)
    → get_or (overlaid (before ++ s ∷ after) core) (s.first + k) 0 ≡ get_or s.words k 0
overlaid_last [] after s core k below within none =
    overlaid_old after (with_words core s.first s.words) (s.first + k) none
    ∙ with_words_new core s.first s.words k below within
overlaid_last (b ∷ before) after s core k below within none =
    let size : length (with_words core b.first b.words) ≡ length core = with_words_size core b.first b.words in
    overlaid_last before after s (with_words core b.first b.words) k below (omega (arith, within, size)) none

pub overlaid_stores : (segments : List Segment) (core : List ℕ) → AreStored segments core (overlaid segments core)
overlaid_stores segments core =
    record {
      size = overlaid_size segments core;
      last =
          λ before after s k e below within none.
          ap (λ (l : List Segment). get_or (overlaid l core) (s.first + k) 0) e
          ∙ overlaid_last before after s core k below within none;
      old = λ place none. overlaid_old segments core place none;
    }
