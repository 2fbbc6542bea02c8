-- Segments one behind the other, with zeros between them.
use Rattle.std.proofs.Common.{◌≡◌, ℕ, zero, suc, ◌+◌, ◌-◌, ◌<◌, ◌≤◌, List, [], ◌∷◌, ◌++◌, length, get_or, replicate, refl, sym, ap, ◌∙◌, subst, arith, append_assoc, length-append, ⊎_elim}
use Rattle.std.proofs.lemmas.Bool.{cases_lt}
use Rattle.std.proofs.lemmas.List.{get_or_append_left, get_or-append-add, get_or-replicate, replicate-append-replicate, length-replicate}
use Rattle.std.proofs.lemmas.List.Elements.{All-head, All-tail}
use Rattle.fap_model.specs.Decks.{Segment}
use Rattle.rule_laws.specs.Decks.{Covers, NoneCovers}

-- so many plus zeros
abbrev pub zeros : ℕ → List ℕ
zeros n = replicate n 0

-- words from a place on that are those of segments, and zeros before, between and behind them
abbrev pub Spread : ℕ → List Segment → List ℕ → Type 0
Spread at [] words = (n : ℕ) × (words ≡ zeros n)
Spread at (s ∷ segments) words =
    (n : ℕ) × (rest : List ℕ) × (words ≡ zeros n ++ (s.words ++ rest)) × (s.first ≡ at + n)
    × Spread (at + n + length s.words) segments rest

-- zeros before
pub spread_gap : (at n : ℕ) (segments : List Segment) (words : List ℕ) → Spread (at + n) segments words
    → Spread at segments (zeros n ++ words)
spread_gap at n [] words h = (n + h.0, ap (λ (l : List ℕ). zeros n ++ l) h.1 ∙ replicate-append-replicate n h.0 0)
spread_gap at n (s ∷ segments) words h =
    let place : at + n + h.0 ≡ at + (n + h.0) = omega arith in
    let next : at + n + h.0 + length s.words ≡ at + (n + h.0) + length s.words = omega arith in (
      n + h.0,
      h.1,
      ap (λ (l : List ℕ). zeros n ++ l) h.2
          ∙ sym (append_assoc (zeros n) (zeros h.0) (s.words ++ h.1))
          ∙ ap (λ (l : List ℕ). l ++ (s.words ++ h.1)) (replicate-append-replicate n h.0 0),
      h.3 ∙ place,
      subst (λ (p : ℕ). Spread p segments h.1) next h.4,
    )

-- a segment first
pub spread_here : (at : ℕ) (s : Segment) (segments : List Segment) (rest : List ℕ) → s.first ≡ at
    → Spread (at + length s.words) segments rest → Spread at (s ∷ segments) (s.words ++ rest)
spread_here at s segments rest e h =
    let here : at ≡ at + 0 = omega arith in
    let next : at + length s.words ≡ at + 0 + length s.words = omega arith in
    (0, rest, refl, e ∙ here, subst (λ (p : ℕ). Spread p segments rest) next h)

-- others behind
pub spread_append : (at : ℕ) (segments more : List Segment) (words rest : List ℕ) → Spread at segments words
    → Spread (at + length words) more rest → Spread at (segments ++ more) (words ++ rest)
spread_append at [] more words rest h k =
    let size : length words ≡ h.0 = ap (λ (l : List ℕ). length l) h.1 ∙ length-replicate h.0 0 in
    let behind : Spread (at + h.0) more rest = subst (λ (n : ℕ). Spread (at + n) more rest) size k in
    subst (λ (l : List ℕ). Spread at more (l ++ rest)) (sym h.1) (spread_gap at h.0 more rest behind)
spread_append at (s ∷ segments) more words rest h k =
    let size : length words ≡ h.0 + (length s.words + length h.1) =
    ap (λ (l : List ℕ). length l) h.2 ∙ length-append (zeros h.0) (s.words ++ h.1)
    ∙ ap (λ (n : ℕ). n + length (s.words ++ h.1)) (length-replicate h.0 0)
    ∙ ap (λ (n : ℕ). h.0 + n) (length-append s.words h.1) in
    let place : at + length words ≡ at + h.0 + length s.words + length h.1 = omega (arith, size) in (
      h.0,
      h.1 ++ rest,
      ap (λ (l : List ℕ). l ++ rest) h.2
          ∙ append_assoc (zeros h.0) (s.words ++ h.1) rest
          ∙ ap (λ (l : List ℕ). zeros h.0 ++ l) (append_assoc s.words h.1 rest),
      h.3,
      spread_append (at + h.0 + length s.words) segments more h.1 rest h.4 (subst (λ (p : ℕ). Spread p more rest) place k),
    )

-- the word at a place, in the parts before a segment, of it and behind it

at_zero : (n j : ℕ) (l : List ℕ) → j < n → get_or (zeros n ++ l) j 0 ≡ 0
at_zero n j l h =
    let size : length (zeros n) ≡ n = length-replicate n 0 in
    get_or_append_left (zeros n) l 0 j (omega (arith, h, size)) ∙ get_or-replicate n j 0 0 h

behind_zeros : (n j : ℕ) (l : List ℕ) → get_or (zeros n ++ l) (n + j) 0 ≡ get_or l j 0
behind_zeros n j l =
    let size : length (zeros n) ≡ n = length-replicate n 0 in
    ap (λ (i : ℕ). get_or (zeros n ++ l) (i + j) 0) (sym size) ∙ get_or-append-add (zeros n) l j 0

in_segment : (n k : ℕ) (ws rest : List ℕ) → k < length ws → get_or (zeros n ++ (ws ++ rest)) (n + k) 0 ≡ get_or ws k 0
in_segment n k ws rest h = behind_zeros n k (ws ++ rest) ∙ get_or_append_left ws rest 0 k h

behind_segment : (n j : ℕ) (ws rest : List ℕ) → get_or (zeros n ++ (ws ++ rest)) (n + (length ws + j)) 0 ≡ get_or rest j 0
behind_segment n j ws rest = behind_zeros n (length ws + j) (ws ++ rest) ∙ get_or-append-add ws rest j 0

-- a segment that comes later starts no earlier than the place
starts_later : (at : ℕ) (before after : List Segment) (s : Segment) (words : List ℕ) → Spread at (before ++ s ∷ after) words
    → at ≤ s.first
starts_later at [] after s words h = let e = h.3 in omega (arith, e)
starts_later at (b ∷ before) after s words h =
    let later = starts_later (at + h.0 + length b.words) before after s h.1 h.4 in omega (arith, later)

pub spread_words : (at : ℕ) (before after : List Segment) (s : Segment) (words : List ℕ) (k j : ℕ) → Spread at (before ++ s ∷ after) words
    → k < length s.words → s.first + k ≡ at + j → get_or words j 0 ≡ get_or s.words k 0
spread_words at [] after s words k j h below e =
    let first = h.3 in
    let place : j ≡ h.0 + k = omega (arith, e, first) in
    ap (λ (l : List ℕ). get_or l j 0) h.2 ∙ ap (λ (i : ℕ). get_or (zeros h.0 ++ (s.words ++ h.1)) i 0) place
    ∙ in_segment h.0 k s.words h.1 below
spread_words at (b ∷ before) after s words k j h below e =
    let later = starts_later (at + h.0 + length b.words) before after s h.1 h.4 in
    let i : ℕ = s.first + k - (at + h.0 + length b.words) in
    let place : j ≡ h.0 + (length b.words + i) = omega (arith, e, later) in
    let there : s.first + k ≡ at + h.0 + length b.words + i = omega (arith, later) in
    ap (λ (l : List ℕ). get_or l j 0) h.2 ∙ ap (λ (x : ℕ). get_or (zeros h.0 ++ (b.words ++ h.1)) x 0) place
    ∙ behind_segment h.0 i b.words h.1
    ∙ spread_words (at + h.0 + length b.words) before after s h.1 k i h.4 below there

past_end : (n j : ℕ) → n ≤ j → get_or (zeros n) j 0 ≡ 0
past_end zero j h = refl
past_end (suc n) zero h = absurd (omega (arith, h))
past_end (suc n) (suc j) h = past_end n j (omega (arith, h))

all_zero : (n j : ℕ) → get_or (zeros n) j 0 ≡ 0
all_zero n j =
    ⊎_elim (λ (low : j < n). get_or-replicate n j 0 0 low) (λ (high : n ≤ j). past_end n j high) (cases_lt j n)

pub spread_zeros : (at : ℕ) (segments : List Segment) (words : List ℕ) (j : ℕ) → Spread at segments words → NoneCovers segments (at + j)
    → get_or words j 0 ≡ 0
spread_zeros at [] words j h none = ap (λ (l : List ℕ). get_or l j 0) h.1 ∙ all_zero h.0 j
spread_zeros at (s ∷ segments) words j h none =
    ap (λ (l : List ℕ). get_or l j 0) h.2
    ∙ ⊎_elim (λ (low : j < h.0). at_zero h.0 j (s.words ++ h.1) low)
    (λ (past : h.0 ≤ j).
    ⊎_elim (λ (inside : j < h.0 + length s.words). absurd (not_here (omega (arith, first, past), omega (arith, first, inside))))
    (λ (high : h.0 + length s.words ≤ j).
    let i : ℕ = j - (h.0 + length s.words) in
    let place : j ≡ h.0 + (length s.words + i) = omega (arith, high) in
    let there : at + j ≡ at + h.0 + length s.words + i = omega (arith, high) in
    ap (λ (x : ℕ). get_or (zeros h.0 ++ (s.words ++ h.1)) x 0) place
    ∙ behind_segment h.0 i s.words h.1
    ∙ spread_zeros (at + h.0 + length s.words) segments h.1 i h.4
    (subst (λ (p : ℕ). NoneCovers segments p) there (All-tail (λ (t : Segment). ¬ (Covers t (at + j))) s segments none)))
    (cases_lt j (h.0 + length s.words)))
    (cases_lt j h.0)
  where
    first : s.first ≡ at + h.0
    first = h.3

    not_here : ¬ (Covers s (at + j))
    not_here = All-head (λ (t : Segment). ¬ (Covers t (at + j))) s segments none
