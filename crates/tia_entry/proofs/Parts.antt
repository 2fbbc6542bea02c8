-- Words of a core from an address on, one after another.
use Rattle.std.proofs.Common.{◌≡◌, ◌<◌, ◌+◌, ℕ, zero, suc, List, [], ◌∷◌, ◌++◌, length, drop, slice_index, slice_set, refl, ap, ◌∙◌, arith}
use Rattle.program_model.specs.Lines.{words_at, with_words}

-- the word that comes next
front : (ws : List ℕ) (i : ℕ) → i < length ws → drop i ws ≡ slice_index ws i ∷ drop (i + 1) ws
front [] i h = absurd (omega arith)
front (w ∷ ws) zero h = refl
front (w ∷ ws) (suc i) h =
    let e : suc (i + 1) ≡ suc i + 1 = omega arith in
    front ws i (omega (arith, h)) ∙ ap (λ (k : ℕ). slice_index ws i ∷ drop k (w ∷ ws)) e

pub store_next : (core ws : List ℕ) (at i : ℕ) → i < length ws →
    with_words core (at + i) (drop i ws) ≡ with_words (slice_set core (at + i) (slice_index ws i)) (at + (i + 1)) (drop (i + 1) ws)
store_next core ws at i h =
    let e : suc (at + i) ≡ at + (i + 1) = omega arith in
    ap (with_words core (at + i)) (front ws i h)
    ∙ ap (λ (k : ℕ). with_words (slice_set core (at + i) (slice_index ws i)) k (drop (i + 1) ws)) e

pub words_more : (core : List ℕ) (at n : ℕ) → words_at core at n ++ slice_index core (at + n) ∷ [] ≡ words_at core at (n + 1)
words_more core at zero = let e : at + 0 ≡ at = omega arith in ap (λ (k : ℕ). slice_index core k ∷ []) e
words_more core at (suc n) =
    let e : at + suc n ≡ suc at + n = omega arith in
    let d : suc (n + 1) ≡ suc n + 1 = omega arith in
    ap (λ (k : ℕ). slice_index core at ∷ (words_at core (suc at) n ++ slice_index core k ∷ [])) e
    ∙ ap (λ (ws : List ℕ). slice_index core at ∷ ws) (words_more core (suc at) n)
    ∙ ap (words_at core at) d
