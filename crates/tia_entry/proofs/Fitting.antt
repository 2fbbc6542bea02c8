-- Words that are stored as far as there is room.
use Rattle.std.proofs.Common.{◌≡◌, ◌≤◌, ◌+◌, ℕ, zero, suc, List, [], ◌∷◌, length, take, slice_set, refl, sym, ap, ◌∙◌, arith}
use Rattle.std.proofs.lemmas.List.{length-set}
use Rattle.program_model.specs.Lines.{with_words}

-- outside a list nothing is set
set_outside : (xs : List ℕ) (i v : ℕ) → length xs ≤ i → slice_set xs i v ≡ xs
set_outside [] i v h = refl
set_outside (x ∷ xs) zero v h = absurd (omega arith)
set_outside (x ∷ xs) (suc i) v h = ap (λ (ys : List ℕ). x ∷ ys) (set_outside xs i v (omega (arith, h)))

-- words that lie outside a core change nothing
pub words_past : (core ws : List ℕ) (at : ℕ) → length core ≤ at → core ≡ with_words core at ws
words_past core [] at h = refl
words_past core (w ∷ ws) at h = rw (set_outside core at w h) (words_past core ws (suc at) (omega (arith, h)))

-- so many as there is room for
pub words_within : (core ws : List ℕ) (at n : ℕ) → length core ≤ at + n → with_words core at (take n ws) ≡ with_words core at ws
words_within core ws at zero h = words_past core ws at (omega (arith, h))
words_within core [] at (suc n) h = refl
words_within core (w ∷ ws) at (suc n) h = words_within (slice_set core at w) ws (suc at) n (omega (arith, h, length-set core at w))

pub ruleset fitting = (words_past, words_within)
