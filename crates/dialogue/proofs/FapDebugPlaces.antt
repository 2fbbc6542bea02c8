-- Breakpoints one after another.
use Rattle.std.proofs.Common.{◌≡◌, ℕ, suc, ◌+◌, ◌<◌, ◌≤◌, Bool, true, false, not, cond, List, [], ◌∷◌, length, arith, refl, ap, ◌∙◌, if◌then◌else◌}
use Rattle.std.specs.Prelude.{◌==◌}
use Rattle.std.specs.List.{remove}
use Rattle.program_model.specs.Stops.{without_break}
use Rattle.dialogue.specs.Places.{place_of}

one_more : (n : ℕ) → 1 + n ≡ suc n
one_more n = omega arith

-- one that is removed at its place
removed_case : (t : Bool) (b a : ℕ) (bs : List ℕ) → (place_of bs a < length bs → remove bs (place_of bs a) ≡ without_break bs a) → cond (not t) (1 + place_of bs a) 0 < length (b ∷ bs) →
    remove (b ∷ bs) (cond (not t) (1 + place_of bs a) 0) ≡ (if t then bs else b ∷ without_break bs a)
removed_case true b a bs ih h = refl
removed_case false b a bs ih h = ap (remove (b ∷ bs)) (one_more (place_of bs a)) ∙ ap (λ (ys : List ℕ). b ∷ ys) (ih (omega (arith, h)))

pub removed_at : (bs : List ℕ) (a : ℕ) → place_of bs a < length bs → remove bs (place_of bs a) ≡ without_break bs a
removed_at [] a h = absurd (omega (arith, h))
removed_at (b ∷ bs) a h = removed_case (b == a) b a bs (removed_at bs a) h

-- one that isn't there
absent_case : (t : Bool) (b a : ℕ) (bs : List ℕ) → (length bs ≤ place_of bs a → without_break bs a ≡ bs) → length (b ∷ bs) ≤ cond (not t) (1 + place_of bs a) 0 →
    (if t then bs else b ∷ without_break bs a) ≡ b ∷ bs
absent_case true b a bs ih h = absurd (omega (arith, h))
absent_case false b a bs ih h = ap (λ (ys : List ℕ). b ∷ ys) (ih (omega (arith, h)))

pub absent : (bs : List ℕ) (a : ℕ) → length bs ≤ place_of bs a → without_break bs a ≡ bs
absent [] a h = refl
absent (b ∷ bs) a h = absent_case (b == a) b a bs (absent bs a) h
