-- Octal digits of a number one after another.
use Rattle.std.proofs.Common.{◌≡◌, ℕ, zero, suc, ◌+◌, ◌-◌, ◌*◌, ◌^◌, ◌<◌, ◌≤◌, Bool, true, false, ◌&&◌, List, [], ◌∷◌, length, drop, slice_index, arith, refl, ap, ◌∙◌}
use Rattle.std.proofs.lemmas.Bool.Decides.{nat_tests}
use Rattle.std.specs.List.{list_all}
use Rattle.program_model.specs.Octals.{is_octal_digit, octal_from}

both : (a b : Bool) → (a && b) ≡ true → (a ≡ true) × (b ≡ true)
both true true h = (refl, refl)
both true false h = cc
both false _ h = cc

digit_range : (c : ℕ) → is_octal_digit c ≡ true → (48 ≤ c) × (c ≤ 55)
digit_range c h = grind (arith, nat_tests)

pub digit_at : (ds : List ℕ) (i : ℕ) → list_all is_octal_digit ds ≡ true → i < length ds → (48 ≤ slice_index ds i) × (slice_index ds i ≤ 55)
digit_at [] i h k = absurd (omega (arith, k))
digit_at (d ∷ ds) zero h k = digit_range d (both (is_octal_digit d) (list_all is_octal_digit ds) h).0
digit_at (d ∷ ds) (suc i) h k = digit_at ds i (both (is_octal_digit d) (list_all is_octal_digit ds) h).1 (omega (arith, k))

-- one digit more of at most twelve
pub number_below : (i p d : ℕ) → i < 12 → p < 8 ^ i → 48 ≤ d → d ≤ 55 → (8 * p + (d - 48) < 8 ^ (i + 1)) × (8 * p + 7 < 2 ^ 36)
number_below zero p d h b l m = (omega (arith, b, l, m), omega (arith, b, l, m))
number_below (suc zero) p d h b l m = (omega (arith, b, l, m), omega (arith, b, l, m))
number_below (suc (suc zero)) p d h b l m = (omega (arith, b, l, m), omega (arith, b, l, m))
number_below (suc (suc (suc zero))) p d h b l m = (omega (arith, b, l, m), omega (arith, b, l, m))
number_below (suc (suc (suc (suc zero)))) p d h b l m = (omega (arith, b, l, m), omega (arith, b, l, m))
number_below (suc (suc (suc (suc (suc zero))))) p d h b l m = (omega (arith, b, l, m), omega (arith, b, l, m))
number_below (suc (suc (suc (suc (suc (suc zero)))))) p d h b l m = (omega (arith, b, l, m), omega (arith, b, l, m))
number_below (suc (suc (suc (suc (suc (suc (suc zero))))))) p d h b l m = (omega (arith, b, l, m), omega (arith, b, l, m))
number_below (suc (suc (suc (suc (suc (suc (suc (suc zero)))))))) p d h b l m = (omega (arith, b, l, m), omega (arith, b, l, m))
number_below (suc (suc (suc (suc (suc (suc (suc (suc (suc zero))))))))) p d h b l m = (omega (arith, b, l, m), omega (arith, b, l, m))
number_below (suc (suc (suc (suc (suc (suc (suc (suc (suc (suc zero)))))))))) p d h b l m = (omega (arith, b, l, m), omega (arith, b, l, m))
number_below (suc (suc (suc (suc (suc (suc (suc (suc (suc (suc (suc zero))))))))))) p d h b l m = (omega (arith, b, l, m), omega (arith, b, l, m))
number_below (suc (suc (suc (suc (suc (suc (suc (suc (suc (suc (suc (suc i)))))))))))) p d h b l m = absurd (omega (arith, h))

front : (ws : List ℕ) (i : ℕ) → i < length ws → drop i ws ≡ slice_index ws i ∷ drop (i + 1) ws
front [] i h = absurd (omega (arith, h))
front (w ∷ ws) zero h = refl
front (w ∷ ws) (suc i) h =
    let e : suc (i + 1) ≡ suc i + 1 = omega arith in
    front ws i (omega (arith, h)) ∙ ap (λ (k : ℕ). slice_index ws i ∷ drop k (w ∷ ws)) e

pub number_next : (ds : List ℕ) (p i : ℕ) → i < length ds → octal_from p (drop i ds) ≡ octal_from (8 * p + (slice_index ds i - 48)) (drop (i + 1) ds)
number_next ds p i h = ap (octal_from p) (front ds i h)

pub number_all : (ds : List ℕ) (p n : ℕ) → length ds ≤ n → octal_from p (drop n ds) ≡ p
number_all [] p zero h = refl
number_all [] p (suc n) h = refl
number_all (d ∷ ds) p zero h = absurd (omega (arith, h))
number_all (d ∷ ds) p (suc n) h = number_all ds p n (omega (arith, h))

pub ruleset digits = (digit_at, number_below, number_next, number_all)
