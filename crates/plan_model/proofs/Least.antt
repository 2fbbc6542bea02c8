-- The first of the numbers at which something is least.
use Rattle.std.specs.Prelude.{Bool, true, false, nat_lt, if◌then◌else◌}
use Rattle.std.proofs.Common.{◌≡◌, inl, inr, ℕ, zero, suc, ◌<◌, ◌≤◌, ◌-◌, refl, sym, ap, subst, arith}
use Rattle.std.proofs.lemmas.Bool.{cases_eq, ltb-true, ltb-false}
use Rattle.plan_model.specs.Loads.{others_from, first_least, base_for}
use Rattle.plan_model.specs.Bases.{IsFirstLeast, BaseIsLeast}

-- one more number, which is taken if it is less at it
step : (m : ℕ) (f : ℕ → ℕ) (k : ℕ) → IsFirstLeast m f k → (t : Bool) → nat_lt (f (suc m)) (f k) ≡ t → IsFirstLeast (suc m) f (if t then suc m else k)
step m f k i true is =
    let less : f (suc m) < f k = ltb-true (f (suc m)) (f k) is in
    record {
      within = omega arith;
      least = λ c le. elim (cases_eq c (suc m)) [
        | inl same ↦ let e : f c ≡ f (suc m) = ap f same in omega arith
        | inr other ↦ omega (arith, i.least c (omega arith))
      ];
      first = λ c before. omega (arith, i.least c (omega arith));
    }
step m f k i false is =
    let more : f k ≤ f (suc m) = ltb-false (f (suc m)) (f k) is in
    record {
      within = omega (arith, i.within);
      least = λ c le. elim (cases_eq c (suc m)) [
        | inl same ↦ let e : f c ≡ f (suc m) = ap f same in omega arith
        | inr other ↦ i.least c (omega arith)
      ];
      first = i.first;
    }

first_least_is : (m : ℕ) (f : ℕ → ℕ) → IsFirstLeast m f (first_least m f)
first_least_is zero f = record {
  within = omega arith;
  least = λ c le. let same : c ≡ 0 = omega arith in let e : f c ≡ f 0 = ap f same in omega arith;
  first = λ c before. absurd (omega arith);
}
first_least_is (suc m) f = step m f (first_least m f) (first_least_is m f) (nat_lt (f (suc m)) (f (first_least m f))) refl

pub base_is_least : BaseIsLeast
unfolding base_for
base_is_least p u n is =
    subst (λ (b : ℕ). IsFirstLeast (128 - n) (others_from p.owner u n) b)
    (sym (ap (λ (t : Bool). if t then p.base u else first_least (128 - n) (others_from p.owner u n)) is))
    (first_least_is (128 - n) (others_from p.owner u n))
