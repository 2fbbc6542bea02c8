use Rattle.std.proofs.Common.{◌≡◌, ℕ, zero, suc, ◌-◌, ◌<◌, ◌≤◌, ◌^◌, Bool, true, false, refl, sym, ◌∙◌, ap, arith}
use Rattle.std.proofs.lemmas.Bool.Decides.{nat_tests}
use Rattle.std.specs.Prelude.{nat_le}
use Rattle.plan_model.specs.Levels.{greatest}

above : (a n : ℕ) → n < a → nat_le a n ≡ false
above a n h = grind (arith, nat_tests)

under : (a n : ℕ) → a ≤ n → nat_le a n ≡ true
under a n h = grind (arith, nat_tests)

pub greatest-down : (l n : ℕ) → 0 < l → n < 2 ^ l → greatest (l - 1) n ≡ greatest l n
unfolding greatest
greatest-down zero n h k = absurd (omega arith)
greatest-down (suc l) n h k = let e : suc l - 1 ≡ l = omega arith in ap (λ (m : ℕ). greatest m n) e ∙ sym (ap (λ (b : Bool). elim b as (λ _. ℕ) [ true ↦ suc l | false ↦ greatest l n ]) (above (2 ^ suc l) n k))

pub greatest-here : (l n : ℕ) → 0 < l → 2 ^ l ≤ n → greatest l n ≡ l
unfolding greatest
greatest-here zero n h k = absurd (omega arith)
greatest-here (suc l) n h k = ap (λ (b : Bool). elim b as (λ _. ℕ) [ true ↦ suc l | false ↦ greatest l n ]) (under (2 ^ suc l) n k)

pub greatest-none : (n : ℕ) → greatest 0 n ≡ 0
unfolding greatest
greatest-none n = refl

pub ruleset steps = (greatest-down, greatest-here, greatest-none)
