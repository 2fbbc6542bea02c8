-- The walk down the levels stops at the greatest one that fits.
use Rattle.std.proofs.Common.{◌≡◌, ℕ, zero, suc, ◌+◌, ◌/◌, ◌^◌, ◌<◌, ◌≤◌, Bool, true, false, nat_le, refl, ap, subst, ⊎_elim, arith, leb-true, leb-false, le_antisymm}
use Rattle.std.proofs.lemmas.Bool.{cases_eq}
use Rattle.plan_model.specs.Levels.{greatest, level_of_words}
use Rattle.rule_laws.specs.Levels.{IsLevel, LevelFits}

-- the greatest number of at most a last one whose power fits
record IsGreatest (last n g : ℕ) : Type 0 where
  within : g ≤ last
  fits : 2 ^ g ≤ n
  most : (other : ℕ) → other ≤ last → 2 ^ other ≤ n → other ≤ g

-- below a last one that doesn't fit
below_last : (last n g : ℕ) → n < 2 ^ suc last → IsGreatest last n g → IsGreatest (suc last) n g
below_last last n g past r = record { within = omega (arith, r.within); fits = r.fits; most = most }
  where
    most : (other : ℕ) → other ≤ suc last → 2 ^ other ≤ n → other ≤ g
    most other h k =
        ⊎_elim (λ (e : other ≡ suc last). let same : 2 ^ other ≡ 2 ^ suc last = ap (λ (m : ℕ). 2 ^ m) e in
        absurd (omega (arith, same, k, past)))
        (λ (ne : other ≡ suc last → ⊥). let lower : other ≤ last = omega arith in r.most other lower k)
        (cases_eq other (suc last))

-- the walk stops there
greatest_is : (last n : ℕ) → 1 ≤ n → IsGreatest last n (greatest last n)
unfolding greatest
greatest_is zero n some = record { within = omega arith; fits = omega arith; most = λ other h k. h }
greatest_is (suc last) n some = by_test (nat_le (2 ^ suc last) n) refl (greatest_is last n some)
  where
    by_test : (b : Bool) → nat_le (2 ^ suc last) n ≡ b → IsGreatest last n (greatest last n)
        → IsGreatest (suc last) n (elim b [ true ↦ suc last | false ↦ greatest last n ])
    by_test true fits r = record { within = omega arith; fits = leb-true (2 ^ suc last) n fits; most = λ other h k. h }
    by_test false fits r = below_last last n (greatest last n) (leb-false (2 ^ suc last) n fits) r

level_is : (wq words : ℕ) → IsLevel wq words (level_of_words wq words)
unfolding level_of_words
level_is wq words =
    let r = greatest_is 8 (words / wq + 1) (omega arith) in
    record { within = r.within; fits = r.fits; most = r.most }

-- two levels that are both the greatest are one
only_one : (wq words l m : ℕ) → IsLevel wq words l → IsLevel wq words m → l ≡ m
only_one wq words l m a b = le_antisymm (b.most l a.within a.fits) (a.most m b.within b.fits)

pub level_fits : LevelFits
level_fits wq words l = (
  λ (e : level_of_words wq words ≡ l). subst (IsLevel wq words) e (level_is wq words),
  λ (r : IsLevel wq words l). only_one wq words (level_of_words wq words) l (level_is wq words) r,
)
