-- The last octal digits of a number, one by one.
use Rattle.std.proofs.Common.{◌≡◌, ℕ, zero, suc, ◌+◌, ◌-◌, ◌<◌, ◌≤◌, ◌/◌, ◌%◌, List, [], ◌∷◌, ◌++◌, refl, ap, arith}
use Rattle.word36.specs.Octal.{octal_digits}

pub digits_next : (k n : ℕ) → 0 < k → octal_digits (k - 1) (n / 8) ++ (48 + n % 8) ∷ [] ≡ octal_digits k n
unfolding octal_digits
digits_next zero n some = absurd (omega arith)
digits_next (suc k) n some =
    let one : suc k - 1 ≡ k = omega arith in
    ap (λ (i : ℕ). octal_digits i (n / 8) ++ (48 + n % 8) ∷ []) one

pub digits_none : (k n : ℕ) → k ≤ 0 → [] ≡ octal_digits k n
unfolding octal_digits
digits_none zero n none = refl
digits_none (suc k) n none = absurd (omega arith)
