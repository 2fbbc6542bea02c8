-- Shifts by masks, as products and remainders.
use Rattle.std.proofs.Common.{◌≡◌, ℕ, ◌+◌, ◌-◌, ◌*◌, ◌/◌, ◌%◌, ◌^◌, ◌<◌, ◌≤◌, inl, inr, refl, arith, bit_and, bit_or, add_comm, sym, ap, ◌∙◌, not, nat_eq, nat_le}
use Rattle.std.proofs.lemmas.Bool.{cases_lt}
use Rattle.std.proofs.lemmas.Bool.Decides.{nat_tests}
use Rattle.std.proofs.lemmas.Nat.{pow-add, shl-shr, mod-pow-add, one_shl, shl_whole, and_mask, mod_below, pow_pos, le-div, shr_below, or_shifted, or_lt, shr_le}
use Rattle.std.proofs.Math.Pow.{mod-mod-pow}
use Rattle.std.proofs.Math.Nat.{mul-mod_left, mul-le-mul_right, mul-lt-mul_of_pos_right, div-eq_of_lt, pow-le-pow_right}

-- no place stays
pub gone : (x w n : ℕ) → w ≤ n → 0 ≡ x * 2 ^ n % 2 ^ w
gone x w n h =
    let split : n ≡ (n - w) + w = omega arith in
    let powers : 2 ^ n ≡ 2 ^ (n - w) * 2 ^ w = ap (λ k. 2 ^ k) split ∙ pow-add 2 (n - w) w in
    let product : x * 2 ^ n ≡ x * 2 ^ (n - w) * 2 ^ w = grind (arith, powers) in
    sym (ap (λ k. k % 2 ^ w) product ∙ mul-mod_left (x * 2 ^ (n - w)) (2 ^ w))

-- the places that stay, masked first
pub kept : (x w n m : ℕ) → m + n ≡ w → w < 128 → bit_and x (1 * 2 ^ m % 2 ^ 128 - 1) * 2 ^ n % 2 ^ 128 ≡ x * 2 ^ n % 2 ^ w
kept x w n m e h =
    let masked : bit_and x (2 ^ m - 1) ≡ x % 2 ^ m = and_mask x m in
    let small : x % 2 ^ m < 2 ^ m = mod_below x (2 ^ m) (pow_pos m) in
    let moved : x * 2 ^ n % 2 ^ (m + n) ≡ (x * 2 ^ n / 2 ^ n % 2 ^ m) * 2 ^ n + x * 2 ^ n % 2 ^ n = mod-pow-add (x * 2 ^ n) m n in
    let clean : x * 2 ^ n % 2 ^ n ≡ 0 = mul-mod_left x (2 ^ n) in
    rw (one_shl m 128 (omega arith), masked, shl_whole (x % 2 ^ m) m n 128 small (omega arith), ← e, moved, shl-shr x n, clean) (omega arith)

-- a one has passed where something is left above the places that stay
above_place : (y p n m : ℕ) → m + n ≡ p → not (nat_eq (y / 2 ^ m) 0) ≡ nat_le (2 ^ p) (y * 2 ^ n)
above_place y p n m e =
    let powers : 2 ^ p ≡ 2 ^ m * 2 ^ n = ap (λ k. 2 ^ k) (sym e) ∙ pow-add 2 m n in
    elim (cases_lt y (2 ^ m)) [
      | inl h ↦
          let none : y / 2 ^ m ≡ 0 = div-eq_of_lt h in
          let short : y * 2 ^ n < 2 ^ m * 2 ^ n = mul-lt-mul_of_pos_right h (pow_pos n) in
          rw (none, powers) (grind (arith, nat_tests))
      | inr h ↦
          let some : 1 ≤ y / 2 ^ m = le-div 1 y (2 ^ m) (pow_pos m) (omega arith) in
          let long : 2 ^ m * 2 ^ n ≤ y * 2 ^ n = mul-le-mul_right (2 ^ n) h in
          rw powers (grind (arith, nat_tests))
    ]

-- and past the place, any one
any_above : (y p n : ℕ) → p ≤ n → not (nat_eq y 0) ≡ nat_le (2 ^ p) (y * 2 ^ n)
any_above y p n h =
    let powers : 2 ^ p ≤ 2 ^ n = pow-le-pow_right (omega arith) h in
    elim (cases_lt 0 y) [
      | inl some ↦
          let long : 1 * 2 ^ n ≤ y * 2 ^ n = mul-le-mul_right (2 ^ n) some in
          grind (arith, nat_tests)
      | inr none ↦
          let zero_y : y ≡ 0 = omega arith in
          let above : 0 < 2 ^ p = pow_pos p in
          rw zero_y (grind (arith, nat_tests))
    ]

pub entered : (x p n m : ℕ) → p < 128 → m + n ≡ p
    → not (nat_eq (bit_and x (1 * 2 ^ p % 2 ^ 128 - 1) / 2 ^ m) 0) ≡ nat_le (2 ^ p) (x % 2 ^ p * 2 ^ n)
entered x p n m h e = rw (one_shl p 128 h, and_mask x p) (above_place (x % 2 ^ p) p n m e)

pub all_entered : (x p n : ℕ) → p < 128 → p ≤ n
    → not (nat_eq (bit_and x (1 * 2 ^ p % 2 ^ 128 - 1)) 0) ≡ nat_le (2 ^ p) (x % 2 ^ p * 2 ^ n)
all_entered x p n h le = rw (one_shl p 128 h, and_mask x p) (any_above (x % 2 ^ p) p n le)

-- all places left to the right
pub emptied : (x n : ℕ) → x < 2 ^ 73 → 73 ≤ n → 0 ≡ x / 2 ^ n
emptied x n h le =
    let power : 2 ^ 73 ≤ 2 ^ n = pow-le-pow_right (omega arith) le in
    sym (div-eq_of_lt (omega arith))

-- k places turned out and j = 36 - k turned in
pub turned_bits : (q k j : ℕ) → q < 2 ^ 36 → k < 36 → j ≡ 36 - k →
    bit_or (bit_and (q * 2 ^ k % 2 ^ 64) (2 ^ 36 - 1)) (q / 2 ^ j) ≡ q * 2 ^ k % 2 ^ 36 + q / 2 ^ j
turned_bits q k j h l e =
    let whole : j + k ≡ 36 = omega arith in
    let low : q * 2 ^ k % 2 ^ 36 ≡ (q % 2 ^ j) * 2 ^ k =
    ap (λ w. q * 2 ^ k % 2 ^ w) (sym whole)
    ∙ rw (mod-pow-add (q * 2 ^ k) j k, shl-shr q k, mul-mod_left q (2 ^ k)) (omega arith) in
    let high : q / 2 ^ j < 2 ^ k = shr_below q k j (rw (add_comm k j, whole) h) in
    rw (and_mask (q * 2 ^ k % 2 ^ 64) 36, mod-mod-pow (q * 2 ^ k) 28 36, low, or_shifted (q % 2 ^ j) k (q / 2 ^ j) high) refl

pub turned_below : (q k j : ℕ) → q < 2 ^ 36 → k < 36 → j ≡ 36 - k →
    bit_or (bit_and (q * 2 ^ k % 2 ^ 64) (2 ^ 36 - 1)) (q / 2 ^ j) < 2 ^ 36
turned_below q k j h l e =
    let left : bit_and (q * 2 ^ k % 2 ^ 64) (2 ^ 36 - 1) < 2 ^ 36 = rw (and_mask (q * 2 ^ k % 2 ^ 64) 36) (mod_below (q * 2 ^ k % 2 ^ 64) (2 ^ 36) (pow_pos 36)) in
    let right : q / 2 ^ j < 2 ^ 36 = omega (arith, shr_le q j) in
    or_lt 36 (bit_and (q * 2 ^ k % 2 ^ 64) (2 ^ 36 - 1)) (q / 2 ^ j) left right
