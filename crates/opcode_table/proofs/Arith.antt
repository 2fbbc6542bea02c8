-- The numbers of packed words, over plain variables.
use Rattle.std.proofs.Common.{◌≡◌, ◌≢◌, ℕ, Bool, true, false, not, nat_lt, nat_le, nat_eq, ◌+◌, ◌-◌, ◌*◌, ◌/◌, ◌%◌, ◌^◌, ◌<◌, arith, ◌&&◌, if◌then◌else◌, bit_and, ◌∙◌}
use Rattle.std.proofs.lemmas.Bool.Decides.{nat_tests}
use Rattle.std.proofs.lemmas.Nat.{and_mask}
use Rattle.opcode_table.specs.Words.{number_in}
use Rattle.word36.specs.Bits.{prefix_of}

-- the low three bits of a number that has no others
pub low_three : (k : ℕ) → k < 8 → bit_and k 7 ≡ k
low_three k below = and_mask k 3 ∙ omega arith

pub prefix_number : (w k : ℕ) → k ≡ prefix_of w → prefix_of w % 4 ≢ 0 → number_in w ≡ 0o10000 + k
prefix_number w k e n = grind (arith, nat_tests)

pub no_prefix_number : (w k : ℕ) → w < 2 ^ 36 → prefix_of w % 4 ≡ 0 → k ≡ number_in w → nat_lt 0o10000 k && nat_lt k 0o10010 && not (nat_eq (k % 4) 0) ≢ true
no_prefix_number w k below p is = grind (arith, nat_tests)

pub code_numbered : (k m : ℕ) → m < 2 ^ 24 → nat_lt k 0o10000 && nat_eq (k / 2 ^ 9 % 4) 0 && not (nat_eq (k % 2 ^ 11) 0o760) ≡ true
    → number_in (k * 2 ^ 24 + m) ≡ k
code_numbered k m h e = grind (arith, nat_tests)

pub prefix_numbered : (k m : ℕ) → m < 2 ^ 33 → nat_lt 0o10000 k && nat_lt k 0o10010 && not (nat_eq (k % 4) 0) ≡ true
    → number_in ((k - 0o10000) * 2 ^ 33 + m) ≡ k
prefix_numbered k m h e = grind (arith, nat_tests)

pub group_numbered : (k t : ℕ) → t < 2 ^ 3 → nat_le 0o20000 k && nat_lt k 0o220000 ≡ true
    → number_in ((k - 0o20000) / 2 ^ 15 * 2 ^ 35 + 0o760 * 2 ^ 24 + t * 2 ^ 15 + (k - 0o20000) % 2 ^ 15) ≡ k
group_numbered k t h e = grind (arith, nat_tests)

pub code_below : (k m : ℕ) → m < 2 ^ 24 → nat_lt k 0o10000 && nat_eq (k / 2 ^ 9 % 4) 0 && not (nat_eq (k % 2 ^ 11) 0o760) ≡ true
    → k * 2 ^ 24 + m < 2 ^ 36
code_below k m h e = grind (arith, nat_tests)

pub prefix_below : (k m : ℕ) → m < 2 ^ 33 → nat_lt 0o10000 k && nat_lt k 0o10010 && not (nat_eq (k % 4) 0) ≡ true
    → (k - 0o10000) * 2 ^ 33 + m < 2 ^ 36
prefix_below k m h e = grind (arith, nat_tests)

pub group_below : (k t : ℕ) → t < 2 ^ 3 → nat_le 0o20000 k && nat_lt k 0o220000 ≡ true
    → (k - 0o20000) / 2 ^ 15 * 2 ^ 35 + 0o760 * 2 ^ 24 + t * 2 ^ 15 + (k - 0o20000) % 2 ^ 15 < 2 ^ 36
group_below k t h e = grind (arith, nat_tests)

pub regroup3 : (k t a : ℕ) → k + t + a ≡ k + (t + a)
regroup3 k t a = omega arith

pub regroup4 : (k f t a : ℕ) → k + f + t + a ≡ k + (f + t + a)
regroup4 k f t a = omega arith

pub flag_again : (k : ℕ) (f : Bool) (t a : ℕ) → t < 2 ^ 3 → a < 2 ^ 15
    → nat_eq ((k * 2 ^ 24 + (if f then 3 * 2 ^ 22 else 0) + t * 2 ^ 15 + a) / 2 ^ 22 % 4) 3 ≡ f
flag_again k true t a h g = grind (arith, nat_tests)
flag_again k false t a h g = grind (arith, nat_tests)
