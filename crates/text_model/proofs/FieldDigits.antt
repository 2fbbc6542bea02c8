-- Digits of a base up to ten in front of a list of digits.
use Rattle.std.proofs.Common.{◌≡◌, ℕ, Bool, true, false, ◌+◌, ◌-◌, ◌*◌, ◌^◌, ◌<◌, ◌≤◌, ◌&&◌, nat_le, List, [], ◌∷◌, length, take, get_or, zero, suc, arith, refl, length-take}
use Rattle.std.proofs.lemmas.Bool.Decides.{nat_tests}
use Rattle.std.proofs.lemmas.Int.Digits.{digits_value-lt, digits_value_more}
use Rattle.std.proofs.Math.Nat.{pow-le-pow_right}
use Rattle.std.specs.Char.{digit_value}
use Rattle.std.specs.List.{list_all}
use Rattle.std.specs.Str.Parse.{digits_value, AllDigits}

abbrev pub is_digit : ℕ → ℕ → Bool
is_digit base b = nat_le 48 b && nat_le b (47 + base)

pub both : (a b : Bool) → (a && b) ≡ true → (a ≡ true) × (b ≡ true)
both true true h = (refl, refl)
both true false h = cc
both false _ h = cc

pub digit_range : (base c : ℕ) → is_digit base c ≡ true → (48 ≤ c) × (c ≤ 47 + base)
digit_range base c h = grind (arith, nat_tests)

digit_is : (base c : ℕ) → base ≤ 10 → is_digit base c ≡ true → digit_value c ≡ c - 48
digit_is base c small h = let range : (48 ≤ c) × (c ≤ 47 + base) = digit_range base c h in grind (arith, nat_tests)

all_digits : (base : ℕ) (ds : List ℕ) → base ≤ 10 → list_all (is_digit base) ds ≡ true → AllDigits base ds
all_digits base [] small h = tt
all_digits base (c ∷ cs) small h =
    let parts = both (is_digit base c) (list_all (is_digit base) cs) h in
    (rw (digit_is base c small parts.0) (omega (arith, digit_range base c parts.0)), all_digits base cs small parts.1)

front_digits : (base i : ℕ) (ds : List ℕ) → AllDigits base ds → AllDigits base (take i ds)
front_digits base zero ds h = tt
front_digits base (suc i) [] h = tt
front_digits base (suc i) (c ∷ cs) h = (h.0, front_digits base i cs h.1)

front_power : (base most : ℕ) (ds : List ℕ) (i : ℕ) → 1 ≤ base → base ≤ 10 → list_all (is_digit base) ds ≡ true → length (take i ds) ≤ most → digits_value base (take i ds) < base ^ most
front_power base most ds i some small h short =
    let below : digits_value base (take i ds) < base ^ length (take i ds) = digits_value-lt base (take i ds) (front_digits base i ds (all_digits base ds small h)) in
    let power : base ^ length (take i ds) ≤ base ^ most = pow-le-pow_right some short in
    omega arith

-- digits in front are below the power of the most digits, and below the power of one less where one is left
pub front_within : (base most : ℕ) (ds : List ℕ) (i : ℕ) → 1 ≤ base → base ≤ 10 → list_all (is_digit base) ds ≡ true → length ds ≤ most
    → digits_value base (take i ds) < base ^ most
front_within base most ds i some small h le = front_power base most ds i some small h (simp length-take (omega arith))

pub front_below : (base most : ℕ) (ds : List ℕ) (i : ℕ) → 1 ≤ base → base ≤ 10 → list_all (is_digit base) ds ≡ true → length ds ≤ suc most → i < length ds
    → digits_value base (take i ds) < base ^ most
front_below base most ds i some small h le lt = front_power base most ds i some small h (simp length-take (omega arith))

pub digit_between : (base : ℕ) (ds : List ℕ) (i : ℕ) → list_all (is_digit base) ds ≡ true → i < length ds → (48 ≤ get_or ds i 0) × (get_or ds i 0 ≤ 47 + base)
digit_between base [] i h lt = absurd (omega arith)
digit_between base (c ∷ cs) zero h lt = digit_range base c (both (is_digit base c) (list_all (is_digit base) cs) h).0
digit_between base (c ∷ cs) (suc i) h lt = digit_between base cs i (both (is_digit base c) (list_all (is_digit base) cs) h).1 (omega arith)

digit_value_at : (base c : ℕ) → base ≤ 10 → (48 ≤ c) × (c ≤ 47 + base) → digit_value c ≡ c - 48
digit_value_at base c small range = grind (arith, nat_tests)

pub next_value : (base : ℕ) (ds : List ℕ) (i : ℕ) → base ≤ 10 → list_all (is_digit base) ds ≡ true → i < length ds →
    digits_value base (take (i + 1) ds) ≡ base * digits_value base (take i ds) + (get_or ds i 0 - 48)
next_value base ds i small h lt =
    let is : digit_value (get_or ds i 0) ≡ get_or ds i 0 - 48 = digit_value_at base (get_or ds i 0) small (digit_between base ds i h lt) in
    let more = digits_value_more base ds i lt in
    grind (arith, is, more)
