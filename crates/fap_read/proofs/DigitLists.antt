-- Digits in front of a list of digits.
use Rattle.std.proofs.Common.{◌≡◌, ℕ, Bool, true, false, ◌+◌, ◌-◌, ◌*◌, ◌^◌, ◌<◌, ◌≤◌, ◌&&◌, List, [], ◌∷◌, length, take, get_or, zero, suc, arith, refl, length-take}
use Rattle.std.proofs.lemmas.Bool.Decides.{nat_tests}
use Rattle.std.proofs.lemmas.Int.Digits.{digits_value-lt, digits_value_more}
use Rattle.std.proofs.Math.Nat.{pow-le-pow_right}
use Rattle.std.specs.Char.{digit_value}
use Rattle.std.specs.List.{list_all}
use Rattle.std.specs.Str.Parse.{digits_value, AllDigits}
use Rattle.fap_model.specs.Cards.{is_digit}
use Rattle.fap_model.specs.Terms.{is_octal}

both : (a b : Bool) → (a && b) ≡ true → (a ≡ true) × (b ≡ true)
both true true h = (refl, refl)
both true false h = cc
both false _ h = cc

digit_range : (c : ℕ) → is_digit c ≡ true → (48 ≤ c) × (c ≤ 57)
digit_range c h = grind (arith, nat_tests)

octal_range : (c : ℕ) → is_octal c ≡ true → (48 ≤ c) × (c ≤ 55)
octal_range c h = grind (arith, nat_tests)

value_of_digit : (c : ℕ) → 48 ≤ c → c ≤ 57 → digit_value c ≡ c - 48
value_of_digit c h k = grind (arith, nat_tests)

pub digit_between : (ds : List ℕ) (i : ℕ) → list_all is_digit ds ≡ true → i < length ds → (48 ≤ get_or ds i 0) × (get_or ds i 0 ≤ 57)
digit_between [] i h lt = absurd (omega arith)
digit_between (c ∷ cs) zero h lt = digit_range c (both (is_digit c) (list_all is_digit cs) h).0
digit_between (c ∷ cs) (suc i) h lt = digit_between cs i (both (is_digit c) (list_all is_digit cs) h).1 (omega arith)

pub octal_between : (ds : List ℕ) (i : ℕ) → list_all is_octal ds ≡ true → i < length ds → (48 ≤ get_or ds i 0) × (get_or ds i 0 ≤ 55)
octal_between [] i h lt = absurd (omega arith)
octal_between (c ∷ cs) zero h lt = octal_range c (both (is_octal c) (list_all is_octal cs) h).0
octal_between (c ∷ cs) (suc i) h lt = octal_between cs i (both (is_octal c) (list_all is_octal cs) h).1 (omega arith)

all_octal : (ds : List ℕ) → list_all is_octal ds ≡ true → AllDigits 8 ds
all_octal [] h = tt
all_octal (c ∷ cs) h =
    let parts = both (is_octal c) (list_all is_octal cs) h in
    let range = octal_range c parts.0 in
    (rw (value_of_digit c range.0 (omega (arith, range))) (omega (arith, range)), all_octal cs parts.1)

front_digits : (i : ℕ) (ds : List ℕ) → AllDigits 8 ds → AllDigits 8 (take i ds)
front_digits zero ds h = tt
front_digits (suc i) [] h = tt
front_digits (suc i) (c ∷ cs) h = (h.0, front_digits i cs h.1)

pub octal_at_most : (ds : List ℕ) (most n : ℕ) → n ≡ digits_value 8 ds → list_all is_octal ds ≡ true → length ds ≤ most → n < 8 ^ most
octal_at_most ds most n is h le =
    let below : digits_value 8 ds < 8 ^ length ds = digits_value-lt 8 ds (all_octal ds h) in
    let power : 8 ^ length ds ≤ 8 ^ most = pow-le-pow_right (omega arith) le in
    omega arith

pub octal_front_below : (ds : List ℕ) (i : ℕ) → list_all is_octal ds ≡ true → length ds ≤ 12 → i < length ds → digits_value 8 (take i ds) < 8 ^ 11
octal_front_below ds i h le lt =
    let below : digits_value 8 (take i ds) < 8 ^ length (take i ds) = digits_value-lt 8 (take i ds) (front_digits i ds (all_octal ds h)) in
    let short : length (take i ds) ≤ 11 = simp length-take (omega arith) in
    let power : 8 ^ length (take i ds) ≤ 8 ^ 11 = pow-le-pow_right (omega arith) short in
    omega arith

-- one digit more
pub next_octal : (ds : List ℕ) (i : ℕ) → list_all is_octal ds ≡ true → i < length ds →
    digits_value 8 (take (i + 1) ds) ≡ 8 * digits_value 8 (take i ds) + (get_or ds i 0 - 48)
next_octal ds i h lt =
    let range = octal_between ds i h lt in
    let is : digit_value (get_or ds i 0) ≡ get_or ds i 0 - 48 = value_of_digit (get_or ds i 0) range.0 (omega (arith, range)) in
    omega (arith, digits_value_more 8 ds i lt, is)

pub next_decimal : (ds : List ℕ) (i : ℕ) → list_all is_digit ds ≡ true → i < length ds →
    digits_value 10 (take (i + 1) ds) ≡ 10 * digits_value 10 (take i ds) + (get_or ds i 0 - 48)
next_decimal ds i h lt =
    let range = digit_between ds i h lt in
    let is : digit_value (get_or ds i 0) ≡ get_or ds i 0 - 48 = value_of_digit (get_or ds i 0) range.0 range.1 in
    omega (arith, digits_value_more 10 ds i lt, is)
