-- Octal digits in a line: how many they are, and that they are of the 48 characters.
use Rattle.std.proofs.Common.{◌≡◌, ◌≤◌, ◌<◌, ◌+◌, ◌-◌, ◌*◌, ◌/◌, ◌%◌, ℕ, zero, suc, true, List, [], ◌∷◌, ◌++◌, length, take, slice_index, length-append, append_assoc, refl, sym, ap, ◌∙◌, arith}
use Rattle.std.proofs.lemmas.List.{append-nil}
use Rattle.std.specs.List.{list_all}
use Rattle.bcd48.specs.Characters.{is_character}
use Rattle.word36.specs.Octal.{octal_digits}

pub is_digit : (n : ℕ) → n < 8 → is_character (48 + n) ≡ true
is_digit zero h = refl
is_digit (suc zero) h = refl
is_digit (suc (suc zero)) h = refl
is_digit (suc (suc (suc zero))) h = refl
is_digit (suc (suc (suc (suc zero)))) h = refl
is_digit (suc (suc (suc (suc (suc zero))))) h = refl
is_digit (suc (suc (suc (suc (suc (suc zero)))))) h = refl
is_digit (suc (suc (suc (suc (suc (suc (suc zero))))))) h = refl
is_digit (suc (suc (suc (suc (suc (suc (suc (suc n)))))))) h = absurd (omega arith)

pub last_digit : (n : ℕ) → list_all is_character ((48 + n % 8) ∷ []) ≡ true
last_digit n = rw (is_digit (n % 8) (omega arith)) refl

pub octal_length : (k n : ℕ) → length (octal_digits k n) ≡ k
unfolding octal_digits
octal_length zero n = refl
octal_length (suc k) n =
    omega (arith, length-append (octal_digits k (n / 8)) ((48 + n % 8) ∷ []), octal_length k (n / 8))

pub octal_none : (text : List ℕ) (n : ℕ) → text ≡ text ++ octal_digits 0 n
unfolding octal_digits
octal_none text n = sym (append-nil text)

pub octal_next : (text : List ℕ) (k n : ℕ) → 0 < k → (text ++ octal_digits (k - 1) (n / 8)) ++ ((48 + n % 8) ∷ []) ≡ text ++ octal_digits k n
unfolding octal_digits
octal_next text zero n h = absurd (omega arith)
octal_next text (suc k) n h =
    let e : suc k - 1 ≡ k = omega arith in
    append_assoc text (octal_digits (suc k - 1) (n / 8)) ((48 + n % 8) ∷ [])
    ∙ ap (λ (j : ℕ). text ++ (octal_digits j (n / 8) ++ (48 + n % 8) ∷ [])) e

pub ruleset digits = (last_digit, octal_length, octal_none, octal_next)

pub ruleset lines = (octal_length, append_assoc)

pub ruleset indexes = (octal_length)
