-- What holds of each of the 64 codes, by a test of every one.
use Rattle.std.proofs.Common.{◌≡◌, ℕ, zero, suc, ◌<◌, ◌/◌, ◌%◌, ◌^◌, Bool, true, false, not, ◌||◌, ◌&&◌, ◌==◌, Option, Some, None, length, refl, ap, subst, arith, nat_lt, slice_index, List, [], ◌∷◌, inl, inr}
use Rattle.std.specs.List.{list_any, list_all}
use Rattle.std.specs.Option.{option_map}
use Rattle.std.proofs.lemmas.Bool.{cases_lt, ltb-true, eqb-true}
use Rattle.std.proofs.lemmas.Bool.Decides.{eqb_tells}
use Rattle.bcd48.specs.Characters.{printed, is_character, is_code, code_of, char_of}
use Rattle.bcd48.specs.Words.{characters_of}

-- the test passes at each number below n
passes : (ℕ → Bool) → ℕ → Bool
passes p zero = true
passes p (suc n) = p n && passes p n

both : (a b : Bool) → (a && b) ≡ true → (a ≡ true) × (b ≡ true)
both true b h = (refl, h)
both false b h = cc

at_each : (p : ℕ → Bool) (n k : ℕ) → passes p n ≡ true → k < n → p k ≡ true
unfolding passes
at_each p zero k h below = absurd (omega arith)
at_each p (suc n) k h below = elim (cases_lt k n) [
  | inl less ↦ at_each p n k (both (p n) (passes p n) h).1 less
  | inr last ↦ let same : n ≡ k = omega arith in subst (λ (j : ℕ). p j ≡ true) same (both (p n) (passes p n) h).0
]

only_if : (a b : Bool) → a ≡ true → (not a || b) ≡ true → b ≡ true
only_if true b e h = h
only_if false b e h = cc

-- the value is there, and is this
is_just : ℕ → Option ℕ → Bool
is_just x None = false
is_just x (Some y) = y == x

Some-from_is_just : (x : ℕ) (o : Option ℕ) → is_just x o ≡ true → o ≡ Some x
unfolding is_just
Some-from_is_just x None h = cc
Some-from_is_just x (Some y) h = ap Some (eqb-true y x h)

pub is_character-char_of : (c : ℕ) → c < 64 → is_character (char_of c) ≡ true
unfolding passes
is_character-char_of c below = at_each (λ c. is_character (char_of c)) 64 c refl below

char_of-code_of-char_of : (c : ℕ) → c < 64 → option_map char_of (code_of (char_of c)) ≡ Some (char_of c)
unfolding passes is_just
char_of-code_of-char_of c below =
    Some-from_is_just (char_of c) _ (at_each (λ c. is_just (char_of c) (option_map char_of (code_of (char_of c)))) 64 c refl below)

-- where a byte that the list has stands
place_of : (xs : List ℕ) (b : ℕ) → list_any (λ c. c == b) xs ≡ true → (k : ℕ) × (k < length xs) × (slice_index xs k ≡ b)
place_of [] b h = cc
place_of (x ∷ xs) b h = elim (eqb_tells x b) [
  | inl same ↦ (0, omega arith, same.1)
  | inr other ↦ let rest = place_of xs b (rw other.0 at h) in (suc rest.0, omega (arith, rest.1), rest.2)
]

pub char_of-code_of : (b : ℕ) → is_character b ≡ true → option_map char_of (code_of b) ≡ Some b
char_of-code_of b h =
    let found = place_of printed b h in
    let P : ℕ → Type 0 = λ x. option_map char_of (code_of x) ≡ Some x in
    subst P found.2 (char_of-code_of-char_of found.0 found.1)

pub code_of-char_of : (c : ℕ) → is_code c ≡ true → code_of (char_of c) ≡ Some c
unfolding passes is_just
code_of-char_of c h =
    let below : c < 64 = ltb-true c 64 (both (nat_lt c 64) _ h).0 in
    Some-from_is_just c _ (only_if (is_code c) _ h (at_each (λ k. not (is_code k) || is_just k (code_of (char_of k))) 64 c refl below))

pub is_character-ascii : (b : ℕ) → is_character b ≡ true → b < 128
unfolding passes
is_character-ascii b h =
    let found = place_of printed b h in
    let P : ℕ → Type 0 = λ x. x < 128 in
    subst P found.2 (ltb-true _ 128 (at_each (λ k. nat_lt (char_of k) 128) 64 found.0 refl found.1))

pub all_characters : (w : ℕ) → list_all is_character (characters_of w) ≡ true
all_characters w =
    let each : (c : ℕ) → is_character (char_of (c % 64)) ≡ true = λ c. is_character-char_of (c % 64) (omega arith) in
    rw (each (w / 64 ^ 5), each (w / 64 ^ 4), each (w / 64 ^ 3), each (w / 64 ^ 2), each (w / 64), each w) refl
