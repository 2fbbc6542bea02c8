-- What a word prints as, without the blanks behind it, is a line.
use Rattle.std.proofs.Common.{◌≡◌, ◌≤◌, ◌+◌, ℕ, Bool, true, false, cond, ◌&&◌, nat_eq, List, [], ◌∷◌, length, arith, refl}
use Rattle.std.specs.List.{list_all}
use Rattle.bcd48.specs.Characters.{is_character}
use Rattle.bcd48.proofs.Table.{all_characters}
use Rattle.bcd48.specs.Words.{characters_of}
use Rattle.ctss_types.specs.Line.{trimmed, before_rest}

both : (a b : Bool) → (a && b) ≡ true → (a ≡ true) × (b ≡ true)
both true b h = (refl, h)
both false b h = cc

before_length : (x : ℕ) (xs : List ℕ) → length (before_rest x xs) ≤ 1 + length xs
before_length x [] = elim (nat_eq x 32) as (λ b. length (cond b [] (x ∷ [])) ≤ 1) [ true ↦ omega arith | false ↦ omega arith ]
before_length x (y ∷ ys) = omega arith

pub trimmed_length : (xs : List ℕ) → length (trimmed xs) ≤ length xs
trimmed_length [] = omega arith
trimmed_length (x ∷ xs) = omega (arith, before_length x (trimmed xs), trimmed_length xs)

before_all : (p : ℕ → Bool) (x : ℕ) (xs : List ℕ) → p x ≡ true → list_all p xs ≡ true → list_all p (before_rest x xs) ≡ true
before_all p x [] h k = elim (nat_eq x 32) as (λ b. list_all p (cond b [] (x ∷ [])) ≡ true) [ true ↦ refl | false ↦ rw h refl ]
before_all p x (y ∷ ys) h k = rw (h, k) refl

pub trimmed_all : (p : ℕ → Bool) (xs : List ℕ) → list_all p xs ≡ true → list_all p (trimmed xs) ≡ true
trimmed_all p [] h = refl
trimmed_all p (x ∷ xs) h = let parts = both (p x) (list_all p xs) h in before_all p x (trimmed xs) parts.0 (trimmed_all p xs parts.1)

-- what a word prints as is short and of the 48
pub name_characters : (w : ℕ) → list_all is_character (trimmed (characters_of w)) ≡ true
name_characters w = trimmed_all is_character (characters_of w) (all_characters w)

pub name_length : (w : ℕ) → length (trimmed (characters_of w)) ≤ 6
name_length w = trimmed_length (characters_of w)

pub ruleset name_fits = (name_characters, name_length)
