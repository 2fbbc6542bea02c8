-- A half line, and one byte more.
use Rattle.std.specs.Prelude.{Bool, true, false, not, ◌&&◌, nat_lt, nat_eq, if◌then◌else◌, map, filter}
use Rattle.std.specs.List.{list_all}
use Rattle.std.proofs.Common.{◌≡◌, ◌≢◌, ℕ, suc, ◌<◌, ◌≤◌, List, [], ◌∷◌, ◌++◌, length, take, refl, sym, ◌∙◌, ap, arith, inl, inr, length-append, ltb-true, length-take-le}
use Rattle.std.proofs.lemmas.Bool.{cases_Bool, false≢true}
use Rattle.std.proofs.lemmas.Bool.Decides.{nat_tests}
use Rattle.std.proofs.lemmas.List.{take_all, take-append-le, map-append}
use Rattle.ctss_types.specs.Line.{trimmed, before_rest}
use Rattle.console_wire.specs.Items.{character_of, half_of, piece_after}
use Rattle.console_wire.specs.Half.{with_character}

rest_len : (x : ℕ) (ys : List ℕ) → length (before_rest x ys) ≤ suc (length ys)
rest_len x [] = elim (nat_eq x 32) as (λ b. length (if b then [] else x ∷ []) ≤ 1) [ true ↦ omega arith | false ↦ omega arith ]
rest_len x (y ∷ ys) = omega arith

pub trimmed_len : (xs : List ℕ) → length (trimmed xs) ≤ length xs
trimmed_len [] = omega arith
trimmed_len (x ∷ xs) = omega (arith, rest_len x (trimmed xs), trimmed_len xs)

rest_all : (p : ℕ → Bool) (x : ℕ) (ys : List ℕ) → p x ≡ true → list_all p ys ≡ true → list_all p (before_rest x ys) ≡ true
rest_all p x [] px h = elim (nat_eq x 32) as (λ b. list_all p (if b then [] else x ∷ []) ≡ true) [ true ↦ refl | false ↦ rw px refl ]
rest_all p x (y ∷ ys) px h = rw px h

first_of : (a b : Bool) → (a && b) ≡ true → a ≡ true
first_of true b h = refl
first_of false b h = h

second_of : (a b : Bool) → (a && b) ≡ true → b ≡ true
second_of true b h = h
second_of false b h = absurd (false≢true h)

pub trimmed_all : (p : ℕ → Bool) (xs : List ℕ) → list_all p xs ≡ true → list_all p (trimmed xs) ≡ true
trimmed_all p [] h = refl
trimmed_all p (x ∷ xs) h = rest_all p x (trimmed xs) (first_of _ _ h) (trimmed_all p xs (second_of _ _ h))

leb_of : (n k : ℕ) → nat_lt k n ≡ false → n ≤ k
leb_of n k q = grind (arith, nat_tests)

nat_lt-self : (n : ℕ) → nat_lt n n ≡ false
nat_lt-self n = grind (arith, nat_tests)

not_13 : (b : ℕ) → b ≢ 13 → not (nat_eq b 13) ≡ true
not_13 b h = grind (arith, nat_tests)

-- the front of a list with one more at its end
take_one : {X : Type 0} (n : ℕ) (xs : List X) (y : X) → take n (xs ++ y ∷ []) ≡ (if nat_lt (length (take n xs)) n then take n xs ++ y ∷ [] else take n xs)
take_one n xs y =
    elim (cases_Bool (nat_lt (length xs) n)) [
      | inl q ↦
          let few : length xs < n = ltb-true (length xs) n q in
          let whole : take n xs ≡ xs = take_all n xs (omega arith) in
          rw (whole, q) (take_all n (xs ++ y ∷ []) (simp length-append (omega arith)))
      | inr q ↦
          let many : n ≤ length xs = leb_of n (length xs) q in
          let len : length (take n xs) ≡ n = length-take-le n xs many in
          rw (len, nat_lt-self n) (take-append-le n xs (y ∷ []) many)
    ]

filter_one : (p : ℕ → Bool) (xs : List ℕ) (y : ℕ) → p y ≡ true → filter p (xs ++ y ∷ []) ≡ filter p xs ++ y ∷ []
filter_one p [] y h = rw h refl
filter_one p (x ∷ xs) y h = elim (p x) as (λ b. (if b then x ∷ filter p (xs ++ y ∷ []) else filter p (xs ++ y ∷ [])) ≡ (if b then x ∷ filter p xs else filter p xs) ++ y ∷ []) [
  | true ↦ ap (λ (l : List ℕ). x ∷ l) (filter_one p xs y h)
  | false ↦ filter_one p xs y h
]

filter_none : (p : ℕ → Bool) (xs : List ℕ) (y : ℕ) → p y ≡ false → filter p (xs ++ y ∷ []) ≡ filter p xs
filter_none p [] y h = rw h refl
filter_none p (x ∷ xs) y h = elim (p x) as (λ b. (if b then x ∷ filter p (xs ++ y ∷ []) else filter p (xs ++ y ∷ [])) ≡ (if b then x ∷ filter p xs else filter p xs)) [
  | true ↦ ap (λ (l : List ℕ). x ∷ l) (filter_none p xs y h)
  | false ↦ filter_none p xs y h
]

pub half_more : (piece half : List ℕ) (b : ℕ) → b ≢ 13 → half ≡ half_of piece → half_of (piece ++ b ∷ []) ≡ with_character half (character_of b)
half_more piece half b h is =
    ap (λ (l : List ℕ). take 84 (map character_of l)) (filter_one (λ x. not (nat_eq x 13)) piece b (not_13 b h))
    ∙ ap (take 84) (map-append character_of (filter (λ x. not (nat_eq x 13)) piece) (b ∷ []))
    ∙ take_one 84 (map character_of (filter (λ x. not (nat_eq x 13)) piece)) (character_of b)
    ∙ ap (λ (l : List ℕ). with_character l (character_of b)) (sym is)

pub half_same : (piece : List ℕ) → half_of (piece ++ 13 ∷ []) ≡ half_of piece
half_same piece = ap (λ (l : List ℕ). take 84 (map character_of l)) (filter_none (λ b. not (nat_eq b 13)) piece 13 refl)

pub goes_on : (piece half : List ℕ) (b : ℕ) → b ≢ 10 → b ≢ 3 → b ≢ 13 → half ≡ half_of piece → with_character half (character_of b) ≡ half_of (piece_after piece b)
goes_on piece half b lf quit cr is =
    let no_lf : nat_eq b 10 ≡ false = grind (arith, nat_tests) in
    let no_quit : nat_eq b 3 ≡ false = grind (arith, nat_tests) in
    sym (half_more piece half b cr is) ∙ ap half_of (sym (ap (λ (t : Bool). if t then [] else (if nat_eq b 3 then [] else piece ++ b ∷ [])) no_lf ∙ ap (λ (t : Bool). if t then [] else piece ++ b ∷ []) no_quit))
