-- Lines of a console are typed as a card's are.
use Rattle.std.specs.Prelude.{Bool, true, false, ◌&&◌, nat_le, nat_eq, if◌then◌else◌, map, filter, not}
use Rattle.std.specs.List.{All, list_all}
use Rattle.std.proofs.Common.{◌≡◌, ℕ, zero, suc, ◌+◌, ◌-◌, ◌<◌, ◌≤◌, List, [], ◌∷◌, length, take, refl, sym, ◌∙◌, ap, subst, arith, inl, inr, length-take}
use Rattle.std.proofs.lemmas.Bool.{cases_Bool, false≢true}
use Rattle.std.proofs.lemmas.Bool.Decides.{nat_tests}
use Rattle.std.proofs.lemmas.List.Elements.{All-nil, All-cons, All-append}
use Rattle.bcd48.specs.Characters.{is_character}
use Rattle.ctss_types.specs.Line.{trimmed, before_rest}
use Rattle.ctss_types.specs.declared.script.Event.{Event}
use Rattle.ctss_types.specs.declared.script.Event.TheVariants.{Line, Quit}
use Rattle.console_wire.specs.Items.{character_of, half_of, line_of, items_at, piece_after, items_from}
use Rattle.console_wire.specs.Laws.{IsTypedItem}
use Rattle.console_wire.proofs.Halves.{trimmed_len, trimmed_all}

first_of : (a b : Bool) → (a && b) ≡ true → a ≡ true
first_of true b h = refl
first_of false b h = h

second_of : (a b : Bool) → (a && b) ≡ true → b ≡ true
second_of true b h = h
second_of false b h = absurd (false≢true h)

and_true : {a b : Bool} → a ≡ true → b ≡ true → (a && b) ≡ true
and_true {a} {b} h k = ap (λ (t : Bool). t && b) h ∙ k

-- a test of all numbers below one
all_below : ℕ → (ℕ → Bool) → Bool
all_below zero p = true
all_below (suc n) p = p n && all_below n p

below : (n : ℕ) (p : ℕ → Bool) (k : ℕ) → all_below n p ≡ true → k < n → p k ≡ true
unfolding all_below
below zero p k h lt = absurd (omega arith)
below (suc n) p k h lt = elim (cases_Bool (nat_eq k n)) [
  | inl q ↦
      let is : k ≡ n = grind (arith, nat_tests) in
      ap p is ∙ first_of _ _ h
  | inr q ↦
      let less : k < n = grind (arith, nat_tests) in
      below n p k (second_of _ _ h) less
]

-- the large letters are characters
letters : all_below 26 (λ k. is_character (k + 65)) ≡ true
unfolding all_below
letters = refl

large : (b : ℕ) → nat_le 97 b ≡ true → nat_le b 122 ≡ true → is_character (b - 32) ≡ true
large b low high =
    let less : b - 97 < 26 = grind (arith, nat_tests) in
    let is : (b - 97) + 65 ≡ b - 32 = grind (arith, nat_tests) in
    subst (λ (n : ℕ). is_character n ≡ true) is (below 26 (λ k. is_character (k + 65)) (b - 97) letters less)

known : (b : ℕ) → is_character (character_of b) ≡ true
known b = elim (cases_Bool (nat_le 97 b && nat_le b 122)) [
  | inl q ↦ subst (λ (t : Bool). is_character (if t then b - 32 else (if is_character b then b else 32)) ≡ true) (sym q) (large b (first_of _ _ q) (second_of _ _ q))
  | inr q ↦ subst (λ (t : Bool). is_character (if t then b - 32 else (if is_character b then b else 32)) ≡ true) (sym q) (elim (cases_Bool (is_character b)) [
    | inl is ↦ subst (λ (t : Bool). is_character (if t then b else 32) ≡ true) (sym is) is
    | inr other ↦ subst (λ (t : Bool). is_character (if t then b else 32) ≡ true) (sym other) refl
  ])
]

known_all : (n : ℕ) (bs : List ℕ) → list_all is_character (take n (map character_of bs)) ≡ true
known_all zero bs = refl
known_all (suc n) [] = refl
known_all (suc n) (b ∷ bs) = and_true (known b) (known_all n bs)

-- what is behind a line whose blanks are gone
rest_twice : (x : ℕ) (ys : List ℕ) → trimmed ys ≡ ys → trimmed (before_rest x ys) ≡ before_rest x ys
rest_twice x [] h = elim (cases_Bool (nat_eq x 32)) [
  | inl q ↦ rw q refl
  | inr q ↦ rw q (rw q refl)
]
rest_twice x (y ∷ ys) h = ap (before_rest x) h

pub trimmed_twice : (xs : List ℕ) → trimmed (trimmed xs) ≡ trimmed xs
trimmed_twice [] = refl
trimmed_twice (x ∷ xs) = rest_twice x (trimmed xs) (trimmed_twice xs)

few : (piece : List ℕ) → length (line_of piece) ≤ 84
few piece = omega (arith, trimmed_len (half_of piece), length-take 84 (map character_of (filter (λ b. not (nat_eq b 13)) piece)))

typed_line : (piece : List ℕ) → IsTypedItem (Line (line_of piece))
typed_line piece =
    (few piece, trimmed_all is_character (half_of piece) (known_all 84 (filter (λ b. not (nat_eq b 13)) piece)), trimmed_twice (half_of piece))

one : (e : Event) → IsTypedItem e → All IsTypedItem (e ∷ [])
one e h = All-cons IsTypedItem e [] h (All-nil IsTypedItem)

typed_at : (piece : List ℕ) (b : ℕ) → All IsTypedItem (items_at piece b)
typed_at piece b = elim (cases_Bool (nat_eq b 10)) [
  | inl q ↦ rw q (one (Line (line_of piece)) (typed_line piece))
  | inr q ↦ rw q (elim (nat_eq b 3) as (λ t. All IsTypedItem (if t then Quit ∷ [] else [])) [ true ↦ one Quit tt | false ↦ All-nil IsTypedItem ])
]

pub items_are_typed : (piece bytes : List ℕ) → All IsTypedItem (items_from piece bytes)
unfolding items_from
items_are_typed piece [] = All-nil IsTypedItem
items_are_typed piece (b ∷ bytes) = All-append IsTypedItem (items_at piece b) (items_from (piece_after piece b) bytes) (typed_at piece b) (items_are_typed (piece_after piece b) bytes)
