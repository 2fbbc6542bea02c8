-- The index from words to rows, compared place by place with the list of rows.
use Rattle.std.proofs.Common.{◌≡◌, ℕ, zero, suc, ◌+◌, ◌-◌, ◌*◌, ◌/◌, ◌%◌, ◌^◌, ◌<◌, ◌≤◌, Bool, true, false, ◌&&◌, ◌==◌, nat_eq, nat_lt, List, [], ◌∷◌, map, length, refl, sym, ap, ◌∙◌, arith, slice_get, slice_index_or, ◌||◌, ◌≢◌, bit_and, Bor, Some, None}
use Rattle.std.specs.List.{position_or_len, list_all}
use Rattle.std.specs.declared.option.Option.{Option}
use Rattle.std.proofs.lemmas.Bool.{and_parts, eqb-true}
use Rattle.std.proofs.lemmas.Bool.Decides.{nat_tests}
use Rattle.std.proofs.lemmas.List.Folds.{find_at}
use Rattle.std.proofs.lemmas.Nat.{and_mask}
use Rattle.std.proofs.lemmas.Option.{slice_get_past, slice_get_read}
use Rattle.std.specs.Option.{option_copied}
use Rattle.std.specs.Slice.{IsItemAt}
use Rattle.word36.specs.Bits.{prefix_of, address_of}
use Rattle.opcode_table.specs.Words.{number_in}
use Rattle.opcode_table.specs.Table.{row_of, ops, row_with_number, place_with_number}
use Rattle.opcode_table.specs.declared.op.Row.{Row}
use Rattle.opcode_table.specs.declared.index.TheConstants.{CODES, GROUP}

pub row_there : (n : ℕ) → slice_get (map row_of ops) (place_with_number n) ≡ row_with_number n
unfolding place_with_number
row_there n = sym (find_at (λ (r : Row). r.1 == n) (map row_of ops))

-- whether the places from the i-th on are those of their numbers
unfoldable follows : (ℕ → ℕ) → ℕ → List ℕ → Bool
follows number i [] = true
follows number i (v ∷ vs) = nat_eq v (place_with_number (number i)) && follows number (suc i) vs

-- the numbers of the places
abbrev group_number : ℕ → ℕ
group_number i = 0o20000 + i / 2 ^ 4 * 0o100000 + i % 2 ^ 4

codes_follow : follows (λ i. i) 0 CODES ≡ true
unfolding follows place_with_number
codes_follow = refl

follows_at : (number : ℕ → ℕ) (i : ℕ) (vs : List ℕ) (j k : ℕ) → follows number i vs ≡ true → j < length vs → k ≡ i + j
    → slice_index_or vs j 0 ≡ place_with_number (number k)
unfolding follows
follows_at number i [] j k e below at = absurd (omega arith)
follows_at number i (v ∷ vs) zero k e below at =
    let parts = and_parts (nat_eq v (place_with_number (number i))) (follows number (suc i) vs) e in
    let first : i ≡ k = omega arith in
    eqb-true v _ parts.0 ∙ ap (λ m. place_with_number (number m)) first
follows_at number i (v ∷ vs) (suc j) k e below at =
    let parts = and_parts (nat_eq v (place_with_number (number i))) (follows number (suc i) vs) e in
    follows_at number (suc i) vs j k parts.1 (omega arith) (omega arith)

group_follows : follows group_number 0 GROUP ≡ true
unfolding follows place_with_number
group_follows = refl

code_place : (n : ℕ) → n < 2560 → slice_index_or CODES n 0 ≡ place_with_number n
code_place n below = follows_at (λ i. i) 0 CODES n n codes_follow below (omega arith)

group_place : (p n : ℕ) → p < 32 → n ≡ group_number p → slice_index_or GROUP p 0 ≡ place_with_number n
group_place p n below e = follows_at group_number 0 GROUP p p group_follows below (omega arith) ∙ ap place_with_number (sym e)

-- beyond the index no row has the number
small_address : Row → Bool
small_address r = nat_lt r.1 0o20000 || nat_lt ((r.1 - 0o20000) % 2 ^ 15) 16

past : (p q : Row → Bool) (rs : List Row)
    → list_all p rs ≡ true → ((r : Row) → p r ≡ true → q r ≡ false) → position_or_len q rs ≡ length rs
past p q [] e f = refl
past p q (r ∷ rs) e f =
    let parts = and_parts (p r) (list_all p rs) e in
    let rest = past p q rs parts.1 f in
    rw (f r parts.0) (omega (arith, rest))

other : (r : Row) (n : ℕ) → 0o20000 ≤ n → 16 ≤ (n - 0o20000) % 2 ^ 15 → small_address r ≡ true → (r.1 == n) ≡ false
unfolding small_address
other r n low large e = grind (arith, nat_tests)

none_past : (n : ℕ) → 0o20000 ≤ n → 16 ≤ (n - 0o20000) % 2 ^ 15 → 110 ≡ place_with_number n
unfolding place_with_number small_address
none_past n low large = sym (past small_address (λ r. r.1 == n) (map row_of ops) refl (λ r e. other r n low large e))

-- by the tests of a word
number_code : (w : ℕ) → prefix_of w % 4 ≡ 0 → w / 2 ^ 24 % 2 ^ 11 ≢ 0o760 → number_in w ≡ w / 2 ^ 24
number_code w e n = grind (arith, nat_tests)

number_group : (w : ℕ) → prefix_of w % 4 ≡ 0 → w / 2 ^ 24 % 2 ^ 11 ≡ 0o760 → number_in w ≡ 0o20000 + w / 2 ^ 35 * 0o100000 + address_of w
number_group w e n = grind (arith, nat_tests)

-- what the code reads, in its words
pub code_returns : (w bits : ℕ) → bits ≡ w → bits < 2 ^ 36 → prefix_of w % 4 ≡ 0
    → slice_index_or CODES (bits / 2 ^ 24) 0 ≡ place_with_number (w / 2 ^ 24)
code_returns w bits e below p = code_place (bits / 2 ^ 24) (omega arith) ∙ ap (λ b. place_with_number (b / 2 ^ 24)) e

pub group_returns : (w bits address : ℕ) → bits ≡ w → bits < 2 ^ 36 → prefix_of w % 4 ≡ 0 → bit_and (bits / 2 ^ 24) 0o3777 ≡ 0o760
    → address ≡ address_of w → address < 16 → slice_index_or GROUP (bits / 2 ^ 24 / 2 ^ 11 * 2 ^ 4 % 2 ^ 64 + address) 0 ≡ place_with_number (number_in w)
group_returns w bits address b below p n a small =
    let eleven = and_mask (bits / 2 ^ 24) 11 in
    let number = number_group w p (omega (arith, eleven, b, n)) in
    group_place (bits / 2 ^ 24 / 2 ^ 11 * 2 ^ 4 % 2 ^ 64 + address) (number_in w) (omega arith) (omega (arith, number))

pub past_returns : (w bits address : ℕ) → bits ≡ w → prefix_of w % 4 ≡ 0 → bit_and (bits / 2 ^ 24) 0o3777 ≡ 0o760
    → address ≡ address_of w → 16 ≤ address → 110 ≡ place_with_number (number_in w)
past_returns w bits address b p n a large =
    let eleven = and_mask (bits / 2 ^ 24) 11 in
    let number = number_group w p (omega (arith, eleven, b, n)) in
    none_past (number_in w) (omega (arith, number)) (omega (arith, number, a))

-- code 0760 is no number of a row
no_row : (w : ℕ) → w < 2 ^ 36 → prefix_of w % 4 ≡ 0 → w / 2 ^ 24 % 2 ^ 11 ≡ 0o760 → row_with_number (w / 2 ^ 24) ≡ None
no_row w below p n = by_sign (w / 2 ^ 35) refl
  where
    by_sign : (k : ℕ) → k ≡ w / 2 ^ 35 → row_with_number (w / 2 ^ 24) ≡ None
    by_sign zero e = let plus : w / 2 ^ 24 ≡ 0o760 = omega arith in ap row_with_number plus
    by_sign (suc zero) e = let minus : w / 2 ^ 24 ≡ 0o4760 = omega arith in ap row_with_number minus
    by_sign (suc (suc k)) e = absurd (omega arith)

-- the row of a word's code, and else that of its group
pub coded : (w : ℕ) (r : Row) → w < 2 ^ 36 → prefix_of w % 4 ≡ 0 → Some r ≡ row_with_number (w / 2 ^ 24) → Some r ≡ row_with_number (number_in w)
coded w r below p found = by_code (nat_eq (w / 2 ^ 24 % 2 ^ 11) 0o760) refl
  where
    by_code : (b : Bool) → nat_eq (w / 2 ^ 24 % 2 ^ 11) 0o760 ≡ b → Some r ≡ row_with_number (number_in w)
    by_code true e = let none = no_row w below p (eqb-true _ _ e) in cc
    by_code false e = let number = number_code w p (grind (arith, nat_tests, e)) in found ∙ ap row_with_number (sym number)

pub grouped : (w place : ℕ) → w < 2 ^ 36 → prefix_of w % 4 ≡ 0 → None ≡ row_with_number (w / 2 ^ 24) → (w / 2 ^ 24 % 2 ^ 11 ≡ 0o760 → place ≡ place_with_number (number_in w))
    → (w / 2 ^ 24 % 2 ^ 11 ≢ 0o760 → place ≡ 110) → slice_get (map row_of ops) place ≡ row_with_number (number_in w)
grouped w place below p none group other = by_code (nat_eq (w / 2 ^ 24 % 2 ^ 11) 0o760) refl
  where
    by_code : (b : Bool) → nat_eq (w / 2 ^ 24 % 2 ^ 11) 0o760 ≡ b → slice_get (map row_of ops) place ≡ row_with_number (number_in w)
    by_code true e = ap (slice_get (map row_of ops)) (group (eqb-true _ _ e)) ∙ row_there (number_in w)
    by_code false e =
        let differs : w / 2 ^ 24 % 2 ^ 11 ≢ 0o760 = grind (arith, nat_tests, e) in
        ap (slice_get (map row_of ops)) (other differs) ∙ none ∙ ap row_with_number (sym (number_code w p differs))

pub row_in_place : (xs : List Row) (i : ℕ) (r : Option (Bor Row)) → IsItemAt xs i r → option_copied r ≡ slice_get xs i
row_in_place xs i None h = sym (slice_get_past xs i h.3)
row_in_place xs i (Some x) h = sym (slice_get_read xs (length xs) i x.now refl h.3.0 h.1)
