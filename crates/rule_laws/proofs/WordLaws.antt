-- A word of the table and the word of what it is.
use Rattle.std.proofs.Common.{◌≡◌, ℕ, ◌+◌, ◌-◌, ◌*◌, ◌/◌, ◌%◌, ◌^◌, ◌<◌, Bool, true, false, not, ◌&&◌, if◌then◌else◌, nat_eq, nat_lt, nat_le, List, [], ◌∷◌, map, find, Option, Some, None, refl, sym, ap, subst, ◌∙◌, arith, eqb-true, ◌==◌}
use Rattle.std.specs.Option.{option_map}
use Rattle.std.proofs.lemmas.Bool.Decides.{nat_tests}
use Rattle.word36.specs.Bits.{tag_of, address_of, decrement_of, prefix_of}
use Rattle.opcode_table.specs.Table.{row_of, ops, row_with_number, number_of, class_of}
use Rattle.opcode_table.specs.Words.{number_in, fields_for, decoded, word_for, encoded, number_fits, HasFields, IsCleanFor, IsClean}
use Rattle.opcode_table.specs.declared.op.Op.{Op}
use Rattle.opcode_table.specs.declared.op.Class.{Class}
use Rattle.opcode_table.specs.declared.op.Class.TheVariants.{Addressed, Direct, Tagged, Prefixed, Group}
use Rattle.opcode_table.specs.declared.op.Row.{Row}
use Rattle.opcode_table.specs.declared.op.Instr.{Instr}
use Rattle.opcode_table.proofs.Codes.{found, fits, own, numbered, fields_again, same}
use Rattle.rule_laws.specs.Words.{zeros_in, has_flag, cleared, CodeIsBack}

-- a row that a number finds

-- the first row that passes a test is that of its operation
first_own : (q : Row → Bool) (os : List Op) (r : Row) → find q (map row_of os) ≡ Some r
    → (r ≡ row_of r.0) × (q r ≡ true)
first_own q [] r h = cc
first_own q (o ∷ os) r h = by_test (q (row_of o)) refl (first_own q os r) h
  where
    by_test : (b : Bool) → q (row_of o) ≡ b → (find q (map row_of os) ≡ Some r → (r ≡ row_of r.0) × (q r ≡ true))
        → (if b then Some (row_of o) else find q (map row_of os)) ≡ Some r → (r ≡ row_of r.0) × (q r ≡ true)
    by_test true is rest e =
        let same_row : row_of o ≡ r = cc in (
          subst (λ (x : Row). x ≡ row_of x.0) same_row (sym (ap row_of (own o))),
          subst (λ (x : Row). q x ≡ true) same_row is,
        )
    by_test false is rest e = rest e

-- a row of the table with the number that a word names
record IsRowOf (w : ℕ) (r : Row) : Type 0 where
  own_row : r ≡ row_of r.0
  number : r.1 ≡ number_in w
  number_is : number_fits r.3 r.1 ≡ true

row_is : (w : ℕ) (r : Row) → row_with_number (number_in w) ≡ Some r → IsRowOf w r
row_is w r h =
    let first = first_own (λ (x : Row). x.1 == number_in w) ops r h in
    record {
      own_row = first.0;
      number = eqb-true r.1 (number_in w) first.1;
      number_is =
          subst (λ (x : Row). number_fits x.3 x.1 ≡ true) (sym first.0) (fits r.0);
    }

-- a word by what names its operation, over plain numbers

-- a code that isn't 0760
code_is : (w k : ℕ) → w < 2 ^ 36 → k ≡ number_in w
    → nat_lt k 0o10000 && nat_eq (k / 2 ^ 9 % 4) 0 && not (nat_eq (k % 2 ^ 11) 0o760) ≡ true → k ≡ w / 2 ^ 24
code_is w k below is e = grind (arith, nat_tests)

prefix_is : (w k : ℕ) → w < 2 ^ 36 → k ≡ number_in w
    → nat_lt 0o10000 k && nat_lt k 0o10010 && not (nat_eq (k % 4) 0) ≡ true → k ≡ 0o10000 + prefix_of w
prefix_is w k below is e = grind (arith, nat_tests)

group_is : (w k : ℕ) → w < 2 ^ 36 → k ≡ number_in w → nat_le 0o20000 k && nat_lt k 0o220000 ≡ true
    → (k ≡ 0o20000 + w / 2 ^ 35 * 0o100000 + address_of w) × (w / 2 ^ 24 % 2 ^ 11 ≡ 0o760)
group_is w k below is e = (grind (arith, nat_tests), grind (arith, nat_tests))

-- the fields of a word, put together again

plain_back : (w k : ℕ) → k ≡ w / 2 ^ 24 → k * 2 ^ 24 + tag_of w * 2 ^ 15 + address_of w ≡ zeros_in 12 17 w
plain_back w k is = omega arith

flag_back : (w k : ℕ) (b : Bool) → k ≡ w / 2 ^ 24 → nat_eq (w / 2 ^ 22 % 4) 3 ≡ b
    → k * 2 ^ 24 + (if b then 3 * 2 ^ 22 else 0) + tag_of w * 2 ^ 15 + address_of w
    ≡ (if b then zeros_in 14 17 w else zeros_in 12 17 w)
flag_back w k true is flag = let both : w / 2 ^ 22 % 4 ≡ 3 = eqb-true (w / 2 ^ 22 % 4) 3 flag in omega arith
flag_back w k false is flag = omega arith

prefix_back : (w k : ℕ) → w < 2 ^ 36 → k ≡ 0o10000 + prefix_of w
    → (k - 0o10000) * 2 ^ 33 + decrement_of w * 2 ^ 18 + tag_of w * 2 ^ 15 + address_of w ≡ w
prefix_back w k below is = omega arith

group_back : (w k : ℕ) → w < 2 ^ 36 → k ≡ 0o20000 + w / 2 ^ 35 * 0o100000 + address_of w → w / 2 ^ 24 % 2 ^ 11 ≡ 0o760
    → (k - 0o20000) / 2 ^ 15 * 2 ^ 35 + 0o760 * 2 ^ 24 + tag_of w * 2 ^ 15 + (k - 0o20000) % 2 ^ 15 ≡ zeros_in 12 17 w
group_back w k below is code = omega arith

word_back : (c : Class) (w : ℕ) (r : Row) → w < 2 ^ 36 → r.1 ≡ number_in w → number_fits c r.1 ≡ true
    → word_for c r.1 (fields_for c w r) ≡ cleared c w
word_back Addressed w r below is e = flag_back w r.1 (has_flag w) (code_is w r.1 below is e) refl
word_back Direct w r below is e = plain_back w r.1 (code_is w r.1 below is e)
word_back Tagged w r below is e = plain_back w r.1 (code_is w r.1 below is e)
word_back Prefixed w r below is e = prefix_back w r.1 below (prefix_is w r.1 below is e)
word_back Group w r below is e = let g = group_is w r.1 below is e in group_back w r.1 below g.0 g.1

-- what a word is

op_is : (c : Class) (w : ℕ) (r : Row) → (fields_for c w r).op ≡ r.0
op_is Addressed w r = refl
op_is Direct w r = refl
op_is Tagged w r = refl
op_is Prefixed w r = refl
op_is Group w r = refl

fields_fit : (c : Class) (w : ℕ) (r : Row) → HasFields (fields_for c w r)
fields_fit Addressed w r = record { tag = omega arith; address = omega arith; decrement = omega arith }
fields_fit Direct w r = record { tag = omega arith; address = omega arith; decrement = omega arith }
fields_fit Tagged w r = record { tag = omega arith; address = omega arith; decrement = omega arith }
fields_fit Prefixed w r = record { tag = omega arith; address = omega arith; decrement = omega arith }
fields_fit Group w r = record { tag = omega arith; address = omega arith; decrement = omega arith }

fields_clean : (c : Class) (w : ℕ) (r : Row) → IsCleanFor c (fields_for c w r)
fields_clean Addressed w r = refl
fields_clean Direct w r = (refl, refl)
fields_clean Tagged w r = (refl, refl)
fields_clean Prefixed w r = refl
fields_clean Group w r = (refl, refl, refl)

abbrev IsBack : ℕ → Instr → Type 0
IsBack w i = HasFields i × IsClean i × (encoded i ≡ cleared (class_of i.op) w)

-- the word of an instruction of a row
coded : (w : ℕ) (r : Row) (i : Instr) → i.op ≡ r.0 → r ≡ row_of r.0 → encoded i ≡ word_for r.3 r.1 i
coded w r i op is = let row : row_of i.op ≡ r = ap row_of op ∙ sym is in ap (λ (x : Row). word_for x.3 x.1 i) row

row_back : (w : ℕ) (r : Row) → w < 2 ^ 36 → IsRowOf w r → IsBack w (fields_for r.3 w r)
row_back w r below h =
    let i : Instr = fields_for r.3 w r in
    let class : r.3 ≡ class_of i.op = ap (λ (x : Row). x.3) h.own_row ∙ ap class_of (sym (op_is r.3 w r)) in (
      fields_fit r.3 w r,
      subst (λ (c : Class). IsCleanFor c i) class (fields_clean r.3 w r),
      coded w r i (op_is r.3 w r) h.own_row ∙ word_back r.3 w r below h.number h.number_is
          ∙ ap (λ (c : Class). cleared c w) class,
    )

there : (w : ℕ) (i : Instr) → w < 2 ^ 36 → (o : Option Row) → row_with_number (number_in w) ≡ o
    → option_map (λ (r : Row). fields_for r.3 w r) o ≡ Some i → IsBack w i
there w i below None found e = cc
there w i below (Some r) found e = let is : fields_for r.3 w r ≡ i = cc in
    subst (IsBack w) is (row_back w r below (row_is w r found))

-- a word whose cleared form is that of an instruction

-- what such a word keeps
record Keeps (v w : ℕ) : Type 0 where
  code : v / 2 ^ 24 ≡ w / 2 ^ 24
  tag : tag_of v ≡ tag_of w
  address : address_of v ≡ address_of w

itself : (w : ℕ) → Keeps w w
itself w = record { code = refl; tag = refl; address = refl }

without_both : (w : ℕ) → Keeps (zeros_in 12 17 w) w
without_both w = record { code = omega arith; tag = omega arith; address = omega arith }

without_flag : (w : ℕ) → Keeps (zeros_in 14 17 w) w
without_flag w = record { code = omega arith; tag = omega arith; address = omega arith }

keeps : (c : Class) (w : ℕ) → Keeps (cleared c w) w
keeps Addressed w = by_flag (has_flag w)
  where
    by_flag : (b : Bool) → Keeps (if b then zeros_in 14 17 w else zeros_in 12 17 w) w
    by_flag true = without_flag w
    by_flag false = without_both w
keeps Direct w = without_both w
keeps Tagged w = without_both w
keeps Prefixed w = itself w
keeps Group w = without_both w

-- a shift more
shift_9 : (w : ℕ) → w / 2 ^ 33 ≡ w / 2 ^ 24 / 2 ^ 9
shift_9 w = omega arith

shift_11 : (w : ℕ) → w / 2 ^ 35 ≡ w / 2 ^ 24 / 2 ^ 11
shift_11 w = omega arith

-- the number by its parts
number_by : (p c s a q d t b : ℕ) → p ≡ q → c ≡ d → s ≡ t → a ≡ b
    → (if nat_eq (p % 4) 0 then (if nat_eq (c % 2 ^ 11) 0o760 then 0o20000 + s * 0o100000 + a else c) else 0o10000 + p)
    ≡ (if nat_eq (q % 4) 0 then (if nat_eq (d % 2 ^ 11) 0o760 then 0o20000 + t * 0o100000 + b else d) else 0o10000 + q)
number_by p c s a q d t b e f g h = rw (e, f, g, h) refl

same_number : (v w : ℕ) → Keeps v w → number_in v ≡ number_in w
same_number v w k =
    number_by (prefix_of v) (v / 2 ^ 24) (v / 2 ^ 35) (address_of v) (prefix_of w) (w / 2 ^ 24) (w / 2 ^ 35)
    (address_of w)
    (shift_9 v ∙ ap (λ (n : ℕ). n / 2 ^ 9) k.code ∙ sym (shift_9 w)) k.code
    (shift_11 v ∙ ap (λ (n : ℕ). n / 2 ^ 11) k.code ∙ sym (shift_11 w)) k.address

-- the flag stays
flag_kept : (w : ℕ) → zeros_in 14 17 w / 2 ^ 22 ≡ w / 2 ^ 22
flag_kept w = omega arith

no_flag : (w : ℕ) → zeros_in 12 17 w / 2 ^ 22 % 4 ≡ 0
no_flag w = omega arith

same_flag : (w : ℕ) (b : Bool) → has_flag w ≡ b
    → has_flag (if b then zeros_in 14 17 w else zeros_in 12 17 w) ≡ has_flag w
same_flag w true e = ap (λ (n : ℕ). nat_eq (n % 4) 3) (flag_kept w)
same_flag w false e = ap (λ (n : ℕ). nat_eq n 3) (no_flag w) ∙ sym e

same_fields : (c : Class) (w : ℕ) (r : Row) → fields_for c (cleared c w) r ≡ fields_for c w r
same_fields Addressed w r =
    let k = keeps Addressed w in
    same r.0 (has_flag (cleared Addressed w)) (tag_of (cleared Addressed w)) (address_of (cleared Addressed w)) 0
    (fields_for Addressed w r) refl (same_flag w (has_flag w) refl) k.tag k.address refl
same_fields Direct w r =
    let k = keeps Direct w in
    same r.0 false (tag_of (cleared Direct w)) (address_of (cleared Direct w)) 0
    (fields_for Direct w r) refl refl k.tag k.address refl
same_fields Tagged w r =
    let k = keeps Tagged w in
    same r.0 false (tag_of (cleared Tagged w)) (address_of (cleared Tagged w)) 0
    (fields_for Tagged w r) refl refl k.tag k.address refl
same_fields Prefixed w r = refl
same_fields Group w r =
    let k = keeps Group w in
    same r.0 false (tag_of (cleared Group w)) 0 0 (fields_for Group w r) refl refl k.tag refl refl

back : (w : ℕ) (i : Instr) → w < 2 ^ 36 → IsBack w i → decoded w ≡ Some i
back w i below h =
    let c : Class = class_of i.op in
    let r : Row = row_of i.op in
    let number : number_in w ≡ number_of r = sym (same_number (cleared c w) w (keeps c w)) ∙ ap number_in (sym h.2)
    ∙ numbered c (number_of r) i h.0 (fits i.op) in
    let fields : fields_for c w r ≡ i = sym (same_fields c w r) ∙ ap (λ (v : ℕ). fields_for c v r) (sym h.2)
    ∙ fields_again c (number_of r) r i h.0 (fits i.op) (own i.op) h.1 in
    ap (option_map (λ (x : Row). fields_for x.3 w x)) (ap row_with_number number ∙ found i.op) ∙ ap Some fields

pub code_is_back : CodeIsBack
code_is_back w i below = (
  λ (e : decoded w ≡ Some i). there w i below (row_with_number (number_in w)) refl e,
  λ (h : IsBack w i). back w i below h,
)
