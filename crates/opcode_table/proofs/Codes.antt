-- The table's rules, computed over all of it, and the round trip.
use Rattle.std.proofs.Common.{◌≡◌, ℕ, true, false, ◌+◌, ◌-◌, ◌*◌, ◌^◌, ◌<◌, ◌==◌, refl, arith, Some, None, Bool, Bor, List, [], ◌∷◌, map, find, IfSome, rules, ◌≢◌, ◌%◌, zero, suc, sym, subst, ap, ◌∙◌, if◌then◌else◌}
use Rattle.std.proofs.lemmas.Bool.Decides.{nat_tests}
use Rattle.word36.specs.Bits.{tag_of, address_of, decrement_of, prefix_of}
use Rattle.std.specs.Option.{option_map, option_copied}
use Rattle.std.specs.declared.option.Option.{Option}
use Rattle.std.proofs.lemmas.Bool.{eqb-true}
use Rattle.opcode_table.proofs.Arith.{prefix_number, no_prefix_number, code_numbered, prefix_numbered, group_numbered, regroup3, regroup4, flag_again, code_below, prefix_below, group_below}
use Rattle.opcode_table.specs.Table.{row_of, ops, row_with_number, number_of, class_of}
use Rattle.opcode_table.specs.Words.{number_in, fields_for, decoded, word_for, encoded, HasFields, IsCleanFor, IsClean, number_fits}
use Rattle.opcode_table.specs.declared.op.Op.{Op}
use Rattle.opcode_table.specs.declared.op.Op.TheVariants.{Cla}
use Rattle.opcode_table.specs.declared.op.Class.{Class}
use Rattle.opcode_table.specs.declared.op.Class.TheVariants.{Addressed, Direct, Tagged, Prefixed, Group}
use Rattle.opcode_table.specs.declared.op.Row.{Row}
use Rattle.opcode_table.specs.declared.op.Instr.{Instr}

-- each number finds its row
pub found : (op : Op) → row_with_number (number_of (row_of op)) ≡ Some (row_of op)
found Cla = refl
found _ = refl

-- each number is one of its class
pub fits : (op : Op) → number_fits (class_of op) (number_of (row_of op)) ≡ true
fits Cla = refl
fits _ = refl

pub own : (op : Op) → (row_of op).0 ≡ op
own Cla = refl
own _ = refl

-- the first of these rows that passes a test is the row of its operation
first_own : (q : Row → Bool) (os : List Op) (r : Row) → find q (map row_of os) ≡ Some r → (r ≡ row_of r.0) × (q r ≡ true)
first_own q [] r h = cc
first_own q (o ∷ os) r h = by_test (q (row_of o)) refl (first_own q os r) h
  where
    by_test : (b : Bool) → q (row_of o) ≡ b → (find q (map row_of os) ≡ Some r → (r ≡ row_of r.0) × (q r ≡ true))
        → (if b then Some (row_of o) else find q (map row_of os)) ≡ Some r → (r ≡ row_of r.0) × (q r ≡ true)
    by_test true is rest e =
        let same : row_of o ≡ r = cc in
        (subst (λ (x : Row). x ≡ row_of x.0) same (sym (ap row_of (own o))), subst (λ (x : Row). q x ≡ true) same is)
    by_test false is rest e = rest e

-- a row that a number finds is the row of its operation
pub own_row : (n : ℕ) (found : Option (Bor Row)) → option_copied found ≡ row_with_number n → IfSome found (λ row. row.now ≡ row_of row.now.0)
own_row n None h = search rules
own_row n (Some row) h = (first_own (λ (r : Row). r.1 == n) ops row.now (sym h)).0

prefix_fits : (r : Row) → r ≡ row_of r.0 → r.3 ≡ Prefixed → number_fits Prefixed r.1 ≡ true
prefix_fits r is class =
    let all : number_fits r.3 r.1 ≡ true = subst (λ (x : Row). number_fits x.3 x.1 ≡ true) (sym is) (fits r.0) in
    subst (λ (c : Class). number_fits c r.1 ≡ true) class all

-- and is none of a prefix, where the word has none
pub not_prefixed : (w : ℕ) (found : Option (Bor Row)) → w < 2 ^ 36 → prefix_of w % 4 ≡ 0 → option_copied found ≡ row_with_number (number_in w)
    → IfSome found (λ row. row.now.3 ≢ Prefixed)
not_prefixed w None below p h = search rules
not_prefixed w (Some row) below p h = λ class.
    let first = first_own (λ (r : Row). r.1 == number_in w) ops row.now (sym h) in
    no_prefix_number w row.now.1 below p (eqb-true _ _ first.1) (prefix_fits row.now first.0 class)

-- the instruction of a word that has a prefix
at_prefix : (w k : ℕ) → k ≡ prefix_of w → prefix_of w % 4 ≢ 0 → row_with_number (0o10000 + k) ≡ row_with_number (number_in w)
at_prefix w k e n = ap row_with_number (sym (prefix_number w k e n))

prefixed_fields : (c : Class) (w : ℕ) (r : Row) (o : Op) → r.0 ≡ o → c ≡ Prefixed
    → fields_for c w r ≡ record { op = o; flag = false; tag = tag_of w; address = address_of w; decrement = decrement_of w }
prefixed_fields c w r o e p = rw (p, e) refl

pub prefix_decoded : (w k : ℕ) (o : Op) → k ≡ prefix_of w → prefix_of w % 4 ≢ 0 → option_map row_of (Some o) ≡ row_with_number (0o10000 + k) → class_of o ≡ Prefixed
    → Some (record { op = o; flag = false; tag = tag_of w; address = address_of w; decrement = decrement_of w }) ≡ decoded w
prefix_decoded w k o e n named class =
    ap Some (sym (prefixed_fields (class_of o) w (row_of o) o (own o) class)) ∙ ap (option_map (λ (r : Row). fields_for r.3 w r)) (named ∙ at_prefix w k e n)

pub no_prefix_decoded : (w k : ℕ) → k ≡ prefix_of w → prefix_of w % 4 ≢ 0 → None ≡ row_with_number (0o10000 + k) → None ≡ decoded w
no_prefix_decoded w k e n named = ap (option_map (λ (r : Row). fields_for r.3 w r)) (named ∙ at_prefix w k e n)

pub no_prefix : (k : ℕ) → k < 8 → k ≢ 1 → k ≢ 2 → k ≢ 3 → k ≢ 6 → k ≢ 7 → None ≡ row_with_number (0o10000 + k)
no_prefix zero h a b c d e = refl
no_prefix (suc zero) h a b c d e = absurd (a refl)
no_prefix (suc (suc zero)) h a b c d e = absurd (b refl)
no_prefix (suc (suc (suc zero))) h a b c d e = absurd (c refl)
no_prefix (suc (suc (suc (suc zero)))) h a b c d e = refl
no_prefix (suc (suc (suc (suc (suc zero))))) h a b c d e = refl
no_prefix (suc (suc (suc (suc (suc (suc zero)))))) h a b c d e = absurd (d refl)
no_prefix (suc (suc (suc (suc (suc (suc (suc zero))))))) h a b c d e = absurd (e refl)
no_prefix (suc (suc (suc (suc (suc (suc (suc (suc k)))))))) h a b c d e = absurd (omega arith)

pub low_fits : (i : Instr) → HasFields i → (if i.flag then 3 * 2 ^ 22 else 0) + i.tag * 2 ^ 15 + i.address < 2 ^ 24
low_fits i h = grind (arith, nat_tests)

tagged : (k : ℕ) (i : Instr) → HasFields i → tag_of (word_for Addressed k i) ≡ i.tag
tagged k i h = grind (arith, nat_tests)

addressed : (k : ℕ) (i : Instr) → HasFields i → address_of (word_for Addressed k i) ≡ i.address
addressed k i h = grind (arith, nat_tests)

pub word_fits : (c : Class) (k : ℕ) (i : Instr) → HasFields i → number_fits c k ≡ true → word_for c k i < 2 ^ 36
word_fits Addressed k i h e = omega (arith, code_below k ((if i.flag then 3 * 2 ^ 22 else 0) + i.tag * 2 ^ 15 + i.address) (low_fits i h) e)
word_fits Direct k i h e = omega (arith, code_below k (i.tag * 2 ^ 15 + i.address) (omega arith) e)
word_fits Tagged k i h e = omega (arith, code_below k (i.tag * 2 ^ 15 + i.address) (omega arith) e)
word_fits Prefixed k i h e = omega (arith, prefix_below k (i.decrement * 2 ^ 18 + i.tag * 2 ^ 15 + i.address) (omega arith) e)
word_fits Group k i h e = group_below k i.tag h.tag e

pub numbered : (c : Class) (k : ℕ) (i : Instr) → HasFields i → number_fits c k ≡ true → number_in (word_for c k i) ≡ k
numbered Addressed k i h e =
    ap number_in (regroup4 (k * 2 ^ 24) (if i.flag then 3 * 2 ^ 22 else 0) (i.tag * 2 ^ 15) i.address) ∙ code_numbered k ((if i.flag then 3 * 2 ^ 22 else 0) + i.tag * 2 ^ 15 + i.address) (low_fits i h) e
numbered Direct k i h e =
    ap number_in (regroup3 (k * 2 ^ 24) (i.tag * 2 ^ 15) i.address) ∙ code_numbered k (i.tag * 2 ^ 15 + i.address) (omega arith) e
numbered Tagged k i h e =
    ap number_in (regroup3 (k * 2 ^ 24) (i.tag * 2 ^ 15) i.address) ∙ code_numbered k (i.tag * 2 ^ 15 + i.address) (omega arith) e
numbered Prefixed k i h e =
    ap number_in (regroup4 ((k - 0o10000) * 2 ^ 33) (i.decrement * 2 ^ 18) (i.tag * 2 ^ 15) i.address) ∙ prefix_numbered k (i.decrement * 2 ^ 18 + i.tag * 2 ^ 15 + i.address) (omega arith) e
numbered Group k i h e = group_numbered k i.tag h.tag e

-- an instruction by its fields
pub same : (o : Op) (f : Bool) (t a d : ℕ) (i : Instr) → o ≡ i.op → f ≡ i.flag → t ≡ i.tag → a ≡ i.address → d ≡ i.decrement →
    record { op = o; flag = f; tag = t; address = a; decrement = d } ≡ i
same o f t a d i p q r s u = rw (p, q, r, s, u) refl

pub fields_again : (c : Class) (k : ℕ) (r : Row) (i : Instr) → HasFields i → number_fits c k ≡ true → r.0 ≡ i.op → IsCleanFor c i
    → fields_for c (word_for c k i) r ≡ i
fields_again Addressed k r i h e o clean =
    same r.0 _ _ _ _ i o (flag_again k i.flag i.tag i.address h.tag h.address) (tagged k i h) (addressed k i h) (sym clean)
fields_again Direct k r i h e o clean = same r.0 _ _ _ _ i o (sym clean.0) (omega arith) (omega arith) (sym clean.1)
fields_again Tagged k r i h e o clean = same r.0 _ _ _ _ i o (sym clean.0) (omega arith) (omega arith) (sym clean.1)
fields_again Prefixed k r i h e o clean = same r.0 _ _ _ _ i o (sym clean) (omega arith) (omega arith) (omega arith)
fields_again Group k r i h e o clean = same r.0 _ _ _ _ i o (sym clean.0) (omega arith) (sym clean.1) (sym clean.2)

pub encoded_fits : (i : Instr) → HasFields i → encoded i < 2 ^ 36
encoded_fits i h = word_fits (class_of i.op) (number_of (row_of i.op)) i h (fits i.op)

pub decoded_again : (i : Instr) → HasFields i → IsClean i → decoded (encoded i) ≡ Some i
decoded_again i h clean =
    ap (option_map (λ (r : Row). fields_for r.3 (encoded i) r))
    (ap row_with_number (numbered (class_of i.op) (number_of (row_of i.op)) i h (fits i.op)) ∙ found i.op)
    ∙ ap Some (fields_again (class_of i.op) (number_of (row_of i.op)) (row_of i.op) i h (fits i.op) (own i.op) clean)
