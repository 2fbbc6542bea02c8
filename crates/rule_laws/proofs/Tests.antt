-- The tests of a card's fault.
use Rattle.std.proofs.Common.{◌≡◌, ℕ, ◌+◌, ◌≤◌, Bool, true, false, not, ◌&&◌, ◌||◌, if◌then◌else◌, nat_eq, nat_lt, List, length, Option, Some, None, refl, arith, ltb-false}
use Rattle.std.proofs.lemmas.Bool.{or_parts}
use Rattle.fap_model.specs.Cards.{is_bad, has_bad_symbol, flag_of, symbol_of, symbol_text}
use Rattle.fap_model.specs.declared.types.Operation.{Operation}
use Rattle.fap_model.specs.Statements.{Field}
use Rattle.fap_model.specs.Places.{Known, max_place, count_of, takes_flag, is_equ, field_is_wrong, field_is_defined, is_defined, symbol_is_known, fault_with}

abbrev pub is_misshapen : Operation → List ℕ → Bool
is_misshapen o card =
    is_bad card || (has_bad_symbol card || ((flag_of card && not (takes_flag o)) || (is_equ o && nat_eq (length (symbol_text card)) 0)))

abbrev pub least : Bool → Bool → Bool → Bool → Bool → ℕ
least a b c d e = if a then 2 else (if b then 2 else (if c then 3 else (if d then 4 else (if e then 5 else 0))))

pub record AllPassed (a b c d e : Bool) : Type 0 where
  pub shape : a ≡ false
  pub right : b ≡ false
  pub defined : c ≡ false
  pub fresh : d ≡ false
  pub near : e ≡ false

all_passed : (a b c d e : Bool) → least a b c d e ≡ 0 → AllPassed a b c d e
all_passed true b c d e h = absurd (omega (arith, h))
all_passed false true c d e h = absurd (omega (arith, h))
all_passed false false true d e h = absurd (omega (arith, h))
all_passed false false false true e h = absurd (omega (arith, h))
all_passed false false false false true h = absurd (omega (arith, h))
all_passed false false false false false h = record { shape = refl; right = refl; defined = refl; fresh = refl; near = refl }

pub passed : (a b c d e : Bool) → AllPassed a b c d e → least a b c d e ≡ 0
passed a b c d e h = rw (h.shape, h.right, h.defined, h.fresh, h.near) refl

not_false : (b : Bool) → not b ≡ false → b ≡ true
not_false true h = refl
not_false false h = absurd cc

-- a card without a fault
pub record IsSoundCard (names : List (ℕ × ℕ)) (more : ℕ) (wrong : Bool) (k : Known) (o : Operation) (card : List ℕ) (f : Option Field) : Type 0 where
  pub field : Field
  pub field_is : f ≡ Some field
  pub shape : is_misshapen o card ≡ false
  pub right : wrong ≡ false
  pub light_tag : field_is_wrong names k f ≡ false
  pub defined : is_defined names field ≡ true
  pub fresh : symbol_is_known k (symbol_of card) ≡ false
  pub room : k.place + count_of o k f + more ≤ max_place

pub sound_card : (names : List (ℕ × ℕ)) (more : ℕ) (wrong : Bool) (k : Known) (o : Operation) (card : List ℕ) (f : Option Field)
    → fault_with names more wrong k o card f ≡ 0 → IsSoundCard names more wrong k o card f
sound_card names more wrong k o card None h = absurd (none_wrong (is_misshapen o card) h)
  where
    none_wrong : (b : Bool) → least b true (not (field_is_defined names None)) (symbol_is_known k (symbol_of card))
        (nat_lt max_place (k.place + count_of o k None + more)) ≡ 0 → ⊥
    none_wrong true e = omega (arith, e)
    none_wrong false e = omega (arith, e)
sound_card names more wrong k o card (Some f) h =
    let all = all_passed (is_misshapen o card) (field_is_wrong names k (Some f) || wrong) (not (field_is_defined names (Some f)))
    (symbol_is_known k (symbol_of card)) (nat_lt max_place (k.place + count_of o k (Some f) + more)) h in
    let two = or_parts (field_is_wrong names k (Some f)) wrong all.right in
    record {
      field = f;
      field_is = refl;
      shape = all.shape;
      right = two.1;
      light_tag = two.0;
      defined = not_false (is_defined names f) all.defined;
      fresh = all.fresh;
      room = ltb-false max_place (k.place + count_of o k (Some f) + more) all.near;
    }
