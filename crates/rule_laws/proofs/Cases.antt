-- A card of a module without a fault: a comment, one of REL, ENTRY and EXTERN, or one with an operation.
use Rattle.std.proofs.Common.{◌≡◌, ℕ, ◌≤◌, Bool, true, false, not, ◌||◌, if◌then◌else◌, nat_le, nat_lt, List, [], ◌∷◌, length, Option, Some, None, refl, ap, ◌∙◌, arith, ltb-false, bytes_eq, codes}
use Rattle.std.proofs.lemmas.Bool.{or_parts}
use Rattle.std.proofs.lemmas.Slice.Eq.{bytes_eq-Decides}
use Rattle.std.specs.List.{list_all}
use Rattle.fap_model.specs.Cards.{is_comment, is_bad, flag_of, operation_of, symbol_of, symbol_text, field_of}
use Rattle.fap_model.specs.declared.types.Operation.{Operation}
use Rattle.fap_model.specs.declared.types.Operation.TheVariants.{Machine as machine, Pze as pze, Org as org, Bss as bss, Equ as equ, Dec as dec, Oct as oct, Bci as bci, End as end}
use Rattle.fap_model.specs.Statements.{operation_named}
use Rattle.fap_model.specs.Places.{max_place}
use Rattle.fap_model.specs.Decks.{operation_in, is_end}
use Rattle.link_model.specs.Moves.{Moved, without_org}
use Rattle.link_model.specs.ModuleCards.{Relocated, is_marked, field_symbol, rel_fault, entry_fault, entry_fault_of, extern_fault, extern_fault_of, plain_fault, module_fault}
use Rattle.rule_laws.proofs.Steps.{IsGood, good_from, is_org}

pub data CardCase (r : Relocated) (m : Moved) (before : List (List ℕ)) (card : List ℕ) : Type 0 where
  case_comment : is_comment card ≡ true → CardCase r m before card
  case_silent : is_comment card ≡ false → operation_named (operation_of card) ≡ None → symbol_of card ≡ None → CardCase r m before card
  case_plain :
      (o : Operation) → is_comment card ≡ false → operation_named (operation_of card) ≡ Some o → is_org o ≡ false → is_end (Some o) ≡ false
      → IsGood r m before card o → CardCase r m before card

-- a card without marks has no symbol
nothing_left : (xs : List ℕ) → nat_lt 0 (length xs) ≡ false → xs ≡ []
nothing_left [] h = refl
nothing_left (x ∷ xs) h = absurd (omega (arith, some))
  where
    some : length (x ∷ xs) ≤ 0
    some = ltb-false 0 (length (x ∷ xs)) h

no_symbol : (card : List ℕ) → is_marked card ≡ false → symbol_of card ≡ None
no_symbol card h =
    let a = or_parts (is_bad card) (flag_of card || nat_lt 0 (length (symbol_text card))) h in
    let b = or_parts (flag_of card) (nat_lt 0 (length (symbol_text card))) a.1 in
    let none : symbol_text card ≡ [] = nothing_left (symbol_text card) b.1 in
    rw none refl

unmarked : (b : Bool) (n : ℕ) → (if b then 2 else n) ≡ 0 → b ≡ false
unmarked true n h = absurd (omega (arith, h))
unmarked false n h = refl

abbrev rel_by : (first b c d : Bool) → ℕ
rel_by first b c d = if first then 1 else (if b || c then 2 else (if d then 5 else 0))

rel_unmarked : (first b c d : Bool) → rel_by first b c d ≡ 0 → b ≡ false
rel_unmarked true b c d h = absurd (omega (arith, h))
rel_unmarked false true c d h = absurd (omega (arith, h))
rel_unmarked false false c d h = refl

pub same_text : (xs ys : List ℕ) → bytes_eq xs ys ≡ true → xs ≡ ys
same_text xs ys h = grind (arith, bytes_eq-Decides)

plain_case : (r : Relocated) (m : Moved) (before : List (List ℕ)) (card : List ℕ) (o : Option Operation) → is_comment card ≡ false
    → operation_named (operation_of card) ≡ o → is_end o ≡ false → plain_fault (without_org o) r m before card ≡ 0 → CardCase r m before card
plain_case r m before card None c e last h = absurd (omega (arith, h))
plain_case r m before card (Some org) c e last h = absurd (omega (arith, h))
plain_case r m before card (Some end) c e last h = absurd cc
plain_case r m before card (Some (machine o)) c e last h = case_plain (machine o) c e refl refl (good_from r m before card (machine o) h)
plain_case r m before card (Some pze) c e last h = case_plain pze c e refl refl (good_from r m before card pze h)
plain_case r m before card (Some bss) c e last h = case_plain bss c e refl refl (good_from r m before card bss h)
plain_case r m before card (Some equ) c e last h = case_plain equ c e refl refl (good_from r m before card equ h)
plain_case r m before card (Some dec) c e last h = case_plain dec c e refl refl (good_from r m before card dec h)
plain_case r m before card (Some oct) c e last h = case_plain oct c e refl refl (good_from r m before card oct h)
plain_case r m before card (Some bci) c e last h = case_plain bci c e refl refl (good_from r m before card bci h)

pub rel_has_none : operation_named (codes "REL") ≡ None
rel_has_none = refl

pub entry_has_none : operation_named (codes "ENTRY") ≡ None
entry_has_none = refl

pub extern_has_none : operation_named (codes "EXTERN") ≡ None
extern_has_none = refl

pub card_case : (r : Relocated) (m : Moved) (before : List (List ℕ)) (card : List ℕ) → is_end (operation_in card) ≡ false
    → module_fault r m before card ≡ 0 → CardCase r m before card
card_case r m before card last h = by_comment (is_comment card) refl last h
  where
    by_extern : (b : Bool) → is_comment card ≡ false → bytes_eq (operation_of card) (codes "EXTERN") ≡ b → is_end (operation_named (operation_of card)) ≡ false
        → (if b then extern_fault m before card else plain_fault (without_org (operation_named (operation_of card))) r m before card) ≡ 0 → CardCase r m before card
    by_extern true c e last h =
        case_silent c (ap operation_named (same_text (operation_of card) (codes "EXTERN") e) ∙ extern_has_none)
        (no_symbol card (unmarked (is_marked card) (extern_fault_of m before (field_symbol card)) h))
    by_extern false c e last h = plain_case r m before card (operation_named (operation_of card)) c refl last h

    by_entry : (b : Bool) → is_comment card ≡ false → bytes_eq (operation_of card) (codes "ENTRY") ≡ b → is_end (operation_named (operation_of card)) ≡ false
        → (if b then entry_fault r m before card
        else (if bytes_eq (operation_of card) (codes "EXTERN") then extern_fault m before card
        else plain_fault (without_org (operation_named (operation_of card))) r m before card)) ≡ 0 → CardCase r m before card
    by_entry true c e last h =
        case_silent c (ap operation_named (same_text (operation_of card) (codes "ENTRY") e) ∙ entry_has_none)
        (no_symbol card (unmarked (is_marked card) (entry_fault_of r m before (field_symbol card)) h))
    by_entry false c e last h = by_extern (bytes_eq (operation_of card) (codes "EXTERN")) c refl last h

    by_rel : (b : Bool) → is_comment card ≡ false → bytes_eq (operation_of card) (codes "REL") ≡ b → is_end (operation_named (operation_of card)) ≡ false
        → (if b then rel_fault m before card
        else (if bytes_eq (operation_of card) (codes "ENTRY") then entry_fault r m before card
        else (if bytes_eq (operation_of card) (codes "EXTERN") then extern_fault m before card
        else plain_fault (without_org (operation_named (operation_of card))) r m before card))) ≡ 0 → CardCase r m before card
    by_rel true c e last h =
        case_silent c (ap operation_named (same_text (operation_of card) (codes "REL") e) ∙ rel_has_none)
        (no_symbol card (rel_unmarked (not (list_all is_comment before)) (is_marked card) (nat_lt 0 (length (field_of card))) (nat_le max_place m.known.place) h))
    by_rel false c e last h = by_entry (bytes_eq (operation_of card) (codes "ENTRY")) c refl last h

    by_comment : (b : Bool) → is_comment card ≡ b → is_end (if b then None else operation_named (operation_of card)) ≡ false
        → (if b then (if is_bad card then 2 else 0)
        else (if bytes_eq (operation_of card) (codes "REL") then rel_fault m before card
        else (if bytes_eq (operation_of card) (codes "ENTRY") then entry_fault r m before card
        else (if bytes_eq (operation_of card) (codes "EXTERN") then extern_fault m before card
        else plain_fault (without_org (operation_named (operation_of card))) r m before card)))) ≡ 0 → CardCase r m before card
    by_comment true c last h = case_comment c
    by_comment false c last h = by_rel (bytes_eq (operation_of card) (codes "REL")) c refl last h
