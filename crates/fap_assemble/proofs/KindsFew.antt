-- Kinds are few where externs are, and a module without a fault has few externs.
use Rattle.std.proofs.Common.{◌≡◌, ℕ, suc, ◌+◌, ◌<◌, ◌≤◌, Bool, true, false, ◌&&◌, ◌||◌, List, [], ◌∷◌, ◌++◌, length, count_by, Option, Some, None, refl, sym, subst, arith, nat_le, nat_eq, true≢false, if◌then◌else◌, bytes_eq, codes, append_assoc, is_none, not}
use Rattle.std.proofs.lemmas.List.{append-nil}
use Rattle.std.proofs.lemmas.Bool.Decides.{nat_tests}
use Rattle.std.proofs.lemmas.Slice.Eq.{bytes_eq-Decides}
use Rattle.fap_model.specs.Cards.{is_comment, is_bad, operation_of}
use Rattle.fap_model.specs.Terms.{Signed}
use Rattle.fap_model.specs.declared.types.Term.{Term}
use Rattle.fap_model.specs.declared.types.Term.TheVariants.{Named, Number, Here}
use Rattle.fap_model.specs.declared.types.Operation.{Operation}
use Rattle.fap_model.specs.declared.types.Operation.TheVariants.{Machine as machine, Pze as pze, Org as org, Bss as bss, Equ as equ, Dec as dec, Oct as oct, Bci as bci, End as end}
use Rattle.fap_model.specs.Statements as says
use Rattle.fap_model.specs.Places.{or_zero, max_place, value_in}
use Rattle.link_model.specs.Weights.{weight_of, externs_in, added_kind, plain_kind, address_kind, is_light, most_weight, kind_of}
use Rattle.link_model.specs.Moves.{Moved, without_org, moved_behind}
use Rattle.link_model.specs.ModuleCards.{Relocated, is_marked, field_symbol, has_operation, with_named, named_by, symbols_seen, rel_fault, entry_fault, extern_fault, extern_fault_of, plain_fault, module_fault, module_faults_from}
use Rattle.fap_assemble.specs.Judging.{one_if}
use Rattle.fap_assemble.proofs.Lookup.{index_within}
use Rattle.fap_assemble.proofs.Follows.{no_entry}
use Rattle.fap_assemble.proofs.Judging.{count_more, count_first}

module _ (externs : List ℕ) (weights : List (ℕ × ℕ)) where
  added_small : (minus : Bool) (t : Term) → or_zero (added_kind externs minus t) ≤ 2 + length externs
  added_small false (Named name) = omega (arith, index_within externs name)
  added_small false (Number n) = omega arith
  added_small false Here = omega arith
  added_small true (Named name) = omega arith
  added_small true (Number n) = omega arith
  added_small true Here = omega arith

  plain_small : (weight : ℕ) (ts : List Signed) → or_zero (plain_kind externs weight ts) ≤ 2 + length externs
  plain_small weight [] = by (nat_le weight 1) refl
    where
      by : (b : Bool) → nat_le weight 1 ≡ b → or_zero (if b then Some weight else None) ≤ 2 + length externs
      by true e = let small : weight ≤ 1 = grind (arith, nat_tests) in omega (arith, small)
      by false e = omega arith
  plain_small weight (t ∷ []) = by (nat_eq weight 0)
    where
      by : (b : Bool) → or_zero (if b then added_kind externs t.0 t.1 else None) ≤ 2 + length externs
      by true = added_small t.0 t.1
      by false = omega arith
  plain_small weight (t ∷ u ∷ ts) = omega arith

  address_small : (a : says.Address) → or_zero (address_kind externs weights a) ≤ 2 + length externs
  address_small (says.plain ts) = plain_small (weight_of weights ts) (externs_in externs ts)
  address_small (says.literal w) = omega arith

  most_small : (o : Operation) → most_weight o ≤ 1
  most_small (machine o) = omega arith
  most_small pze = omega arith
  most_small org = omega arith
  most_small bss = omega arith
  most_small equ = omega arith
  most_small dec = omega arith
  most_small oct = omega arith
  most_small bci = omega arith
  most_small end = omega arith

  light_small : (o : Operation) (w : ℕ) (b c : Bool) → nat_le w (most_weight o) ≡ b → or_zero (if b && c then Some w else None) ≤ 2 + length externs
  light_small o w true true e = let small : w ≤ most_weight o = grind (arith, nat_tests) in omega (arith, small, most_small o)
  light_small o w true false e = omega arith
  light_small o w false c e = omega arith

  pub kind_small : (o : Operation) (f : Option says.Field) → or_zero (kind_of o externs weights f) ≤ 2 + length externs
  kind_small o None = omega arith
  kind_small o (Some (says.placed a tag decrement)) = by (is_light 0 externs weights tag && is_light 0 externs weights decrement)
    where
      by : (b : Bool) → or_zero (if b then address_kind externs weights a else None) ≤ 2 + length externs
      by true = address_small a
      by false = omega arith
  kind_small o (Some (says.half n)) = omega arith
  kind_small o (Some says.nothing) = omega arith
  kind_small o (Some (says.value ts)) = light_small o (weight_of weights ts) (nat_le (weight_of weights ts) (most_weight o)) (nat_eq (length (externs_in externs ts)) 0) refl
  kind_small o (Some (says.words ws)) = omega arith

-- an EXTERN without a fault has few before it

same_text : (xs ys : List ℕ) → bytes_eq xs ys ≡ true → xs ≡ ys
same_text xs ys h = grind (arith, bytes_eq-Decides)

abbrev extern_by : (a b d : Bool) → ℕ
extern_by a b d = if a then 4 else (if b || d then 5 else 0)

of_case : (m : Moved) (before : List (List ℕ)) (name : Option ℕ) → extern_fault_of m before name ≡ 0 → count_by (has_operation (codes "EXTERN")) before < 32766
of_case m before None h = absurd (omega (arith, h))
of_case m before (Some name) h = by (not (is_none (value_in (symbols_seen m before).symbols name))) (nat_le max_place m.known.place) (nat_le 32766 (count_by (has_operation (codes "EXTERN")) before)) refl h
  where
    by : (a b d : Bool) → nat_le 32766 (count_by (has_operation (codes "EXTERN")) before) ≡ d → extern_by a b d ≡ 0
        → count_by (has_operation (codes "EXTERN")) before < 32766
    by true b d e h = absurd (omega (arith, h))
    by false true d e h = absurd (omega (arith, h))
    by false false true e h = absurd (omega (arith, h))
    by false false false e h = grind (arith, nat_tests)

marked_case : (m : Moved) (before : List (List ℕ)) (card : List ℕ) (b : Bool) → (if b then 2 else extern_fault_of m before (field_symbol card)) ≡ 0
    → count_by (has_operation (codes "EXTERN")) before < 32766
marked_case m before card true h = absurd (omega (arith, h))
marked_case m before card false h = of_case m before (field_symbol card) h

few_before : (r : Relocated) (m : Moved) (before : List (List ℕ)) (card : List ℕ) → has_operation (codes "EXTERN") card ≡ true → module_fault r m before card ≡ 0
    → count_by (has_operation (codes "EXTERN")) before < 32766
few_before r m before card is h = by (is_comment card) (bytes_eq (operation_of card) (codes "EXTERN")) refl is h
  where
    by : (c x : Bool) → bytes_eq (operation_of card) (codes "EXTERN") ≡ x → (not c && x) ≡ true
        → (if c then (if is_bad card then 2 else 0)
        else (if bytes_eq (operation_of card) (codes "REL") then rel_fault m before card
        else (if bytes_eq (operation_of card) (codes "ENTRY") then entry_fault r m before card
        else (if x then extern_fault m before card
        else plain_fault (without_org (says.operation_named (operation_of card))) r m before card)))) ≡ 0
        → count_by (has_operation (codes "EXTERN")) before < 32766
    by true x e is h = absurd (true≢false (sym is))
    by false false e is h = absurd (true≢false (sym is))
    by false true e is h = marked_case m before card (is_marked card) (subst (λ (t : List ℕ).
        (if bytes_eq t (codes "REL") then rel_fault m before card
        else (if bytes_eq t (codes "ENTRY") then entry_fault r m before card else extern_fault m before card)) ≡ 0)
        (same_text (operation_of card) (codes "EXTERN") e) h)

few_case : (r : Relocated) (m : Moved) (before : List (List ℕ)) (card : List ℕ) (b : Bool) → has_operation (codes "EXTERN") card ≡ b → module_fault r m before card ≡ 0
    → count_by (has_operation (codes "EXTERN")) before ≤ 32766 → count_by (has_operation (codes "EXTERN")) (before ++ card ∷ []) ≤ 32766
few_case r m before card true e h few =
    let one : one_if (has_operation (codes "EXTERN") card) ≡ 1 = rw e refl in
    omega (arith, few_before r m before card e h, count_more (has_operation (codes "EXTERN")) before card, one)
few_case r m before card false e h few =
    let none : one_if (has_operation (codes "EXTERN") card) ≡ 0 = rw e refl in
    omega (arith, few, count_more (has_operation (codes "EXTERN")) before card, none)

few_all : (r : Relocated) (n : ℕ) (m : Moved) (before cards : List (List ℕ)) → module_faults_from r n m before cards ≡ []
    → count_by (has_operation (codes "EXTERN")) before ≤ 32766 → count_by (has_operation (codes "EXTERN")) (before ++ cards) ≤ 32766
few_all r n m before [] h few = subst (λ (cs : List (List ℕ)). count_by (has_operation (codes "EXTERN")) cs ≤ 32766) (sym (append-nil before)) few
few_all r n m before (card ∷ cards) h few =
    let parts = no_entry n (module_fault r m before card) (module_faults_from r (suc n) (moved_behind r.externs m card) (before ++ card ∷ []) cards) h in
    subst (λ (cs : List (List ℕ)). count_by (has_operation (codes "EXTERN")) cs ≤ 32766) (append_assoc before (card ∷ []) cards)
    (few_all r (suc n) (moved_behind r.externs m card) (before ++ card ∷ []) cards parts.1 (few_case r m before card (has_operation (codes "EXTERN") card) refl parts.0 few))

named_counted : (operation : List ℕ) (cards : List (List ℕ)) → length (named_by operation cards) ≤ count_by (has_operation operation) cards
named_counted operation [] = omega arith
named_counted operation (card ∷ cards) = by (has_operation operation card) refl (field_symbol card) (named_counted operation cards)
  where
    by : (b : Bool) → has_operation operation card ≡ b → (name : Option ℕ) → length (named_by operation cards) ≤ count_by (has_operation operation) cards
        → length (if b then with_named name (named_by operation cards) else named_by operation cards) ≤ count_by (has_operation operation) (card ∷ cards)
    by true e None ih = omega (arith, ih, count_first (has_operation operation) card cards)
    by true e (Some name) ih = let one : one_if (has_operation operation card) ≡ 1 = rw e refl in omega (arith, ih, one, count_first (has_operation operation) card cards)
    by false e name ih = omega (arith, ih, count_first (has_operation operation) card cards)

pub externs_few : (r : Relocated) (m : Moved) (cards : List (List ℕ)) → module_faults_from r 1 m [] cards ≡ [] → length (named_by (codes "EXTERN") cards) ≤ 32766
externs_few r m cards h = omega (arith, few_all r 1 m [] cards h (omega arith), named_counted (codes "EXTERN") cards)
