-- A module's words where it comes to lie.
use Rattle.std.proofs.Common.{◌≡◌, ℕ, ◌+◌, ◌-◌, ◌<◌, ◌≤◌, Bool, true, false, ◌||◌, if◌then◌else◌, nat_le, nat_lt, List, [], ◌∷◌, ◌++◌, length, map, replicate, Option, Some, None, is_none, refl, sym, ap, ◌∙◌, subst, arith, codes, bytes_eq, length-append}
use Rattle.std.proofs.lemmas.List.{length-map, length-replicate, map-append}
use Rattle.std.proofs.lemmas.Bool.{false≢true}
use Rattle.fap_model.specs.Cards.{is_comment, is_bad, symbol_of, operation_of}
use Rattle.fap_model.specs.declared.types.Operation.{Operation}
use Rattle.fap_model.specs.declared.types.Operation.TheVariants.{Machine as machine, Pze as pze, Org as org, Bss as bss, Equ as equ, Dec as dec, Oct as oct, Bci as bci, End as end}
use Rattle.fap_model.specs.Statements.{operation_named, field_for}
use Rattle.fap_model.specs.Places.{Known, max_place, size_of, symbol_is_known, known_behind, known_with}
use Rattle.fap_model.specs.Decks.{Whole, Segment, operation_in, is_end, words_by, start_is_outside}
use Rattle.link_model.specs.declared.types.ModulePlace.{ModulePlace}
use Rattle.link_model.specs.Links.{linked_word}
use Rattle.link_model.specs.Weights.{with_externs}
use Rattle.link_model.specs.Moves.{Moved, without_org, module_operation, early_kind, count_in, moved_size, moved_with, moved_behind, moved_after}
use Rattle.link_model.specs.ModuleCards.{Relocated, symbols_seen, named_by, card_kind, cell, cells_by, cells_from, rel_fault, entry_fault, extern_fault, plain_fault, module_fault}
use Rattle.link_model.specs.Laid.{laid_from}
use Rattle.rule_laws.proofs.Spreads.{Spread}
use Rattle.rule_laws.proofs.Values.{Setting}
use Rattle.rule_laws.proofs.Tests.{sound_card}
use Rattle.rule_laws.proofs.Places.{Behind}
use Rattle.rule_laws.proofs.Steps.{IsGood, is_org, fresh_here, step_with, place_worth, below_top, one_most}
use Rattle.rule_laws.proofs.Cases.{CardCase, case_comment, case_silent, case_plain, same_text, rel_has_none, entry_has_none, extern_has_none}
use Rattle.rule_laws.proofs.Moves.{AreSmall, case_step, without}
use Rattle.rule_laws.proofs.CardWords.{Final, Worded, worded, reserved}
use Rattle.rule_laws.proofs.Wholes.{AllCases, behind_grows, all_grow, lower_bound, spread_card, spread_reserve}

-- one card

abbrev linked : Setting → Relocated → List ModulePlace → List ℕ
linked s r cells = map (linked_word s.base s.entries r.externs) cells

next_place_is : (b p n q t : ℕ) → q ≡ b + p → t ≡ b + (p + n) → t ≡ q + n
next_place_is b p n q t h k = omega (arith, h, k)

no_cells : (q : ℕ) → q ≡ q + 0
no_cells q = omega arith

-- what a card leaves, as the case is
pub record Leaves (s : Setting) (r : Relocated) (m : Moved) (there : Whole) (k : Known) (card : List ℕ) : Type 0 where
  pub size : length (cells_by r m (module_operation card) card) ≡ (moved_behind r.externs m card).known.place - m.known.place
  pub spread :
      (segments : List Segment) (rest : List ℕ) → Spread (known_behind k card).place segments rest
      → Spread k.place (record { first = k.place; words = words_by there k (operation_in card) card } ∷ segments)
      (linked s r (cells_by r m (module_operation card) card) ++ rest)

leaves_none : (s : Setting) (r : Relocated) (m : Moved) (there : Whole) (k : Known) (card : List ℕ) → module_operation card ≡ None → operation_in card ≡ None
    → (known_behind k card).place ≡ k.place → (moved_behind r.externs m card).known.place ≡ m.known.place → Leaves s r m there k card
leaves_none s r m there k card op_none in_none place moved =
    let nothing : m.known.place - m.known.place ≡ 0 = omega arith in
    record {
      size =
          ap (λ (o : Option Operation). length (cells_by r m o card)) op_none
          ∙ sym (ap (λ (p : ℕ). p - m.known.place) moved ∙ nothing);
      spread =
          λ segments rest h.
          subst (λ (o : Option Operation). Spread k.place (record { first = k.place; words = words_by there k (operation_in card) card } ∷ segments) (linked s r (cells_by r m o card) ++ rest))
          (sym op_none)
          (subst (λ (o : Option Operation). Spread k.place (record { first = k.place; words = words_by there k o card } ∷ segments) rest) (sym in_none)
          (spread_card k.place (known_behind k card).place [] [] segments rest refl (place ∙ no_cells k.place) h));
    }

plus_less : (p n : ℕ) → n ≡ p + n - p
plus_less p n = omega arith

leaves_words : (s : Setting) (r : Relocated) (m : Moved) (there : Whole) (k : Known) (card : List ℕ) (o : Operation) → module_operation card ≡ Some o → operation_in card ≡ Some o
    → k.place ≡ s.base + m.known.place → (known_behind k card).place ≡ s.base + (m.known.place + moved_size r.externs m (Some o) card)
    → (moved_behind r.externs m card).known.place ≡ m.known.place + moved_size r.externs m (Some o) card → Worded s r m there k card o → Leaves s r m there k card
leaves_words s r m there k card o op in_op at next moved w =
    let cells : List ModulePlace = cells_by r m (Some o) card in
    let size : length (linked s r cells) ≡ moved_size r.externs m (Some o) card = length-map cells (linked_word s.base s.entries r.externs) ∙ w.size in
    let behind : (known_behind k card).place ≡ k.place + length (linked s r cells) =
    next_place_is s.base m.known.place (moved_size r.externs m (Some o) card) k.place (known_behind k card).place at next ∙ ap (λ (n : ℕ). k.place + n) (sym size) in
    record {
      size =
          ap (λ (x : Option Operation). length (cells_by r m x card)) op ∙ w.size ∙ plus_less m.known.place (moved_size r.externs m (Some o) card)
          ∙ ap (λ (p : ℕ). p - m.known.place) (sym moved);
      spread =
          λ segments rest h.
          subst (λ (x : Option Operation). Spread k.place (record { first = k.place; words = words_by there k (operation_in card) card } ∷ segments) (linked s r (cells_by r m x card) ++ rest))
          (sym op)
          (subst (λ (x : Option Operation). Spread k.place (record { first = k.place; words = words_by there k x card } ∷ segments) (linked s r cells ++ rest)) (sym in_op)
          (spread_card k.place (known_behind k card).place (words_by there k (Some o) card) (linked s r cells) segments rest w.words behind h));
    }

leaves_reserve : (s : Setting) (r : Relocated) (m : Moved) (there : Whole) (k : Known) (card : List ℕ) → module_operation card ≡ Some bss → operation_in card ≡ Some bss
    → k.place ≡ s.base + m.known.place → (known_behind k card).place ≡ s.base + (m.known.place + moved_size r.externs m (Some bss) card)
    → (moved_behind r.externs m card).known.place ≡ m.known.place + moved_size r.externs m (Some bss) card → Leaves s r m there k card
leaves_reserve s r m there k card op in_op at next moved =
    let n : ℕ = moved_size r.externs m (Some bss) card in
    record {
      size =
          ap (λ (x : Option Operation). length (cells_by r m x card)) op ∙ length-replicate n (cell 0 0) ∙ plus_less m.known.place n
          ∙ ap (λ (p : ℕ). p - m.known.place) (sym moved);
      spread =
          λ segments rest h.
          subst (λ (x : Option Operation). Spread k.place (record { first = k.place; words = words_by there k (operation_in card) card } ∷ segments) (linked s r (cells_by r m x card) ++ rest))
          (sym op)
          (subst (λ (x : Option Operation). Spread k.place (record { first = k.place; words = words_by there k x card } ∷ segments) (linked s r (replicate n (cell 0 0)) ++ rest)) (sym in_op)
          (spread_reserve k.place (known_behind k card).place n (linked s r (replicate n (cell 0 0))) segments rest (reserved s.base s.entries r.externs n)
          (next_place_is s.base m.known.place n k.place (known_behind k card).place at next) h));
    }

abbrev next_place_of : Known → Known → ℕ
next_place_of k n = n.place

pub leaves : (entries : List (ℕ × ℕ)) (s : Setting) (r : Relocated) (m : Moved) (before : List (List ℕ)) (there : Whole) (k : Known) (card : List ℕ) → Final s r there → AreSmall entries
    → Behind s.base m k → CardCase r m before card → Behind s.base (moved_behind r.externs m card) (known_behind k card) → Leaves s r m there k card
leaves entries s r m before there k card f small h (case_comment c) next =
    leaves_none s r m there k card (rw c refl) (rw c refl) (rw c refl) (rw c refl)
leaves entries s r m before there k card f small h (case_silent c named none) next =
    let op : module_operation card ≡ None = rw (c, named) refl in
    let here : moved_behind r.externs m card ≡ moved_with r.externs m None card = rw (c, named) refl in
    let same : (moved_with r.externs m None card).known.place ≡ m.known.place = sym (no_cells m.known.place) in
    leaves_none s r m there k card op (rw (c, named) refl) (rw (c, named) refl) (ap (λ (n : Moved). n.known.place) here ∙ same)
leaves entries s r m before there k card f small h (case_plain o c named other last g) next =
    let with_org : without_org (Some o) ≡ Some o = without o other in
    let op : module_operation card ≡ Some o = rw (c, named) with_org in
    let in_op : operation_in card ≡ Some o = rw (c, named) refl in
    let here : moved_behind r.externs m card ≡ moved_with r.externs m (Some o) card = rw (c, named, with_org) refl in
    let moved : (moved_behind r.externs m card).known.place ≡ m.known.place + moved_size r.externs m (Some o) card = ap (λ (n : Moved). n.known.place) here in
    let place : (known_behind k card).place ≡ s.base + (m.known.place + moved_size r.externs m (Some o) card) = next.place ∙ ap (λ (p : ℕ). s.base + p) moved in
    by_operation o refl op in_op moved place g other last
  where
    by_operation : (x : Operation) → x ≡ o → module_operation card ≡ Some x → operation_in card ≡ Some x
        → (moved_behind r.externs m card).known.place ≡ m.known.place + moved_size r.externs m (Some x) card
        → (known_behind k card).place ≡ s.base + (m.known.place + moved_size r.externs m (Some x) card) → IsGood r m before card x → is_org x ≡ false → is_end (Some x) ≡ false
        → Leaves s r m there k card
    by_operation bss e op in_op moved place g other last = leaves_reserve s r m there k card op in_op h.place place moved
    by_operation (machine y) e op in_op moved place g other last =
        leaves_words s r m there k card (machine y) op in_op h.place place moved (worded s r m before there k card (machine y) f h other last refl g)
    by_operation pze e op in_op moved place g other last =
        leaves_words s r m there k card pze op in_op h.place place moved (worded s r m before there k card pze f h other last refl g)
    by_operation equ e op in_op moved place g other last =
        leaves_words s r m there k card equ op in_op h.place place moved (worded s r m before there k card equ f h other last refl g)
    by_operation dec e op in_op moved place g other last =
        leaves_words s r m there k card dec op in_op h.place place moved (worded s r m before there k card dec f h other last refl g)
    by_operation oct e op in_op moved place g other last =
        leaves_words s r m there k card oct op in_op h.place place moved (worded s r m before there k card oct f h other last refl g)
    by_operation bci e op in_op moved place g other last =
        leaves_words s r m there k card bci op in_op h.place place moved (worded s r m before there k card bci f h other last refl g)
    by_operation org e op in_op moved place g other last = absurd cc
    by_operation end e op in_op moved place g other last = absurd cc

-- all cards

none_left : (p : ℕ) → 0 ≡ p - p
none_left p = omega arith

sum_places : (a b p q t : ℕ) → a ≡ q - p → p ≤ q → b ≡ t - q → q ≤ t → a + b ≡ t - p
sum_places a b p q t h k l n = omega (arith, h, k, l, n)

pub record LaidCards (s : Setting) (r : Relocated) (m : Moved) (there : Whole) (k : Known) (cards : List (List ℕ)) : Type 0 where
  pub spread : Spread k.place (laid_from there k cards) (linked s r (cells_from r m cards))
  pub size : length (cells_from r m cards) ≡ (moved_after r.externs m cards).known.place - m.known.place

pub laid_cards : (entries : List (ℕ × ℕ)) (s : Setting) (r : Relocated) (m : Moved) (before cards : List (List ℕ)) (there : Whole) (k : Known) → Final s r there → AreSmall entries
    → Behind s.base m k → AllCases r m before cards → s.base + (moved_after r.externs m cards).known.place ≤ 32768
    → LaidCards s r m there k cards
laid_cards entries s r m before [] there k f small h cases bound = record { spread = (0, refl); size = none_left m.known.place }
laid_cards entries s r m before (card ∷ cards) there k f small h cases bound =
    let next : s.base + (moved_behind r.externs m card).known.place ≤ 32768 =
    lower_bound s.base (moved_behind r.externs m card).known.place (moved_after r.externs (moved_behind r.externs m card) cards).known.place
    (all_grow r.externs (moved_behind r.externs m card) cards) bound in
    let behind : Behind s.base (moved_behind r.externs m card) (known_behind k card) = case_step s.base entries r m before card k small h cases.0 next in
    let one : Leaves s r m there k card = leaves entries s r m before there k card f small h cases.0 behind in
    let rest = laid_cards entries s r (moved_behind r.externs m card) (before ++ card ∷ []) cards there (known_behind k card) f small behind cases.1 bound in
    let all : linked s r (cells_from r m (card ∷ cards))
    ≡ linked s r (cells_by r m (module_operation card) card) ++ linked s r (cells_from r (moved_behind r.externs m card) cards) =
    map-append (linked_word s.base s.entries r.externs) (cells_by r m (module_operation card) card) (cells_from r (moved_behind r.externs m card) cards) in
    record {
      spread =
          subst (λ (l : List ℕ). Spread k.place (laid_from there k (card ∷ cards)) l) (sym all)
          (one.spread (laid_from there (known_behind k card) cards) (linked s r (cells_from r (moved_behind r.externs m card) cards)) rest.spread);
      size =
          length-append (cells_by r m (module_operation card) card) (cells_from r (moved_behind r.externs m card) cards)
          ∙ sum_places (length (cells_by r m (module_operation card) card)) (length (cells_from r (moved_behind r.externs m card) cards)) m.known.place
          (moved_behind r.externs m card).known.place (moved_after r.externs (moved_behind r.externs m card) cards).known.place one.size
          (behind_grows r.externs m card) rest.size (all_grow r.externs (moved_behind r.externs m card) cards);
    }

-- END

is_only_end : (o : Option Operation) → is_end o ≡ true → o ≡ Some end
is_only_end None h = absurd cc
is_only_end (Some end) h = refl
is_only_end (Some (machine o)) h = absurd cc
is_only_end (Some pze) h = absurd cc
is_only_end (Some org) h = absurd cc
is_only_end (Some bss) h = absurd cc
is_only_end (Some equ) h = absurd cc
is_only_end (Some dec) h = absurd cc
is_only_end (Some oct) h = absurd cc
is_only_end (Some bci) h = absurd cc

pub record EndCase (r : Relocated) (m : Moved) (before : List (List ℕ)) (card : List ℕ) : Type 0 where
  pub plain : is_comment card ≡ false
  pub named : operation_named (operation_of card) ≡ Some end
  pub fault : plain_fault (Some end) r m before card ≡ 0

not_end : (name : List ℕ) (card : List ℕ) → bytes_eq (operation_of card) name ≡ true → operation_named name ≡ None → operation_named (operation_of card) ≡ Some end → ⊥
not_end name card e none is =
    let no : None ≡ Some end = sym none ∙ sym (ap operation_named (same_text (operation_of card) name e)) ∙ is in cc

pub end_case : (r : Relocated) (m : Moved) (before : List (List ℕ)) (card : List ℕ) → is_end (operation_in card) ≡ true → module_fault r m before card ≡ 0 → EndCase r m before card
end_case r m before card last h = by_comment (is_comment card) refl last h
  where
    by_extern : (b : Bool) → is_comment card ≡ false → operation_named (operation_of card) ≡ Some end → bytes_eq (operation_of card) (codes "EXTERN") ≡ b
        → (if b then extern_fault m before card else plain_fault (without_org (operation_named (operation_of card))) r m before card) ≡ 0 → EndCase r m before card
    by_extern true c is e h = absurd (not_end (codes "EXTERN") card e extern_has_none is)
    by_extern false c is e h =
        record { plain = c; named = is; fault = sym (ap (λ (o : Option Operation). plain_fault (without_org o) r m before card) is) ∙ h }

    by_entry : (b : Bool) → is_comment card ≡ false → operation_named (operation_of card) ≡ Some end → bytes_eq (operation_of card) (codes "ENTRY") ≡ b
        → (if b then entry_fault r m before card
        else (if bytes_eq (operation_of card) (codes "EXTERN") then extern_fault m before card
        else plain_fault (without_org (operation_named (operation_of card))) r m before card)) ≡ 0 → EndCase r m before card
    by_entry true c is e h = absurd (not_end (codes "ENTRY") card e entry_has_none is)
    by_entry false c is e h = by_extern (bytes_eq (operation_of card) (codes "EXTERN")) c is refl h

    by_rel : (b : Bool) → is_comment card ≡ false → operation_named (operation_of card) ≡ Some end → bytes_eq (operation_of card) (codes "REL") ≡ b
        → (if b then rel_fault m before card
        else (if bytes_eq (operation_of card) (codes "ENTRY") then entry_fault r m before card
        else (if bytes_eq (operation_of card) (codes "EXTERN") then extern_fault m before card
        else plain_fault (without_org (operation_named (operation_of card))) r m before card))) ≡ 0 → EndCase r m before card
    by_rel true c is e h = absurd (not_end (codes "REL") card e rel_has_none is)
    by_rel false c is e h = by_entry (bytes_eq (operation_of card) (codes "ENTRY")) c is refl h

    by_comment : (b : Bool) → is_comment card ≡ b → is_end (if b then None else operation_named (operation_of card)) ≡ true
        → (if b then (if is_bad card then 2 else 0)
        else (if bytes_eq (operation_of card) (codes "REL") then rel_fault m before card
        else (if bytes_eq (operation_of card) (codes "ENTRY") then entry_fault r m before card
        else (if bytes_eq (operation_of card) (codes "EXTERN") then extern_fault m before card
        else plain_fault (without_org (operation_named (operation_of card))) r m before card)))) ≡ 0 → EndCase r m before card
    by_comment true c last h = absurd (false≢true last)
    by_comment false c last h = by_rel (bytes_eq (operation_of card) (codes "REL")) c (is_only_end (operation_named (operation_of card)) last) refl h

-- what an END takes, here and there
abbrev either : Bool → ℕ
either b = if b then 0 else 0

abbrev either_of : Bool → Bool → ℕ
either_of a b = if b then (if a then 0 else 0) else 0

no_size : (b : Bool) → either b ≡ 0
no_size true = refl
no_size false = refl

pub no_moved : (a b : Bool) → either_of a b ≡ 0
no_moved true true = refl
no_moved true false = refl
no_moved false true = refl
no_moved false false = refl

pub record EndFits (r : Relocated) (m : Moved) : Type 0 where
  pub room : m.known.place + length r.whole.literals < 32768

end_room : (p n : ℕ) → p + 0 + (n + 1) ≤ max_place → p + n < 32768
end_room p n h = omega (arith, h)

pub end_fits : (r : Relocated) (m : Moved) (before : List (List ℕ)) (card : List ℕ) → EndCase r m before card → EndFits r m
end_fits r m before card e =
    let s = sound_card r.whole.names (length r.whole.literals + 1)
    (is_none (card_kind end r m card) || start_is_outside r.whole m.known (field_for end card)) (symbols_seen m before) end card (field_for end card) e.fault in
    record { room = end_room m.known.place (length r.whole.literals) s.room }

pub end_step : (b : ℕ) (r : Relocated) (m : Moved) (before : List (List ℕ)) (card : List ℕ) (k : Known) → Behind b m k → EndCase r m before card
    → Behind b (moved_behind r.externs m card) (known_behind k card)
end_step b r m before card k h e =
    let s = sound_card r.whole.names (length r.whole.literals + 1)
    (is_none (card_kind end r m card) || start_is_outside r.whole m.known (field_for end card)) (symbols_seen m before) end card (field_for end card) e.fault in
    let fresh : symbol_is_known m.known (symbol_of card) ≡ false = fresh_here m (with_externs (named_by (codes "EXTERN") before) []) (symbol_of card) s.fresh in
    let here : moved_behind r.externs m card ≡ moved_with r.externs m (Some end) card = rw (e.plain, e.named) refl in
    let there : known_behind k card ≡ known_with k (Some end) card = rw (e.plain, e.named) refl in
    let moved : moved_size r.externs m (Some end) card ≡ 0 =
    no_moved (is_none (early_kind r.externs m end card)) (nat_lt (m.known.place + count_in r.externs m end card) max_place) in
    let size : size_of end k (field_for end card) ≡ 0 = no_size (nat_le (k.place + 0) max_place) in
    rw (here, there)
    (step_with b r.externs m k card end h refl fresh
    (record {
      size = size ∙ sym moved;
      worth = record { small = below_top m.known.place; light = one_most; there = place_worth b m.known.place k.place h.place };
    }))
