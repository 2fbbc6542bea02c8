-- The faults of a module's cards by what was read of them are the definition's.
use Rattle.std.proofs.Common.{◌≡◌, ◌≢◌, ℕ, zero, suc, ◌+◌, ◌<◌, ◌≤◌, ◌^◌, Bool, true, false, not, ◌&&◌, ◌||◌, List, [], ◌∷◌, ◌++◌, length, take, take_all, count_by, Option, Some, None, is_none, is_some, refl, sym, ap, ◌∙◌, arith, nat_lt, nat_le, nat_eq, true≢false, if◌then◌else◌, codes}
use Rattle.std.proofs.lemmas.Bool.Decides.{nat_tests}
use Rattle.std.specs.Option.{option_map, option_and_then}
use Rattle.std.specs.List.{list_all}
use Rattle.std.proofs.lemmas.List.Folds.{list_all-append}
use Rattle.std.proofs.lemmas.List.Sums.{count_by-le-length, sum_by-append, sum_by-cons}
use Rattle.fap_read.specs.declared.card.Card.{Card}
use Rattle.fap_assemble.specs.Steps.{texts}
use Rattle.fap_model.specs.Cards.{is_comment, operation_of, field_of, symbol_of}
use Rattle.fap_model.specs.Terms.{Signed, expression}
use Rattle.fap_model.specs.declared.types.Term.{Term}
use Rattle.fap_model.specs.declared.types.Term.TheVariants.{Named, Number, Here}
use Rattle.fap_model.specs.declared.types.Operation.{Operation}
use Rattle.fap_model.specs.declared.types.Operation.TheVariants.{Machine as machine, Pze as pze, Org as org, Bss as bss, Equ as equ, Dec as dec, Oct as oct, Bci as bci, End as end}
use Rattle.fap_model.specs.Statements as says
use Rattle.fap_model.specs.Places.{Known, value_in, term_value, with_term, value_from, value_of, or_zero, max_place, count_of, looks_back, field_is_wrong, field_is_defined, symbol_is_known, fault_with}
use Rattle.link_model.specs.Weights.{with_externs, is_among, names_extern, externs_in, weight_of, is_light, kind_of}
use Rattle.link_model.specs.Moves.{Moved, without_org}
use Rattle.link_model.specs.ModuleCards.{Relocated, has_operation, field_symbol, named_by, with_named, card_kind, names_of, module_fault, plain_fault}
use Rattle.fap_assemble.specs.Fields.{said, is_misshapen, least, fault_known}
use Rattle.fap_assemble.specs.Wholes.{names_seen, is_start_outside}
use Rattle.fap_assemble.proofs.Causes.{outside_is}
use Rattle.fap_model.specs.Decks.{start_is_outside}
use Rattle.fap_assemble.specs.declared.field.Said.{Said}
use Rattle.fap_assemble.specs.declared.past.Past.{Past}
use Rattle.fap_assemble.specs.Judging.{past_of, past_with, one_if, seen_by, plain_fault_by, word_fault_by, module_fault_by}
use Rattle.fap_assemble.proofs.Rosters.{extern_value}
use Rattle.fap_assemble.proofs.Places.{none_is, wrong_is, defined_is, count_is}

-- the symbols that a field may use
pub names_are : (o : Operation) (externs : List ℕ) (table : List (ℕ × ℕ)) (visible : ℕ)
    → with_externs externs (take (names_seen o table visible) table) ≡ (if looks_back o then with_externs externs (take visible table) else with_externs externs table)
names_are o externs table visible = by (looks_back o)
  where
    by : (b : Bool) → with_externs externs (take (if b then visible else length table) table) ≡ (if b then with_externs externs (take visible table) else with_externs externs table)
    by true = refl
    by false = ap (λ (t : List (ℕ × ℕ)). with_externs externs t) (take_all (length table) table (omega arith))

-- behind the symbols the externs so far
value_behind : (table more : List (ℕ × ℕ)) (name : ℕ) → is_none (value_in (table ++ more) name) ≡ (is_none (value_in table name) && is_none (value_in more name))
value_behind [] more name = refl
value_behind (e ∷ table) more name = by (nat_eq name e.0) (value_behind table more name)
  where
    by : (b : Bool) → is_none (value_in (table ++ more) name) ≡ (is_none (value_in table name) && is_none (value_in more name)) → is_none (if b then Some e.1 else value_in (table ++ more) name) ≡ (is_none (if b then Some e.1 else value_in table name) && is_none (value_in more name))
    by true ih = refl
    by false ih = ih

none_extern : (externs : List ℕ) (name : ℕ) → is_none (value_in (with_externs externs []) name) ≡ not (is_among externs name)
none_extern externs name = ap (λ (o : Option ℕ). is_none o) (extern_value externs [] name) ∙ by (is_among externs name)
  where
    by : (b : Bool) → is_none {T = ℕ} (if b then Some 0 else None) ≡ not b
    by true = refl
    by false = refl

pub seen_value : (table : List (ℕ × ℕ)) (externs : List ℕ) (name : ℕ)
    → not (is_none (value_in (table ++ with_externs externs []) name)) ≡ (is_some (value_in table name) || is_among externs name)
seen_value table externs name =
    ap (λ (b : Bool). not b) (value_behind table (with_externs externs []) name ∙ ap (λ (b : Bool). is_none (value_in table name) && b) (none_extern externs name))
    ∙ by (value_in table name) (is_among externs name)
  where
    by : (o : Option ℕ) (b : Bool) → not (is_none o && not b) ≡ (is_some o || b)
    by None true = refl
    by None false = refl
    by (Some v) true = refl
    by (Some v) false = refl

-- an expression without externs has the same value before them and behind them

none_some : (v : ℕ) → None ≡ Some v → ⊥
none_some v h = cc

value_first : (table more : List (ℕ × ℕ)) (name v : ℕ) → value_in table name ≡ Some v → value_in (table ++ more) name ≡ Some v
value_first [] more name v h = absurd (none_some v h)
value_first (e ∷ table) more name v h = by (nat_eq name e.0) (λ k. value_first table more name v k) h
  where
    by : (b : Bool) → (value_in table name ≡ Some v → value_in (table ++ more) name ≡ Some v) → (if b then Some e.1 else value_in table name) ≡ Some v → (if b then Some e.1 else value_in (table ++ more) name) ≡ Some v
    by true ih h = h
    by false ih h = ih h

no_one : (b : Bool) (t : Signed) (ts : List Signed) → length (if b then t ∷ ts else ts) ≡ 0 → (b ≡ false) × (length ts ≡ 0)
no_one true t ts h = absurd (omega (arith, h))
no_one false t ts h = (refl, h)

term_same : (externs : List ℕ) (table more : List (ℕ × ℕ)) (place v : ℕ) (t : Term) → names_extern externs t ≡ false
    → term_value (with_externs externs table) place t ≡ Some v → term_value (table ++ more) place t ≡ Some v
term_same externs table more place v (Named name) n h = value_first table more name v (sym (extern_value externs table name ∙ ap (λ (b : Bool). if b then Some 0 else value_in table name) n) ∙ h)
term_same externs table more place v (Number k) n h = h
term_same externs table more place v Here n h = h

value_same : (externs : List ℕ) (table more : List (ℕ × ℕ)) (place sum v : ℕ) (ts : List Signed) → length (externs_in externs ts) ≡ 0
    → value_from (with_externs externs table) place sum ts ≡ Some v → value_from (table ++ more) place sum ts ≡ Some v
value_same externs table more place sum v [] n h = h
value_same externs table more place sum v (t ∷ ts) n h = by (λ w k. value_same externs table more place (with_term sum t.0 w) v ts none.1 k) (term_value (with_externs externs table) place t.1) refl h
  where
    none : (names_extern externs t.1 ≡ false) × (length (externs_in externs ts) ≡ 0)
    none = no_one (names_extern externs t.1) t (externs_in externs ts) n

    by : ((w : ℕ) → value_from (with_externs externs table) place (with_term sum t.0 w) ts ≡ Some v → value_from (table ++ more) place (with_term sum t.0 w) ts ≡ Some v)
        → (o : Option ℕ) → term_value (with_externs externs table) place t.1 ≡ o
        → option_and_then (λ w. value_from (with_externs externs table) place (with_term sum t.0 w) ts) o ≡ Some v
        → value_from (table ++ more) place sum (t ∷ ts) ≡ Some v
    by ih None e h = absurd (none_some v h)
    by ih (Some w) e h = rw (term_same externs table more place w t.1 none.0 e) (ih w h)

right_true : (a b : Bool) → (a && b) ≡ true → b ≡ true
right_true true b h = h
right_true false b h = absurd (true≢false (sym h))

no_externs : (externs : List ℕ) (weights : List (ℕ × ℕ)) (ts : List Signed) → is_light 0 externs weights ts ≡ true → length (externs_in externs ts) ≡ 0
no_externs externs weights ts h =
    let none : nat_eq (length (externs_in externs ts)) 0 ≡ true = right_true (nat_le (weight_of weights ts) 0) (nat_eq (length (externs_in externs ts)) 0) h in
    grind (arith, nat_tests)

module _ (externs : List ℕ) (weights table more : List (ℕ × ℕ)) (place : ℕ) where
  bss_value : (ts : List Signed) (b : Bool) → is_light 0 externs weights ts ≡ b → is_none (if b then Some (weight_of weights ts) else None) ≡ false
      → is_none (value_of (with_externs externs table) 0 ts) ≡ false
      → or_zero (value_of (with_externs externs table) place ts) ≡ or_zero (value_of (table ++ more) place ts)
  bss_value ts false l h d = absurd (true≢false h)
  bss_value ts true l h d = by (value_of (with_externs externs table) place ts) refl
    where
      by : (o : Option ℕ) → value_of (with_externs externs table) place ts ≡ o → or_zero o ≡ or_zero (value_of (table ++ more) place ts)
      by None e = absurd (true≢false (sym (ap (λ (v : Option ℕ). is_none v) e) ∙ none_is (with_externs externs table) place ts ∙ d))
      by (Some v) e = ap or_zero (sym (value_same externs table more place 0 v ts (no_externs externs weights ts l) e))

  bss_count : (e : Option (List Signed)) → is_none (kind_of bss externs weights (option_map (λ ts. says.value ts) e)) ≡ false
      → field_is_defined (with_externs externs table) (option_map (λ ts. says.value ts) e) ≡ true
      → count_of bss (record { place = place; symbols = with_externs externs table }) (option_map (λ ts. says.value ts) e)
      ≡ count_of bss (record { place = place; symbols = table ++ more }) (option_map (λ ts. says.value ts) e)
  bss_count None h d = refl
  bss_count (Some ts) h d = bss_value ts (is_light 0 externs weights ts) refl h (not_not (is_none (value_of (with_externs externs table) 0 ts)) d)
    where
      not_not : (b : Bool) → not b ≡ true → b ≡ false
      not_not true d = absurd (true≢false (sym d))
      not_not false d = refl

-- where a field is right and defined, its words are as many

counted : (r : Relocated) (p : Past) (m : Moved) (o : Operation) (card : List ℕ) → is_none (card_kind o r m card) ≡ false
    → field_is_defined (names_of o r m) (says.field_for o card) ≡ true
    → count_of o (record { place = m.known.place; symbols = names_of o r m }) (says.field_for o card) ≡ count_of o (seen_by p m.known) (says.field_for o card)
counted r p m (machine o) card h d = refl
counted r p m pze card h d = refl
counted r p m org card h d = refl
counted r p m bss card h d = bss_count r.externs (with_externs r.externs m.weights) m.known.symbols (with_externs p.externs []) m.known.place (expression (field_of card)) h d
counted r p m equ card h d = refl
counted r p m dec card h d = same_words (says.field_for dec card)
  where
    same_words : (f : Option says.Field) → count_of dec (record { place = m.known.place; symbols = names_of dec r m }) f ≡ count_of dec (seen_by p m.known) f
    same_words None = refl
    same_words (Some (says.placed a tag decrement)) = refl
    same_words (Some (says.half n)) = refl
    same_words (Some says.nothing) = refl
    same_words (Some (says.value ts)) = refl
    same_words (Some (says.words ws)) = refl
counted r p m oct card h d = same_words (says.field_for oct card)
  where
    same_words : (f : Option says.Field) → count_of oct (record { place = m.known.place; symbols = names_of oct r m }) f ≡ count_of oct (seen_by p m.known) f
    same_words None = refl
    same_words (Some (says.placed a tag decrement)) = refl
    same_words (Some (says.half n)) = refl
    same_words (Some says.nothing) = refl
    same_words (Some (says.value ts)) = refl
    same_words (Some (says.words ws)) = refl
counted r p m bci card h d = same_words (says.field_for bci card)
  where
    same_words : (f : Option says.Field) → count_of bci (record { place = m.known.place; symbols = names_of bci r m }) f ≡ count_of bci (seen_by p m.known) f
    same_words None = refl
    same_words (Some (says.placed a tag decrement)) = refl
    same_words (Some (says.half n)) = refl
    same_words (Some says.nothing) = refl
    same_words (Some (says.value ts)) = refl
    same_words (Some (says.words ws)) = refl
counted r p m end card h d = refl

least_far : (a b c d e f : Bool) → (b ≡ false → c ≡ false → e ≡ f) → least a b c d e ≡ least a b c d f
least_far true b c d e f h = refl
least_far false true c d e f h = refl
least_far false false true d e f h = refl
least_far false false false d e f h = rw (h refl refl) refl

right_false : (a b : Bool) → (a || b) ≡ false → b ≡ false
right_false false b h = h
right_false true b h = absurd (true≢false h)

not_false : (b : Bool) → not b ≡ false → b ≡ true
not_false true h = refl
not_false false h = absurd (true≢false h)

read_fault : (r : Relocated) (p : Past) (m : Moved) (o : Operation) (card : List ℕ) (more : ℕ) (wrong : Bool) → (wrong ≡ false → is_none (card_kind o r m card) ≡ false)
    → fault_known o card (option_map (said (names_of o r m) m.known.place) (says.field_for o card)) (symbol_is_known (seen_by p m.known) (symbol_of card)) m.known.place more wrong
    ≡ fault_with (names_of o r m) more wrong (seen_by p m.known) o card (says.field_for o card)
read_fault r p m o card more wrong w =
    rw (
      wrong_is (names_of o r m) (seen_by p m.known) (says.field_for o card),
      defined_is (names_of o r m) m.known.place (says.field_for o card),
      count_is (names_of o r m) (record { place = m.known.place; symbols = names_of o r m }) o (says.field_for o card) (λ h. refl),
    )
    (least_far (is_misshapen o card) (field_is_wrong (names_of o r m) (seen_by p m.known) (says.field_for o card) || wrong) (not (field_is_defined (names_of o r m) (says.field_for o card)))
    (symbol_is_known (seen_by p m.known) (symbol_of card))
    (nat_lt max_place (m.known.place + count_of o (record { place = m.known.place; symbols = names_of o r m }) (says.field_for o card) + more))
    (nat_lt max_place (m.known.place + count_of o (seen_by p m.known) (says.field_for o card) + more))
    (λ b c. ap (λ (n : ℕ). nat_lt max_place (m.known.place + n + more))
    (counted r p m o card (w (right_false (field_is_wrong (names_of o r m) (seen_by p m.known) (says.field_for o card)) wrong b)) (not_false (field_is_defined (names_of o r m) (says.field_for o card)) c))))

-- a card more that stands before

named_more : (operation : List ℕ) (before : List (List ℕ)) (card : List ℕ) → named_by operation (before ++ card ∷ []) ≡ named_by operation before ++ named_by operation (card ∷ [])
named_more operation [] card = refl
named_more operation (c ∷ before) card = by (has_operation operation c) (field_symbol c) (named_more operation before card)
  where
    by : (b : Bool) (name : Option ℕ) → named_by operation (before ++ card ∷ []) ≡ named_by operation before ++ named_by operation (card ∷ [])
        → (if b then with_named name (named_by operation (before ++ card ∷ [])) else named_by operation (before ++ card ∷ []))
        ≡ (if b then with_named name (named_by operation before) else named_by operation before) ++ named_by operation (card ∷ [])
    by true None ih = ih
    by true (Some name) ih = ap (λ (l : List ℕ). name ∷ l) ih
    by false name ih = ih

pub count_more : (test : List ℕ → Bool) (before : List (List ℕ)) (card : List ℕ) → count_by test (before ++ card ∷ []) ≡ count_by test before + one_if (test card)
count_more test before card =
    let alone : 0 + one_if (test card) ≡ one_if (test card) = omega arith in
    sum_by-append (λ (x : List ℕ). one_if (test x)) before (card ∷ []) ∙ ap (λ (n : ℕ). count_by test before + n) alone

pub count_first : (test : List ℕ → Bool) (card : List ℕ) (cards : List (List ℕ)) → count_by test (card ∷ cards) ≡ one_if (test card) + count_by test cards
count_first test card cards = sum_by-cons (λ (x : List ℕ). one_if (test x)) card cards

all_more : (test : List ℕ → Bool) (before : List (List ℕ)) (card : List ℕ) → list_all test (before ++ card ∷ []) ≡ (list_all test before && test card)
all_more test before card = list_all-append test before (card ∷ []) ∙ ap (λ (b : Bool). list_all test before && b) (by (test card) refl)
  where
    by : (b : Bool) → test card ≡ b → list_all test (card ∷ []) ≡ test card
    by true e = rw e refl
    by false e = rw e refl

pub past_more : (before : List (List ℕ)) (card : List ℕ) → past_with (past_of before) card ≡ past_of (before ++ card ∷ [])
past_more before card =
    rw (
      all_more is_comment before card,
      named_more (codes "ENTRY") before card,
      named_more (codes "EXTERN") before card,
      count_more (has_operation (codes "ENTRY")) before card,
      count_more (has_operation (codes "EXTERN")) before card,
    ) refl

pub past_next : (before : List (List ℕ)) (card : List ℕ) (p q : Past) → p ≡ past_of before → q ≡ past_with p card → q ≡ past_of (before ++ card ∷ [])
past_next before card p q a b = b ∙ ap (λ (x : Past). past_with x card) a ∙ past_more before card

-- a card's fault by what stood before it, and where it stands

plain_equs : (o : Option Operation) (r : Relocated) (m : Moved) (equs : List ℕ) (before : List (List ℕ)) (card : List ℕ)
    → plain_fault_by o r (past_of before) (record { known = m.known; weights = m.weights; equs = equs }) card ≡ plain_fault o r m before card
plain_equs None r m equs before card = refl
plain_equs (Some (machine o)) r m equs before card = refl
plain_equs (Some pze) r m equs before card = refl
plain_equs (Some org) r m equs before card = refl
plain_equs (Some bss) r m equs before card = refl
plain_equs (Some equ) r m equs before card = refl
plain_equs (Some dec) r m equs before card = refl
plain_equs (Some oct) r m equs before card = refl
plain_equs (Some bci) r m equs before card = refl
plain_equs (Some end) r m equs before card = refl

plain_same : (o : Option Operation) (r : Relocated) (m n : Moved) (before : List (List ℕ)) (card : List ℕ) → n.known ≡ m.known → n.weights ≡ m.weights
    → plain_fault_by o r (past_of before) n card ≡ plain_fault o r m before card
plain_same o r m n before card k w =
    ap (λ (x : Known). plain_fault_by o r (past_of before) (record { known = x; weights = n.weights; equs = n.equs }) card) k
    ∙ ap (λ (x : List (ℕ × ℕ)). plain_fault_by o r (past_of before) (record { known = m.known; weights = x; equs = n.equs }) card) w ∙ plain_equs o r m n.equs before card

pub fault_same : (r : Relocated) (m n : Moved) (before : List (List ℕ)) (card : List ℕ) → n.known ≡ m.known → n.weights ≡ m.weights
    → module_fault_by r (past_of before) n card ≡ module_fault r m before card
fault_same r m n before card k w = rw (plain_same (without_org (says.operation_named (operation_of card))) r m n before card k w, k) refl

left_false : (a b : Bool) → (a || b) ≡ false → a ≡ false
left_false false b h = refl
left_false true b h = absurd (true≢false h)

module _ (r : Relocated) (p : Past) (m : Moved) (card : List ℕ) (s : Option Said) (known wrong : Bool) (known_is : known ≡ symbol_is_known (seen_by p m.known) (symbol_of card)) where
  pub word_read : (o : Operation) → s ≡ option_map (said (names_of o r m) m.known.place) (says.field_for o card) → wrong ≡ is_none (card_kind o r m card)
      → fault_known o card s known m.known.place 1 wrong ≡ word_fault_by o r p m card
  word_read o a b = rw (a, known_is, b) (read_fault r p m o card 1 (is_none (card_kind o r m card)) (λ h. h))

  pub end_read : (heavy : Bool) (more : ℕ) → s ≡ option_map (said (names_of end r m) m.known.place) (says.field_for end card) → heavy ≡ is_none (card_kind end r m card)
      → more ≡ length r.whole.literals + 1 → wrong ≡ (heavy || is_start_outside r.whole.blocks s)
      → fault_known end card s known m.known.place more wrong ≡ plain_fault_by (Some end) r p m card
  end_read heavy more a b l w =
      rw (w, a, known_is, b, l, outside_is r.whole m.known (says.field_for end card))
      (read_fault r p m end card (length r.whole.literals + 1) (is_none (card_kind end r m card) || start_is_outside r.whole m.known (says.field_for end card))
      (λ h. left_false (is_none (card_kind end r m card)) (start_is_outside r.whole m.known (says.field_for end card)) h))

pub word_plain : (o : Operation) (r : Relocated) (p : Past) (m : Moved) (card : List ℕ) → o ≢ end → word_fault_by o r p m card ≡ plain_fault_by (Some o) r p m card
word_plain (machine o) r p m card h = refl
word_plain pze r p m card h = refl
word_plain org r p m card h = refl
word_plain bss r p m card h = refl
word_plain equ r p m card h = refl
word_plain dec r p m card h = refl
word_plain oct r p m card h = refl
word_plain bci r p m card h = refl
word_plain end r p m card h = absurd (h refl)

-- as many names and cards as stood before, at most

named_few : (operation : List ℕ) (before : List (List ℕ)) → length (named_by operation before) ≤ length before
named_few operation [] = omega arith
named_few operation (c ∷ before) = by (has_operation operation c) (field_symbol c) (named_few operation before)
  where
    by : (b : Bool) (name : Option ℕ) → length (named_by operation before) ≤ length before
        → length (if b then with_named name (named_by operation before) else named_by operation before) ≤ suc (length before)
    by true None ih = omega (arith, ih)
    by true (Some name) ih = omega (arith, ih)
    by false name ih = omega (arith, ih)

texts_few : (cards : List Card) (i : ℕ) → length (texts (take i cards)) ≤ length cards
texts_few [] zero = omega arith
texts_few [] (suc i) = omega arith
texts_few (c ∷ cards) zero = omega arith
texts_few (c ∷ cards) (suc i) = omega (arith, texts_few cards i)

module _ (cards : List Card) (i : ℕ) (p : Past) (h : p ≡ past_of (texts (take i cards))) (few : length cards < 2 ^ 32) where
  pub past_entries : length p.entries < 2 ^ 32
  past_entries = rw h (omega (arith, few, texts_few cards i, named_few (codes "ENTRY") (texts (take i cards))))

  pub past_externs : length p.externs < 2 ^ 32
  past_externs = rw h (omega (arith, few, texts_few cards i, named_few (codes "EXTERN") (texts (take i cards))))

  pub past_entry_cards : p.entry_cards < 2 ^ 32
  past_entry_cards = rw h (omega (arith, few, texts_few cards i, count_by-le-length (has_operation (codes "ENTRY")) (texts (take i cards))))

  pub past_extern_cards : p.extern_cards < 2 ^ 32
  past_extern_cards = rw h (omega (arith, few, texts_few cards i, count_by-le-length (has_operation (codes "EXTERN")) (texts (take i cards))))

pub seen_first : (table : List (ℕ × ℕ)) (externs : List ℕ) (name : ℕ) (v : Option ℕ) → v ≡ value_in table name → is_some v ≡ true → true ≡ not (is_none (value_in (table ++ with_externs externs []) name))
seen_first table externs name v e h =
    sym (seen_value table externs name ∙ ap (λ (o : Option ℕ). is_some o || is_among externs name) (sym e) ∙ ap (λ (b : Bool). b || is_among externs name) h)

pub seen_later : (table : List (ℕ × ℕ)) (externs : List ℕ) (name : ℕ) (v : Option ℕ) → v ≡ value_in table name → is_some v ≡ false
    → is_among externs name ≡ not (is_none (value_in (table ++ with_externs externs []) name))
seen_later table externs name v e h =
    sym (seen_value table externs name ∙ ap (λ (o : Option ℕ). is_some o || is_among externs name) (sym e) ∙ ap (λ (b : Bool). b || is_among externs name) h)

pub past_parts : (p : Past) (card : List ℕ) (only : Bool) (entries : List ℕ) (entry_cards : ℕ) (externs : List ℕ) (extern_cards : ℕ) → only ≡ (p.only_comments && is_comment card)
    → entries ≡ p.entries ++ named_by (codes "ENTRY") (card ∷ []) → entry_cards ≡ p.entry_cards + one_if (has_operation (codes "ENTRY") card)
    → externs ≡ p.externs ++ named_by (codes "EXTERN") (card ∷ []) → extern_cards ≡ p.extern_cards + one_if (has_operation (codes "EXTERN") card)
    → record { only_comments = only; entries = entries; entry_cards = entry_cards; externs = externs; extern_cards = extern_cards } ≡ past_with p card
past_parts p card only entries entry_cards externs extern_cards a b d e f = rw (a, b, d, e, f) refl
