-- A module that cards make is one that the words of its file can say.
use Rattle.std.proofs.Common.{◌≡◌, ℕ, zero, suc, ◌+◌, ◌*◌, ◌^◌, ◌%◌, ◌<◌, ◌≤◌, Bool, true, false, not, ◌&&◌, ◌||◌, cond, nat_eq, nat_le, nat_lt, if◌then◌else◌, List, [], ◌∷◌, ◌++◌, length, map, filter, replicate, Option, Some, None, is_none, refl, sym, ap, ◌∙◌, subst, arith, append_assoc, append-nil, length-append, leb-true, leb-false, eqb-true, codes, bytes_eq}
use Rattle.std.specs.Prelude.{count_by}
use Rattle.std.specs.List.{list_all}
use Rattle.std.proofs.lemmas.Bool.{or_parts, and_parts, le-leb, false≢true}
use Rattle.std.proofs.lemmas.Bool.Decides.{nat_tests}
use Rattle.std.proofs.lemmas.List.{length-map}
use Rattle.std.proofs.lemmas.List.Folds.{list_all-append}
use Rattle.std.proofs.lemmas.List.Sums.{length-filter}
use Rattle.fap_model.specs.Cards.{is_comment, operation_of, symbol_of}
use Rattle.fap_model.specs.declared.types.Operation.{Operation}
use Rattle.fap_model.specs.declared.types.Operation.TheVariants.{Machine as machine, Pze as pze, Org as org, Bss as bss, Equ as equ, Dec as dec, Oct as oct, Bci as bci, End as end}
use Rattle.fap_model.specs.declared.types.Term.{Term}
use Rattle.fap_model.specs.declared.types.Term.TheVariants.{Named, Number, Here}
use Rattle.fap_model.specs.Terms.{Signed}
use Rattle.fap_model.specs.Statements.{Address, plain, literal, Field, placed, half, nothing, value, words, field_for}
use Rattle.fap_model.specs.Places.{max_place, value_in, or_zero, with_symbol}
use Rattle.fap_model.specs.Decks.{cards_read, cards_before_end, blocks_for, index_from, words_by, fault_entry}
use Rattle.link_model.specs.declared.types.Module.{Module}
use Rattle.link_model.specs.declared.types.ModuleEntry.{ModuleEntry}
use Rattle.link_model.specs.declared.types.ModulePlace.{ModulePlace}
use Rattle.link_model.specs.Modules.{is_bounded, is_module}
use Rattle.link_model.specs.Weights.{with_externs, is_among, names_extern, externs_in, added_kind, plain_kind, address_kind, is_light, most_weight, weight_of, kind_in, kind_of}
use Rattle.link_model.specs.Moves.{Moved, nothing_moved, module_operation, early_kind, count_in, moved_size, worth, is_equ_in, equs_with, moved_with, moved_behind, moved_after}
use Rattle.link_model.specs.ModuleCards.{Relocated, relocated_of, has_operation, field_symbol, with_named, named_by, is_marked, is_over, entry_fault, entry_fault_of, extern_fault, extern_fault_of, symbols_seen, module_fault, module_faults, module_faults_from, weights_of, cell, cells_by, cells_from, entries_of, module_of_cards, module_made, relocatable}
use Rattle.rule_laws.proofs.Cases.{same_text}
use Rattle.rule_laws.proofs.Wholes.{both_none, no_entry}
use Rattle.rule_laws.proofs.Tables.{prefix_value}
use Rattle.rule_laws.proofs.Laid.{no_moved, end_fits}
use Rattle.rule_laws.proofs.Made.{ModuleGood, module_good, cells_size, moved_append, without_faults}
use Rattle.rule_laws.proofs.Starts.{module_starts}

-- cards of which none is at fault
abbrev AllSound : Relocated → Moved → (before cards : List (List ℕ)) → Type 0
AllSound r m before [] = Unit {0}
AllSound r m before (card ∷ cards) = (module_fault r m before card ≡ 0) × AllSound r (moved_behind r.externs m card) (before ++ card ∷ []) cards

all_sound : (r : Relocated) (n : ℕ) (m : Moved) (before cards : List (List ℕ)) → module_faults_from r n m before cards ≡ [] → AllSound r m before cards
all_sound r n m before [] h = tt
all_sound r n m before (card ∷ cards) h =
    let parts = both_none (fault_entry n (module_fault r m before card))
    (module_faults_from r (suc n) (moved_behind r.externs m card) (before ++ card ∷ []) cards) h in
    (no_entry n (module_fault r m before card) parts.0, all_sound r (suc n) (moved_behind r.externs m card) (before ++ card ∷ []) cards parts.1)

-- how many of a list
abbrev counts : {A : Type 0} → (A → Bool) → List A → ℕ
counts p xs = length (filter p xs)

-- ENTRY and EXTERN cards

unmarked : (b : Bool) (n : ℕ) → (if b then 2 else n) ≡ 0 → n ≡ 0
unmarked true n h = absurd (omega (arith, h))
unmarked false n h = h

is_not : (b : Bool) → not b ≡ true → b ≡ false
is_not true h = cc
is_not false h = refl

record EntryGood (r : Relocated) (before : List (List ℕ)) (card : List ℕ) : Type 0 where
  name : ℕ
  named : field_symbol card ≡ Some name
  apart : (is_among r.externs name || is_among r.equs name) ≡ false
  there : is_none (value_in r.whole.names name) ≡ false
  few : counts (has_operation (codes "ENTRY")) before < 32766

abbrev entry_code : (a b c d : Bool) → ℕ
entry_code a b c d = if a then 2 else (if b then 3 else (if c then 4 else (if d then 5 else 0)))

entry_tests : (a b c d : Bool) → entry_code a b c d ≡ 0 → (a ≡ false) × ((b ≡ false) × (d ≡ false))
entry_tests true b c d h = absurd (omega (arith, h))
entry_tests false true c d h = absurd (omega (arith, h))
entry_tests false false true d h = absurd (omega (arith, h))
entry_tests false false false true h = absurd (omega (arith, h))
entry_tests false false false false h = (refl, (refl, refl))

few_of : (name : List ℕ) (m : Moved) (before : List (List ℕ)) → is_over name m before ≡ false → counts (has_operation name) before < 32766
few_of name m before h =
    subst (λ (n : ℕ). n < 32766) (sym (length-filter (has_operation name) before))
    (leb-false 32766 (count_by (has_operation name) before) (or_parts (nat_le max_place m.known.place) (nat_le 32766 (count_by (has_operation name) before)) h).1)

entry_good : (r : Relocated) (m : Moved) (before : List (List ℕ)) (card : List ℕ) → has_operation (codes "ENTRY") card ≡ true → module_fault r m before card ≡ 0
    → EntryGood r before card
entry_good r m before card has sound = by_symbol (field_symbol card) refl (unmarked (is_marked card) (entry_fault_of r m before (field_symbol card)) fault)
  where
    parts : (not (is_comment card) ≡ true) × (bytes_eq (operation_of card) (codes "ENTRY") ≡ true)
    parts = and_parts (not (is_comment card)) (bytes_eq (operation_of card) (codes "ENTRY")) has

    no_comment : is_comment card ≡ false
    no_comment = is_not (is_comment card) parts.0

    no_rel : bytes_eq (operation_of card) (codes "REL") ≡ false
    no_rel = ap (λ (t : List ℕ). bytes_eq t (codes "REL")) (same_text (operation_of card) (codes "ENTRY") parts.1)

    fault : entry_fault r m before card ≡ 0
    fault = rw (no_comment, no_rel, parts.1) at sound

    by_symbol : (s : Option ℕ) → field_symbol card ≡ s → entry_fault_of r m before s ≡ 0 → EntryGood r before card
    by_symbol None e h = absurd (omega (arith, h))
    by_symbol (Some name) e h =
        let t = entry_tests (is_among r.externs name || is_among r.equs name) (is_none (value_in r.whole.names name))
        (is_among (named_by (codes "ENTRY") before) name) (is_over (codes "ENTRY") m before) h in
        record { name = name; named = e; apart = t.0; there = t.1.0; few = few_of (codes "ENTRY") m before t.1.1 }

abbrev extern_code : (a b : Bool) → ℕ
extern_code a b = if a then 4 else (if b then 5 else 0)

extern_tests : (a b : Bool) → extern_code a b ≡ 0 → b ≡ false
extern_tests true b h = absurd (omega (arith, h))
extern_tests false true h = absurd (omega (arith, h))
extern_tests false false h = refl

extern_few : (r : Relocated) (m : Moved) (before : List (List ℕ)) (card : List ℕ) → has_operation (codes "EXTERN") card ≡ true → module_fault r m before card ≡ 0
    → counts (has_operation (codes "EXTERN")) before < 32766
extern_few r m before card has sound = by_symbol (field_symbol card) (unmarked (is_marked card) (extern_fault_of m before (field_symbol card)) fault)
  where
    parts : (not (is_comment card) ≡ true) × (bytes_eq (operation_of card) (codes "EXTERN") ≡ true)
    parts = and_parts (not (is_comment card)) (bytes_eq (operation_of card) (codes "EXTERN")) has

    no_comment : is_comment card ≡ false
    no_comment = is_not (is_comment card) parts.0

    text : operation_of card ≡ codes "EXTERN"
    text = same_text (operation_of card) (codes "EXTERN") parts.1

    no_rel : bytes_eq (operation_of card) (codes "REL") ≡ false
    no_rel = ap (λ (t : List ℕ). bytes_eq t (codes "REL")) text

    no_entry_card : bytes_eq (operation_of card) (codes "ENTRY") ≡ false
    no_entry_card = ap (λ (t : List ℕ). bytes_eq t (codes "ENTRY")) text

    fault : extern_fault m before card ≡ 0
    fault = rw (no_comment, no_rel, no_entry_card, parts.1) at sound

    by_symbol : (s : Option ℕ) → extern_fault_of m before s ≡ 0 → counts (has_operation (codes "EXTERN")) before < 32766
    by_symbol None h = absurd (omega (arith, h))
    by_symbol (Some name) h =
        few_of (codes "EXTERN") m before (extern_tests (not (is_none (value_in (symbols_seen m before).symbols name))) (is_over (codes "EXTERN") m before) h)

-- how many there are

abbrev ones : Bool → ℕ
ones b = cond b 1 0

only_one : {A : Type 0} (b : Bool) (x : A) → length (cond b (x ∷ []) []) ≡ ones b + 0
only_one true x = refl
only_one false x = refl

count_last : {A : Type 0} (p : A → Bool) (xs : List A) (x : A) → counts p (xs ++ x ∷ []) ≡ ones (p x) + counts p xs
count_last p [] x = only_one (p x) x
count_last p (y ∷ xs) x = by_test (p y) (count_last p xs x)
  where
    by_test : (b : Bool) → counts p (xs ++ x ∷ []) ≡ ones (p x) + counts p xs
        → length (cond b (y ∷ filter p (xs ++ x ∷ [])) (filter p (xs ++ x ∷ []))) ≡ ones (p x) + length (cond b (y ∷ filter p xs) (filter p xs))
    by_test true ih = omega (arith, ih)
    by_test false ih = ih

one_more : (c : ℕ) (b : Bool) → c ≤ 32766 → (b ≡ true → c < 32766) → ones b + c ≤ 32766
one_more c true h few = let k = few refl in omega (arith, k)
one_more c false h few = omega (arith, h)

counted : (name : List ℕ) (r : Relocated) → ((m : Moved) (before : List (List ℕ)) (card : List ℕ) → has_operation name card ≡ true → module_fault r m before card ≡ 0
    → counts (has_operation name) before < 32766)
    → (m : Moved) (before cards : List (List ℕ)) → AllSound r m before cards → counts (has_operation name) before ≤ 32766
    → counts (has_operation name) (before ++ cards) ≤ 32766
counted name r few m before [] sound h = subst (λ (l : List (List ℕ)). counts (has_operation name) l ≤ 32766) (sym (append-nil before)) h
counted name r few m before (card ∷ cards) sound h =
    let here : counts (has_operation name) (before ++ card ∷ []) ≤ 32766 =
    subst (λ (n : ℕ). n ≤ 32766) (sym (count_last (has_operation name) before card))
    (one_more (counts (has_operation name) before) (has_operation name card) h (λ has. few m before card has sound.0)) in
    subst (λ (l : List (List ℕ)). counts (has_operation name) l ≤ 32766) (append_assoc before (card ∷ []) cards)
    (counted name r few (moved_behind r.externs m card) (before ++ card ∷ []) cards sound.1 here)

named_length : (s : Option ℕ) (names : List ℕ) → length (with_named s names) ≤ 1 + length names
named_length None names = omega arith
named_length (Some name) names = omega arith

named_count : (name : List ℕ) (cards : List (List ℕ)) → length (named_by name cards) ≤ counts (has_operation name) cards
named_count name [] = omega arith
named_count name (card ∷ cards) = by_test (has_operation name card) (named_count name cards)
  where
    by_test : (b : Bool) → length (named_by name cards) ≤ counts (has_operation name) cards
        → length (if b then with_named (field_symbol card) (named_by name cards) else named_by name cards)
        ≤ length (cond b (card ∷ filter (has_operation name) cards) (filter (has_operation name) cards))
    by_test true ih = let k = named_length (field_symbol card) (named_by name cards) in omega (arith, k, ih)
    by_test false ih = omega (arith, ih)

few_named : (name : List ℕ) (r : Relocated) → ((m : Moved) (before : List (List ℕ)) (card : List ℕ) → has_operation name card ≡ true → module_fault r m before card ≡ 0
    → counts (has_operation name) before < 32766)
    → (cards : List (List ℕ)) → AllSound r nothing_moved [] cards → length (named_by name cards) ≤ 32766
few_named name r few cards sound =
    let k = counted name r few nothing_moved [] cards sound (omega arith) in
    let n = named_count name cards in omega (arith, k, n)

-- entries within the module

abbrev fits_in : ℕ → ModuleEntry → Bool
fits_in h e = nat_le e.place h

abbrev entry_named : Relocated → ℕ → ModuleEntry
entry_named r name = record { name = name; place = or_zero (value_in r.whole.names name) }

both : (a b : Bool) → a ≡ true → b ≡ true → (a && b) ≡ true
both true true one two = refl
both true false one two = cc
both false b one two = cc

entries_fit : (r : Relocated) (h : ℕ) → ((name : ℕ) → (is_among r.externs name || is_among r.equs name) ≡ false → or_zero (value_in r.whole.names name) ≤ h)
    → (m : Moved) (before cards : List (List ℕ)) → AllSound r m before cards → list_all (fits_in h) (map (entry_named r) (named_by (codes "ENTRY") cards)) ≡ true
entries_fit r h within m before [] sound = refl
entries_fit r h within m before (card ∷ cards) sound =
    by_test (has_operation (codes "ENTRY") card) refl (entries_fit r h within (moved_behind r.externs m card) (before ++ card ∷ []) cards sound.1)
  where
    by_test : (b : Bool) → has_operation (codes "ENTRY") card ≡ b → list_all (fits_in h) (map (entry_named r) (named_by (codes "ENTRY") cards)) ≡ true
        → list_all (fits_in h) (map (entry_named r) (if b then with_named (field_symbol card) (named_by (codes "ENTRY") cards) else named_by (codes "ENTRY") cards)) ≡ true
    by_test false e rest = rest
    by_test true e rest =
        let g = entry_good r m before card e sound.0 in
        rw g.named (both (nat_le (or_zero (value_in r.whole.names g.name)) h) _ (le-leb (or_zero (value_in r.whole.names g.name)) h (within g.name g.apart)) rest)

-- kinds that are there

index_small : (n : ℕ) (names : List ℕ) (name : ℕ) → is_among names name ≡ true → index_from n names name < n + length names
index_small n [] name h = absurd (false≢true h)
index_small n (x ∷ names) name h = by_test (nat_eq x name) h (λ rest. index_small (suc n) names name rest)
  where
    by_test : (b : Bool) → (b || is_among names name) ≡ true → (is_among names name ≡ true → index_from (suc n) names name < suc n + length names)
        → (if b then n else index_from (suc n) names name) < n + length (x ∷ names)
    by_test true h ih = omega arith
    by_test false h ih = let k = ih h in omega (arith, k)

first_passes : {A : Type 0} (p : A → Bool) (us : List A) (t : A) (ts : List A) → filter p us ≡ t ∷ ts → p t ≡ true
first_passes p [] t ts h = absurd cc
first_passes p (u ∷ us) t ts h = by_test (p u) refl h (λ rest. first_passes p us t ts rest)
  where
    by_test : (b : Bool) → p u ≡ b → cond b (u ∷ filter p us) (filter p us) ≡ t ∷ ts → (filter p us ≡ t ∷ ts → p t ≡ true) → p t ≡ true
    by_test true e h ih = let same : u ≡ t = cc in ap p (sym same) ∙ e
    by_test false e h ih = ih h

abbrev Small : List ℕ → Option ℕ → Type 0
Small externs o = or_zero o < 2 + length externs

added_small : (externs : List ℕ) (minus : Bool) (t : Term) → names_extern externs t ≡ true → Small externs (added_kind externs minus t)
added_small externs true t h = omega arith
added_small externs false (Named name) h = let k = index_small 0 externs name h in omega (arith, k)
added_small externs false (Number n) h = omega arith
added_small externs false Here h = omega arith

plain_small : (externs : List ℕ) (weight : ℕ) (us ts : List Signed) → externs_in externs us ≡ ts → Small externs (plain_kind externs weight ts)
plain_small externs weight us [] e = by_test (nat_le weight 1) refl
  where
    by_test : (b : Bool) → nat_le weight 1 ≡ b → Small externs (if b then Some weight else None)
    by_test true h = let k = leb-true weight 1 h in omega (arith, k)
    by_test false h = omega arith
plain_small externs weight us (t ∷ []) e = by_test (nat_eq weight 0)
  where
    by_test : (b : Bool) → Small externs (if b then added_kind externs t.0 t.1 else None)
    by_test true = added_small externs t.0 t.1 (first_passes (λ (s : Signed). names_extern externs s.1) us t [] e)
    by_test false = omega arith
plain_small externs weight us (t ∷ u ∷ ts) e = omega arith

address_small : (externs : List ℕ) (weights : List (ℕ × ℕ)) (a : Address) → Small externs (address_kind externs weights a)
address_small externs weights (plain ts) = plain_small externs (weight_of weights ts) ts (externs_in externs ts) refl
address_small externs weights (literal w) = omega arith

light_small : (o : Operation) (externs : List ℕ) (weight : ℕ) (b : Bool) → Small externs (if nat_le weight (most_weight o) && b then Some weight else None)
light_small o externs weight b = by_test (nat_le weight (most_weight o)) refl b (most o)
  where
    most : (o : Operation) → most_weight o ≤ 1
    most (machine op) = omega arith
    most pze = omega arith
    most org = omega arith
    most bss = omega arith
    most equ = omega arith
    most dec = omega arith
    most oct = omega arith
    most bci = omega arith
    most end = omega arith

    by_test : (t : Bool) → nat_le weight (most_weight o) ≡ t → (b : Bool) → most_weight o ≤ 1 → Small externs (if t && b then Some weight else None)
    by_test true h true k = let w = leb-true weight (most_weight o) h in omega (arith, w, k)
    by_test true h false k = omega arith
    by_test false h b k = omega arith

kind_in_small : (o : Operation) (externs : List ℕ) (weights : List (ℕ × ℕ)) (f : Field) → Small externs (kind_in o externs weights f)
kind_in_small o externs weights (placed a tag decrement) = by_test (is_light 0 externs weights tag && is_light 0 externs weights decrement)
  where
    by_test : (b : Bool) → Small externs (if b then address_kind externs weights a else None)
    by_test true = address_small externs weights a
    by_test false = omega arith
kind_in_small o externs weights (half n) = omega arith
kind_in_small o externs weights nothing = omega arith
kind_in_small o externs weights (value ts) = light_small o externs (weight_of weights ts) (nat_eq (length (externs_in externs ts)) 0)
kind_in_small o externs weights (words ws) = omega arith

kind_small : (o : Operation) (externs : List ℕ) (weights : List (ℕ × ℕ)) (f : Option Field) → Small externs (kind_of o externs weights f)
kind_small o externs weights None = omega arith
kind_small o externs weights (Some f) = kind_in_small o externs weights f

abbrev kind_below : ℕ → ModulePlace → Bool
kind_below n p = nat_lt p.kind n

cells_of_kind : (n kind : ℕ) (ws : List ℕ) → kind < n → list_all (kind_below n) (map (cell kind) ws) ≡ true
cells_of_kind n kind [] h = refl
cells_of_kind n kind (w ∷ ws) h = both (nat_lt kind n) _ (le-leb (suc kind) n h) (cells_of_kind n kind ws h)

zero_cells : (n k : ℕ) → 0 < n → list_all (kind_below n) (replicate k (cell 0 0)) ≡ true
zero_cells n zero h = refl
zero_cells n (suc k) h = both (nat_lt 0 n) _ (le-leb 1 n h) (zero_cells n k h)

card_cells : (r : Relocated) (m : Moved) (o : Option Operation) (card : List ℕ) → list_all (kind_below (2 + length r.externs)) (cells_by r m o card) ≡ true
card_cells r m None card = refl
card_cells r m (Some bss) card = zero_cells (2 + length r.externs) (moved_size r.externs m (Some bss) card) (omega arith)
card_cells r m (Some (machine o)) card = cells_of_kind _ _ (words_by r.whole m.known (Some (machine o)) card) (kind_small (machine o) r.externs (weights_of (machine o) r m) (field_for (machine o) card))
card_cells r m (Some pze) card = cells_of_kind _ _ (words_by r.whole m.known (Some pze) card) (kind_small pze r.externs (weights_of pze r m) (field_for pze card))
card_cells r m (Some org) card = cells_of_kind _ _ (words_by r.whole m.known (Some org) card) (kind_small org r.externs (weights_of org r m) (field_for org card))
card_cells r m (Some equ) card = cells_of_kind _ _ (words_by r.whole m.known (Some equ) card) (kind_small equ r.externs (weights_of equ r m) (field_for equ card))
card_cells r m (Some dec) card = cells_of_kind _ _ (words_by r.whole m.known (Some dec) card) (kind_small dec r.externs (weights_of dec r m) (field_for dec card))
card_cells r m (Some oct) card = cells_of_kind _ _ (words_by r.whole m.known (Some oct) card) (kind_small oct r.externs (weights_of oct r m) (field_for oct card))
card_cells r m (Some bci) card = cells_of_kind _ _ (words_by r.whole m.known (Some bci) card) (kind_small bci r.externs (weights_of bci r m) (field_for bci card))
card_cells r m (Some end) card = cells_of_kind _ _ (words_by r.whole m.known (Some end) card) (kind_small end r.externs (weights_of end r m) (field_for end card))

all_cells : (r : Relocated) (m : Moved) (cards : List (List ℕ)) → list_all (kind_below (2 + length r.externs)) (cells_from r m cards) ≡ true
all_cells r m [] = refl
all_cells r m (card ∷ cards) =
    list_all-append (kind_below (2 + length r.externs)) (cells_by r m (module_operation card) card) (cells_from r (moved_behind r.externs m card) cards)
    ∙ both (list_all (kind_below (2 + length r.externs)) (cells_by r m (module_operation card) card)) _
    (card_cells r m (module_operation card) card) (all_cells r (moved_behind r.externs m card) cards)

-- symbols within the module

value_front : (a c : List (ℕ × ℕ)) (name v : ℕ) → value_in a name ≡ Some v → value_in (a ++ c) name ≡ Some v
value_front [] c name v h = absurd cc
value_front (x ∷ a) c name v h = by_test (nat_eq name x.0) h (λ rest. value_front a c name v rest)
  where
    by_test : (t : Bool) → cond t (Some x.1) (value_in a name) ≡ Some v → (value_in a name ≡ Some v → value_in (a ++ c) name ≡ Some v)
        → cond t (Some x.1) (value_in (a ++ c) name) ≡ Some v
    by_test true h ih = h
    by_test false h ih = ih h

value_behind : (a c : List (ℕ × ℕ)) (name : ℕ) → value_in a name ≡ None → value_in (a ++ c) name ≡ value_in c name
value_behind [] c name h = refl
value_behind (x ∷ a) c name h = by_test (nat_eq name x.0) h (λ rest. value_behind a c name rest)
  where
    by_test : (t : Bool) → cond t (Some x.1) (value_in a name) ≡ None → (value_in a name ≡ None → value_in (a ++ c) name ≡ value_in c name)
        → cond t (Some x.1) (value_in (a ++ c) name) ≡ value_in c name
    by_test true h ih = absurd cc
    by_test false h ih = ih h

-- a symbol that is no EQU's lies at or before the place behind the cards so far
abbrev Placed : Moved → Type 0
Placed m = (name v : ℕ) → value_in m.known.symbols name ≡ Some v → is_among m.equs name ≡ false → v ≤ m.known.place

mod_most : (p : ℕ) → p % 2 ^ 15 ≤ p
mod_most p = omega arith

-- the value of a symbol that is no EQU's
worth_most : (externs : List ℕ) (m : Moved) (o : Option Operation) (card : List ℕ) → is_equ_in o ≡ false → (worth externs m o card).0 ≤ m.known.place
worth_most externs m None card h = mod_most m.known.place
worth_most externs m (Some equ) card h = absurd cc
worth_most externs m (Some (machine op)) card h = mod_most m.known.place
worth_most externs m (Some pze) card h = mod_most m.known.place
worth_most externs m (Some org) card h = mod_most m.known.place
worth_most externs m (Some bss) card h = mod_most m.known.place
worth_most externs m (Some dec) card h = mod_most m.known.place
worth_most externs m (Some oct) card h = mod_most m.known.place
worth_most externs m (Some bci) card h = mod_most m.known.place
worth_most externs m (Some end) card h = mod_most m.known.place

among_before : (names : List ℕ) (x name : ℕ) → is_among (names ++ x ∷ []) name ≡ false → (is_among names name ≡ false) × (nat_eq x name ≡ false)
among_before [] x name h = (refl, (or_parts (nat_eq x name) false h).0)
among_before (y ∷ names) x name h =
    let parts = or_parts (nat_eq y name) (is_among (names ++ x ∷ []) name) h in
    let rest = among_before names x name parts.1 in
    (rw (parts.0, rest.0) refl, rest.1)

not_other : (a b : ℕ) → nat_eq a b ≡ false → nat_eq b a ≡ true → ⊥
not_other a b h k = let same : b ≡ a = eqb-true b a k in grind (arith, nat_tests)

-- the table with one symbol more, and the EQUs
abbrev PlacedIn : List (ℕ × ℕ) → List ℕ → ℕ → Type 0
PlacedIn symbols equs place = (name v : ℕ) → value_in symbols name ≡ Some v → is_among equs name ≡ false → v ≤ place

placed_push : (symbols : List (ℕ × ℕ)) (equs : List ℕ) (place w s : ℕ) (is_equ : Bool) → PlacedIn symbols equs place → (is_equ ≡ false → w ≤ place)
    → PlacedIn (symbols ++ (s, w) ∷ []) (if is_equ then equs ++ s ∷ [] else equs) place
placed_push symbols equs place w s is_equ h small = λ name v found apart. by_old name v is_equ small apart (value_in symbols name) refl found
  where
    by_old : (name v : ℕ) (e : Bool) → (e ≡ false → w ≤ place) → is_among (if e then equs ++ s ∷ [] else equs) name ≡ false
        → (old : Option ℕ) → value_in symbols name ≡ old → value_in (symbols ++ (s, w) ∷ []) name ≡ Some v → v ≤ place
    by_old name v true small apart (Some u) is found =
        let same : u ≡ v = (let a = value_front symbols ((s, w) ∷ []) name u is in cc) in
        subst (λ (n : ℕ). n ≤ place) same (h name u is (among_before equs s name apart).0)
    by_old name v false small apart (Some u) is found =
        let same : u ≡ v = (let a = value_front symbols ((s, w) ∷ []) name u is in cc) in
        subst (λ (n : ℕ). n ≤ place) same (h name u is apart)
    by_old name v true small apart None is found =
        new_equ (nat_eq name s) refl (among_before equs s name apart).1 (sym (value_behind symbols ((s, w) ∷ []) name is) ∙ found)
      where
        new_equ : (t : Bool) → nat_eq name s ≡ t → nat_eq s name ≡ false → cond t (Some w) None ≡ Some v → v ≤ place
        new_equ true e other found = absurd (not_other s name other e)
        new_equ false e other found = absurd cc
    by_old name v false small apart None is found =
        new_symbol (nat_eq name s) (sym (value_behind symbols ((s, w) ∷ []) name is) ∙ found)
      where
        new_symbol : (t : Bool) → cond t (Some w) None ≡ Some v → v ≤ place
        new_symbol true found = let same : w ≡ v = cc in subst (λ (n : ℕ). n ≤ place) same (small refl)
        new_symbol false found = absurd cc

placed_with : (m : Moved) (o : Option Operation) (symbol : Option ℕ) (w : ℕ) → Placed m → (is_equ_in o ≡ false → w ≤ m.known.place)
    → PlacedIn (with_symbol m.known symbol w) (equs_with m o symbol) m.known.place
placed_with m o None w h small = h
placed_with m o (Some s) w h small = by_new (is_none (value_in m.known.symbols s)) (is_equ_in o) small
  where
    by_new : (b e : Bool) → (e ≡ false → w ≤ m.known.place)
        → PlacedIn (if b then m.known.symbols ++ (s, w) ∷ [] else m.known.symbols) (if e && b then m.equs ++ s ∷ [] else m.equs) m.known.place
    by_new true true small = placed_push m.known.symbols m.equs m.known.place w s true h small
    by_new true false small = placed_push m.known.symbols m.equs m.known.place w s false h small
    by_new false true small = h
    by_new false false small = h

placed_more : (symbols : List (ℕ × ℕ)) (equs : List ℕ) (place more : ℕ) → PlacedIn symbols equs place → PlacedIn symbols equs (place + more)
placed_more symbols equs place more h = λ name v found apart. let k = h name v found apart in omega (arith, k)

placed_behind : (externs : List ℕ) (m : Moved) (card : List ℕ) → Placed m → Placed (moved_behind externs m card)
placed_behind externs m card h = by_comment (is_comment card)
  where
    by_comment : (b : Bool) → Placed (if b then m else moved_with externs m (module_operation card) card)
    by_comment true = h
    by_comment false =
        placed_more (with_symbol m.known (symbol_of card) (worth externs m (module_operation card) card).0) (equs_with m (module_operation card) (symbol_of card)) m.known.place
        (moved_size externs m (module_operation card) card)
        (placed_with m (module_operation card) (symbol_of card) (worth externs m (module_operation card) card).0 h (worth_most externs m (module_operation card) card))

placed_after : (externs : List ℕ) (m : Moved) (cards : List (List ℕ)) → Placed m → Placed (moved_after externs m cards)
placed_after externs m [] h = h
placed_after externs m (card ∷ cards) h = placed_after externs (moved_behind externs m card) cards (placed_behind externs m card h)

nothing_placed : Placed nothing_moved
nothing_placed = λ name v found apart. absurd cc

-- the module

no_more : (n : ℕ) → n + 0 ≡ n
no_more n = omega arith

-- the place behind all cards is the place before END
last_place : (cards : List (List ℕ)) (g : ModuleGood cards)
    → (moved_after (relocated_of cards).externs nothing_moved (cards_read cards)).known.place ≡ (relocated_of cards).whole.end_place
last_place cards g =
    let externs : List ℕ = (relocated_of cards).externs in
    let m : Moved = moved_after externs nothing_moved (cards_before_end cards) in
    let here : moved_behind externs m g.last ≡ moved_with externs m (Some end) g.last = rw ((g.end).plain, (g.end).named) refl in
    let none : moved_size externs m (Some end) g.last ≡ 0 =
    no_moved (is_none (early_kind externs m end g.last)) (nat_lt (m.known.place + count_in externs m end g.last) max_place) in
    ap (λ (l : List (List ℕ)). (moved_after externs nothing_moved l).known.place) g.read
    ∙ ap (λ (x : Moved). x.known.place) (moved_append externs nothing_moved (cards_before_end cards) (g.last ∷ []))
    ∙ ap (λ (x : Moved). x.known.place) here
    ∙ ap (λ (n : ℕ). m.known.place + n) none ∙ no_more m.known.place

-- a symbol that is neither an extern nor an EQU's
symbol_within : (cards : List (List ℕ)) (g : ModuleGood cards) (name : ℕ) → (is_among (relocated_of cards).externs name || is_among (relocated_of cards).equs name) ≡ false
    → or_zero (value_in (relocated_of cards).whole.names name) ≤ (relocated_of cards).whole.end_place
symbol_within cards g name apart = by_value (value_in all.known.symbols name) refl
  where
    externs : List ℕ
    externs = (relocated_of cards).externs

    all : Moved
    all = moved_after externs nothing_moved (cards_read cards)

    parts : (is_among externs name ≡ false) × (is_among all.equs name ≡ false)
    parts = or_parts (is_among externs name) (is_among all.equs name) apart

    look : value_in (with_externs externs all.known.symbols) name ≡ value_in all.known.symbols name
    look = prefix_value (λ n. 0) externs all.known.symbols name ∙ ap (λ (b : Bool). if b then Some 0 else value_in all.known.symbols name) parts.0

    by_value : (o : Option ℕ) → value_in all.known.symbols name ≡ o → or_zero (value_in (relocated_of cards).whole.names name) ≤ (relocated_of cards).whole.end_place
    by_value None e = subst (λ (o : Option ℕ). or_zero o ≤ (relocated_of cards).whole.end_place) (sym (look ∙ e)) (omega arith)
    by_value (Some v) e =
        subst (λ (o : Option ℕ). or_zero o ≤ (relocated_of cards).whole.end_place) (sym (look ∙ e))
        (subst (λ (n : ℕ). v ≤ n) (last_place cards g) (placed_after externs nothing_moved (cards_read cards) nothing_placed name v e parts.1))

within_more : (v n k : ℕ) → v ≤ n → v ≤ n + k
within_more v n k h = omega (arith, h)

literal_cells : (n : ℕ) (ws : List ℕ) → 0 < n → list_all (kind_below n) (map (cell 0) ws) ≡ true
literal_cells n ws h = cells_of_kind n 0 ws h

kinds_fit : (n : ℕ) (places : List ModulePlace) → n ≤ 32768 → list_all (kind_below n) places ≡ true → list_all (kind_below 32768) places ≡ true
kinds_fit n [] most h = refl
kinds_fit n (p ∷ places) most h =
    let parts = and_parts (nat_lt p.kind n) (list_all (kind_below n) places) h in
    let k = leb-true (suc p.kind) n parts.0 in
    both (nat_lt p.kind 32768) _ (le-leb (suc p.kind) 32768 (omega (arith, k, most))) (kinds_fit n places most parts.1)

module_fits : (cards : List (List ℕ)) → module_faults cards ≡ [] → is_module (module_of_cards cards) ≡ true
module_fits cards none =
    let r : Relocated = relocated_of cards in
    let g : ModuleGood cards = module_good cards none in
    let m : Moved = moved_after r.externs nothing_moved (cards_before_end cards) in
    let room = (end_fits r m ([] ++ cards_before_end cards) g.last g.end).room in
    let sound : AllSound r nothing_moved [] (cards_read cards) = all_sound r 1 nothing_moved [] (cards_read cards) (both_none (module_faults_from r 1 nothing_moved [] (cards_read cards)) _ none).0 in
    let cells : List ModulePlace = cells_from r nothing_moved (cards_before_end cards) in
    let count : length (cells ++ map (cell 0) r.whole.literals) ≡ r.whole.end_place + length r.whole.literals =
    length-append cells (map (cell 0) r.whole.literals)
    ∙ ap (λ (n : ℕ). n + length (map (cell 0) r.whole.literals)) (cells_size cards g)
    ∙ ap (λ (n : ℕ). r.whole.end_place + n) (length-map r.whole.literals (cell 0)) in
    let size : length (cells ++ map (cell 0) r.whole.literals) ≤ 32767 = omega (arith, count, room) in
    let externs : length r.externs ≤ 32766 = few_named (codes "EXTERN") r (extern_few r) (cards_read cards) sound in
    let named : length (named_by (codes "ENTRY") (cards_read cards)) ≤ 32766 = few_named (codes "ENTRY") r (λ k before card has s. (entry_good r k before card has s).few) (cards_read cards) sound in
    let entries : length (entries_of r (cards_read cards)) ≤ 32766 = subst (λ (n : ℕ). n ≤ 32766) (sym (length-map (named_by (codes "ENTRY") (cards_read cards)) (entry_named r))) named in
    let places : list_all (kind_below (2 + length r.externs)) (cells ++ map (cell 0) r.whole.literals) ≡ true =
    list_all-append (kind_below (2 + length r.externs)) cells (map (cell 0) r.whole.literals)
    ∙ both (list_all (kind_below (2 + length r.externs)) cells) _ (all_cells r nothing_moved (cards_before_end cards)) (literal_cells (2 + length r.externs) r.whole.literals (omega arith)) in
    let inside : list_all (fits_in (length (cells ++ map (cell 0) r.whole.literals))) (entries_of r (cards_read cards)) ≡ true =
    entries_fit r (length (cells ++ map (cell 0) r.whole.literals))
    (λ name apart. subst (λ (n : ℕ). or_zero (value_in r.whole.names name) ≤ n) (sym count)
    (within_more (or_zero (value_in r.whole.names name)) r.whole.end_place (length r.whole.literals) (symbol_within cards g name apart)))
    nothing_moved [] (cards_read cards) sound in
    let start : nat_lt (module_of_cards cards).start (256 * blocks_for (length (module_of_cards cards).places)) ≡ true =
    le-leb (suc (module_of_cards cards).start) (256 * blocks_for (length (module_of_cards cards).places)) (module_starts cards g) in
    both (is_bounded (module_of_cards cards)) _
    (both (list_all (fits_in (length (cells ++ map (cell 0) r.whole.literals))) (entries_of r (cards_read cards))) _ inside
    (both (list_all (kind_below (2 + length r.externs)) (cells ++ map (cell 0) r.whole.literals)) _ places start))
    (both (nat_le (length (entries_of r (cards_read cards))) 32767) _ (le-leb (length (entries_of r (cards_read cards))) 32767 (omega (arith, entries)))
    (both (nat_le (length r.externs) 32767) _ (le-leb (length r.externs) 32767 (omega (arith, externs)))
    (both (nat_le (length (cells ++ map (cell 0) r.whole.literals)) 32767) _ (le-leb (length (cells ++ map (cell 0) r.whole.literals)) 32767 size)
    (kinds_fit (2 + length r.externs) (cells ++ map (cell 0) r.whole.literals) (omega (arith, externs)) places))))

pub made_fits : (cards : List (List ℕ)) (m : Module) → module_made cards ≡ relocatable m → is_module m ≡ true
unfolding module_made
made_fits cards m made =
    let two = without_faults (module_faults cards) cards m made in
    subst (λ (x : Module). is_module x ≡ true) two.1 (module_fits cards two.0)
