-- What cards without a fault have room for.
use Rattle.std.proofs.Common.{◌≡◌, ℕ, zero, suc, ◌+◌, ◌≤◌, Bool, true, false, not, ◌&&◌, ◌||◌, nat_eq, nat_lt, if◌then◌else◌, List, [], ◌∷◌, ◌++◌, length, Option, Some, None, refl, ap, arith, ltb-false, le-leb}
use Rattle.std.proofs.lemmas.Bool.{or_parts, false≢true}
use Rattle.fap_model.specs.Cards.{is_comment, is_bad, flag_of, operation_of, symbol_of, symbol_text, has_bad_symbol}
use Rattle.fap_model.specs.declared.types.Operation.{Operation}
use Rattle.fap_model.specs.declared.types.Operation.TheVariants.{Machine as machine, Pze as pze, Dec as dec, Oct as oct, Bci as bci, End as end}
use Rattle.fap_model.specs.Statements.{operation_named, Field, placed, half, nothing, value, words, field_for}
use Rattle.fap_model.specs.Places.{Known, max_place, count_of, size_of, takes_flag, is_equ, field_is_wrong, field_is_defined, symbol_is_known, fault_with, known_behind, known_after}
use Rattle.fap_model.specs.Decks.{Whole, operation_in, is_end, size_by, start_is_outside, names_for, fault_by, fault_of, fault_entry, faults_from, given_words, words_by}

-- the tests of a card's fault, over plain answers
abbrev least : Bool → Bool → Bool → Bool → Bool → ℕ
least a b c d e = if a then 2 else (if b then 2 else (if c then 3 else (if d then 4 else (if e then 5 else 0))))

no_fault : (a b c d e : Bool) → least a b c d e ≡ 0 → (b ≡ false) × (e ≡ false)
no_fault true b c d e h = absurd (omega (arith, h))
no_fault false true c d e h = absurd (omega (arith, h))
no_fault false false true d e h = absurd (omega (arith, h))
no_fault false false false true e h = absurd (omega (arith, h))
no_fault false false false false true h = absurd (omega (arith, h))
no_fault false false false false false h = (refl, refl)

-- a card without a fault has room for its words, and nothing else is wrong with it
pub record IsGood (more : ℕ) (wrong : Bool) (k : Known) (o : Operation) (f : Option Field) : Type 0 where
  pub right : wrong ≡ false
  pub room : k.place + count_of o k f + more ≤ max_place

good : (names : List (ℕ × ℕ)) (more : ℕ) (wrong : Bool) (k : Known) (o : Operation) (card : List ℕ) (f : Option Field)
    → fault_with names more wrong k o card f ≡ 0 → IsGood more wrong k o f
good names more wrong k o card f h =
    let parts =
    no_fault (is_bad card || (has_bad_symbol card ||
    ((flag_of card && not (takes_flag o)) || (is_equ o && nat_eq (length (symbol_text card)) 0))))
    (field_is_wrong names k f || wrong)
    (not (field_is_defined names f)) (symbol_is_known k (symbol_of card))
    (nat_lt max_place (k.place + count_of o k f + more)) h in
    record {
      right = (or_parts (field_is_wrong names k f) wrong parts.0).1;
      room = ltb-false max_place (k.place + count_of o k f + more) parts.1;
    }

weaken : (p c m t : ℕ) → p + c + m ≤ t → p + c ≤ t
weaken p c m t h = omega (arith, h)

-- room for what a field takes or reserves
room_for : (o : Operation) (whole : Whole) (k : Known) (card : List ℕ) → fault_by (Some o) whole k card ≡ 0
    → k.place + count_of o k (field_for o card) ≤ max_place
room_for end whole k card h =
    weaken k.place 0 (length whole.literals) max_place
    (good whole.names (length whole.literals) (start_is_outside whole k (field_for end card)) k end card
    (field_for end card) h).room
room_for o whole k card h = weaken k.place (count_of o k (field_for o card)) 0 max_place
    (good (names_for o whole k) 0 false k o card (field_for o card) h).room

-- and so its size is what it takes
size_is : (o : Operation) (k : Known) (f : Option Field) → k.place + count_of o k f ≤ max_place
    → size_of o k f ≡ count_of o k f
size_is (machine o) k f h = refl
size_is pze k f h = refl
size_is o k f h = ap (λ (b : Bool). if b then count_of o k f else 0) (le-leb (k.place + count_of o k f) max_place h)

-- the words of a card are as many at most
decimals_count : (k : Known) (f : Option Field) → length (given_words f) ≤ count_of dec k f
decimals_count k None = omega arith
decimals_count k (Some (placed a t d)) = omega arith
decimals_count k (Some (half n)) = omega arith
decimals_count k (Some nothing) = omega arith
decimals_count k (Some (value ts)) = omega arith
decimals_count k (Some (words ws)) = omega arith

octals_count : (k : Known) (f : Option Field) → length (given_words f) ≤ count_of oct k f
octals_count k None = omega arith
octals_count k (Some (placed a t d)) = omega arith
octals_count k (Some (half n)) = omega arith
octals_count k (Some nothing) = omega arith
octals_count k (Some (value ts)) = omega arith
octals_count k (Some (words ws)) = omega arith

characters_count : (k : Known) (f : Option Field) → length (given_words f) ≤ count_of bci k f
characters_count k None = omega arith
characters_count k (Some (placed a t d)) = omega arith
characters_count k (Some (half n)) = omega arith
characters_count k (Some nothing) = omega arith
characters_count k (Some (value ts)) = omega arith
characters_count k (Some (words ws)) = omega arith

none_le : (n : ℕ) → 0 ≤ n
none_le n = omega arith

one_le : 1 ≤ 1
one_le = omega arith

words_count : (o : Operation) (whole : Whole) (k : Known) (card : List ℕ)
    → length (words_by whole k (Some o) card) ≤ count_of o k (field_for o card)
words_count (machine o) whole k card = one_le
words_count pze whole k card = one_le
words_count dec whole k card = decimals_count k (field_for dec card)
words_count oct whole k card = octals_count k (field_for oct card)
words_count bci whole k card = characters_count k (field_for bci card)
words_count o whole k card = none_le (count_of o k (field_for o card))

-- a card's words are no more than its size, and those that it takes end within core
pub record IsRoomy (whole : Whole) (k : Known) (o : Option Operation) (card : List ℕ) : Type 0 where
  pub words_fit : length (words_by whole k o card) ≤ size_by o k card
  pub room : 1 ≤ size_by o k card → k.place + size_by o k card ≤ max_place

roomy_from : (place size count taken : ℕ) → size ≡ count → taken ≤ count → place + count ≤ max_place
    → (taken ≤ size) × (1 ≤ size → place + size ≤ max_place)
roomy_from place size count taken e h k = (omega (arith, e, h), λ (s : 1 ≤ size). omega (arith, e, k))

roomy_by : (o : Option Operation) (whole : Whole) (k : Known) (card : List ℕ) → fault_by o whole k card ≡ 0
    → IsRoomy whole k o card
roomy_by None whole k card h = absurd (omega (arith, h))
roomy_by (Some o) whole k card h =
    let room = room_for o whole k card h in
    let r = roomy_from k.place (size_of o k (field_for o card)) (count_of o k (field_for o card))
    (length (words_by whole k (Some o) card)) (size_is o k (field_for o card) room) (words_count o whole k card) room in
    record { words_fit = r.0; room = r.1 }

no_words : (whole : Whole) (k : Known) (card : List ℕ) → IsRoomy whole k None card
no_words whole k card = record { words_fit = none_le 0; room = λ (h : 1 ≤ 0). absurd (omega (arith, h)) }

roomy : (whole : Whole) (k : Known) (card : List ℕ) → fault_of whole k card ≡ 0
    → IsRoomy whole k (operation_in card) card
roomy whole k card h = by_comment (is_comment card) h
  where
    by_comment :
        (b : Bool)
        → (if b then (if is_bad card then 2 else 0) else fault_by (operation_named (operation_of card)) whole k card)
        ≡ 0
        → IsRoomy whole k (if b then None else operation_named (operation_of card)) card
    by_comment true e = no_words whole k card
    by_comment false e = roomy_by (operation_named (operation_of card)) whole k card e

-- an END card without a fault
pub good_end : (whole : Whole) (k : Known) (card : List ℕ) → is_end (operation_in card) ≡ true
    → fault_of whole k card ≡ 0
    → IsGood (length whole.literals) (start_is_outside whole k (field_for end card)) k end (field_for end card)
good_end whole k card is h =
    good whole.names (length whole.literals) (start_is_outside whole k (field_for end card)) k end card
    (field_for end card) (by_operation (is_comment card) (operation_named (operation_of card)) is h)
  where
    by_operation :
        (b : Bool) (o : Option Operation) → is_end (if b then None else o) ≡ true
        → (if b then (if is_bad card then 2 else 0) else fault_by o whole k card) ≡ 0
        → fault_by (Some end) whole k card ≡ 0
    by_operation true o e f = absurd (false≢true e)
    by_operation false None e f = absurd (false≢true e)
    by_operation false (Some end) e f = f
    by_operation false (Some _) e f = absurd (false≢true e)

-- each of many cards

abbrev pub AllRoomy : Whole → Known → List (List ℕ) → Type 0
AllRoomy whole k [] = Unit {0}
AllRoomy whole k (card ∷ cards) = IsRoomy whole k (operation_in card) card × AllRoomy whole (known_behind k card) cards

pub both_none : (xs ys : List (ℕ × ℕ)) → xs ++ ys ≡ [] → (xs ≡ []) × (ys ≡ [])
both_none [] ys h = (refl, h)
both_none (x ∷ xs) ys h = cc

no_entry : (n f : ℕ) → fault_entry n f ≡ [] → f ≡ 0
no_entry n zero h = refl
no_entry n (suc f) h = cc

pub no_faults : (whole : Whole) (n : ℕ) (k : Known) (cards : List (List ℕ)) (last : List ℕ)
    → faults_from whole n k (cards ++ last ∷ []) ≡ []
    → AllRoomy whole k cards × (fault_of whole (known_after k cards) last ≡ 0)
no_faults whole n k [] last h =
    (tt, no_entry n (fault_of whole k last) (both_none (fault_entry n (fault_of whole k last)) [] h).0)
no_faults whole n k (card ∷ cards) last h =
    let parts = both_none (fault_entry n (fault_of whole k card))
    (faults_from whole (suc n) (known_behind k card) (cards ++ last ∷ [])) h in
    let rest = no_faults whole (suc n) (known_behind k card) cards last parts.1 in
    ((roomy whole k card (no_entry n (fault_of whole k card) parts.0), rest.0), rest.1)
