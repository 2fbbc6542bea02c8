-- The words of a card by what its field comes to are those of the definition, and a card without a fault has room for them.
use Rattle.std.proofs.Common.{◌≡◌, ℕ, ◌+◌, ◌^◌, ◌<◌, ◌≤◌, Bool, true, false, not, ◌||◌, List, [], ◌∷◌, length, take, take_all, Option, Some, None, refl, ap, ◌∙◌, subst, arith, nat_lt, if◌then◌else◌, true≢false}
use Rattle.std.proofs.lemmas.Bool.Decides.{nat_tests}
use Rattle.std.specs.Option.{option_map}
use Rattle.opcode_table.specs.declared.op.Op.{Op}
use Rattle.fap_model.specs.Cards.{is_bad, is_comment, flag_of, operation_of, field_of, symbol_of}
use Rattle.fap_model.specs.Terms.{Signed, expression}
use Rattle.fap_model.specs.declared.types.Operation.{Operation}
use Rattle.fap_model.specs.declared.types.Operation.TheVariants.{Machine as machine, Pze as pze, Org as org, Bss as bss, Equ as equ, Dec as dec, Oct as oct, Bci as bci, End as end}
use Rattle.fap_model.specs.Statements as says
use Rattle.fap_model.specs.Places.{Known, max_place, field_is_wrong, field_is_defined, fault_with, count_of, symbol_is_known}
use Rattle.fap_model.specs.Decks as decks
use Rattle.fap_model.specs.Decks.{Whole}
use Rattle.fap_assemble.specs.declared.field.Said.{Said}
use Rattle.fap_assemble.specs.Fields.{said, known_at, is_wrong, least, is_misshapen, machine_word, plain_word, given_words}
use Rattle.fap_assemble.specs.CardWords.{words_said}
use Rattle.fap_assemble.proofs.Places.{wrong_is}

machine_is : (whole : Whole) (place : ℕ) (o : Op) (flag : Bool) (f : Option says.Field) → machine_word whole o flag (option_map (said whole.names place) f) ≡ decks.machine_word whole place o flag f
machine_is whole place o flag None = refl
machine_is whole place o flag (Some (says.placed (says.plain ts) tag decrement)) = refl
machine_is whole place o flag (Some (says.placed (says.literal w) tag decrement)) = refl
machine_is whole place o flag (Some (says.half n)) = refl
machine_is whole place o flag (Some says.nothing) = refl
machine_is whole place o flag (Some (says.value ts)) = refl
machine_is whole place o flag (Some (says.words ws)) = refl

plain_is : (whole : Whole) (place : ℕ) (f : Option says.Field) → plain_word whole (option_map (said whole.names place) f) ≡ decks.plain_word whole place f
plain_is whole place None = refl
plain_is whole place (Some (says.placed (says.plain ts) tag decrement)) = refl
plain_is whole place (Some (says.placed (says.literal w) tag decrement)) = refl
plain_is whole place (Some (says.half n)) = refl
plain_is whole place (Some says.nothing) = refl
plain_is whole place (Some (says.value ts)) = refl
plain_is whole place (Some (says.words ws)) = refl

given_is : (names : List (ℕ × ℕ)) (place : ℕ) (f : Option says.Field) → given_words (option_map (said names place) f) ≡ decks.given_words f
given_is names place None = refl
given_is names place (Some (says.placed a tag decrement)) = refl
given_is names place (Some (says.half n)) = refl
given_is names place (Some says.nothing) = refl
given_is names place (Some (says.value ts)) = refl
given_is names place (Some (says.words ws)) = refl

pub said_words : (whole : Whole) (k : Known) (o : Operation) (card : List ℕ)
    → words_said whole o (flag_of card) (option_map (said whole.names k.place) (says.field_for o card)) ≡ decks.words_by whole k (Some o) card
said_words whole k (machine o) card = ap (λ (w : ℕ). w ∷ []) (machine_is whole k.place o (flag_of card) (says.field_for (machine o) card))
said_words whole k pze card = ap (λ (w : ℕ). w ∷ []) (plain_is whole k.place (says.field_for pze card))
said_words whole k org card = refl
said_words whole k bss card = refl
said_words whole k equ card = refl
said_words whole k dec card = given_is whole.names k.place (says.field_for dec card)
said_words whole k oct card = given_is whole.names k.place (says.field_for oct card)
said_words whole k bci card = given_is whole.names k.place (says.field_for bci card)
said_words whole k end card = refl

all_names : (whole : Whole) → take (length whole.names) whole.names ≡ whole.names
all_names whole = take_all (length whole.names) whole.names (omega arith)

pub words_are : (whole : Whole) (visible place : ℕ) (o : Operation) (card : List ℕ)
    → words_said whole o (flag_of card) (option_map (said (take (length whole.names) whole.names) place) (says.field_for o card))
    ≡ decks.words_by whole (known_at whole.names visible place) (Some o) card
words_are whole visible place o card = rw (all_names whole) (said_words whole (known_at whole.names visible place) o card)

-- what it means that a card has no fault

pub least_zero : (a b c d e : Bool) → least a b c d e ≡ 0 → (b ≡ false) × (e ≡ false)
least_zero true b c d e h = absurd (omega (arith, h))
least_zero false true c d e h = absurd (omega (arith, h))
least_zero false false true d e h = absurd (omega (arith, h))
least_zero false false false true e h = absurd (omega (arith, h))
least_zero false false false false true h = absurd (omega (arith, h))
least_zero false false false false false h = (refl, refl)

pub left_false : (a b : Bool) → (a || b) ≡ false → a ≡ false
left_false false b h = refl
left_false true b h = absurd (true≢false h)

-- a field is right, and words end by the last place
record Fine (names : List (ℕ × ℕ)) (k : Known) (o : Operation) (card : List ℕ) : Type 0 where
  right : field_is_wrong names k (says.field_for o card) ≡ false
  near : k.place + count_of o k (says.field_for o card) ≤ 32768

fine : (names : List (ℕ × ℕ)) (more : ℕ) (wrong : Bool) (k : Known) (o : Operation) (card : List ℕ) → fault_with names more wrong k o card (says.field_for o card) ≡ 0 → Fine names k o card
fine names more wrong k o card h =
    let f : Option says.Field = says.field_for o card in
    let parts = least_zero (is_misshapen o card) (field_is_wrong names k f || wrong) (not (field_is_defined names f)) (symbol_is_known k (symbol_of card)) (nat_lt max_place (k.place + count_of o k f + more)) h in
    record {
      right = left_false (field_is_wrong names k f) wrong parts.0;
      near = near_by (k.place + count_of o k f) more parts.1;
    }
  where
    near_by : (n more : ℕ) → nat_lt max_place (n + more) ≡ false → n ≤ 32768
    near_by n more h = grind (arith, nat_tests)

none_some : (o : Operation) → None ≡ Some o → ⊥
none_some o h = cc

by_operation : (whole : Whole) (k : Known) (card : List ℕ) (o : Operation) → decks.fault_of whole k card ≡ 0 → decks.operation_in card ≡ Some o → decks.fault_by (Some o) whole k card ≡ 0
by_operation whole k card o h e = by (is_comment card) (if is_bad card then 2 else 0) (says.operation_named (operation_of card)) h e
  where
    by : (b : Bool) (x : ℕ) (p : Option Operation) → (if b then x else decks.fault_by p whole k card) ≡ 0 → (if b then None else p) ≡ Some o → decks.fault_by (Some o) whole k card ≡ 0
    by true x p h e = absurd (none_some o e)
    by false x p h e = subst (λ (q : Option Operation). decks.fault_by q whole k card ≡ 0) e h

-- a field of one expression has no tag
one_value : (a b : List (ℕ × ℕ)) (k : Known) (e : Option (List Signed))
    → field_is_wrong a k (option_map (λ ts. says.value ts) e) ≡ false → field_is_wrong b k (option_map (λ ts. says.value ts) e) ≡ false
one_value a b k None h = absurd (true≢false h)
one_value a b k (Some ts) h = refl

right_by : (whole : Whole) (k : Known) (o : Operation) (card : List ℕ) → decks.fault_by (Some o) whole k card ≡ 0 → field_is_wrong whole.names k (says.field_for o card) ≡ false
right_by whole k (machine o) card h = (fine whole.names 0 false k (machine o) card h).right
right_by whole k pze card h = (fine whole.names 0 false k pze card h).right
right_by whole k org card h = one_value k.symbols whole.names k (expression (field_of card)) (fine k.symbols 0 false k org card h).right
right_by whole k bss card h = one_value k.symbols whole.names k (expression (field_of card)) (fine k.symbols 0 false k bss card h).right
right_by whole k equ card h = one_value k.symbols whole.names k (expression (field_of card)) (fine k.symbols 0 false k equ card h).right
right_by whole k dec card h = (fine whole.names 0 false k dec card h).right
right_by whole k oct card h = (fine whole.names 0 false k oct card h).right
right_by whole k bci card h = (fine whole.names 0 false k bci card h).right
right_by whole k end card h = (fine whole.names (length whole.literals) (decks.start_is_outside whole k (says.field_for end card)) k end card h).right

pub right_field : (whole : Whole) (visible place : ℕ) (o : Operation) (card : List ℕ) → decks.fault_of whole (known_at whole.names visible place) card ≡ 0 → decks.operation_in card ≡ Some o
    → is_wrong (option_map (said (take (length whole.names) whole.names) place) (says.field_for o card)) ≡ false
right_field whole visible place o card h e =
    let k : Known = known_at whole.names visible place in
    rw (all_names whole) (wrong_is whole.names k (says.field_for o card) ∙ right_by whole k o card (by_operation whole k card o h e))

counted : (k : Known) (f : Option says.Field) → length (decks.given_words f) ≡ count_of dec k f
counted k None = refl
counted k (Some (says.placed a tag decrement)) = refl
counted k (Some (says.half n)) = refl
counted k (Some says.nothing) = refl
counted k (Some (says.value ts)) = refl
counted k (Some (says.words ws)) = refl

room_by : (whole : Whole) (k : Known) (o : Operation) (card : List ℕ) → k.place < 2 ^ 33 → decks.fault_by (Some o) whole k card ≡ 0
    → k.place + length (decks.words_by whole k (Some o) card) < 2 ^ 34
room_by whole k (machine o) card p h = omega arith
room_by whole k pze card p h = omega arith
room_by whole k org card p h = omega arith
room_by whole k bss card p h = omega arith
room_by whole k equ card p h = omega arith
room_by whole k dec card p h = omega (arith, (fine whole.names 0 false k dec card h).near, counted k (says.field_for dec card))
room_by whole k oct card p h = omega (arith, (fine whole.names 0 false k oct card h).near, counted k (says.field_for oct card))
room_by whole k bci card p h = omega (arith, (fine whole.names 0 false k bci card h).near, counted k (says.field_for bci card))
room_by whole k end card p h = omega arith

pub room_for : (whole : Whole) (visible place : ℕ) (o : Operation) (card : List ℕ) → place < 2 ^ 33 → decks.fault_of whole (known_at whole.names visible place) card ≡ 0 → decks.operation_in card ≡ Some o
    → place + length (words_said whole o (flag_of card) (option_map (said (take (length whole.names) whole.names) place) (says.field_for o card))) < 2 ^ 34
room_for whole visible place o card p h e =
    let k : Known = known_at whole.names visible place in
    rw (words_are whole visible place o card) (room_by whole k o card p (by_operation whole k card o h e))

-- the same of what was read

pub right_said : (whole : Whole) (visible place n : ℕ) (o : Operation) (card : List ℕ) (s : Option Said) → decks.fault_of whole (known_at whole.names visible place) card ≡ 0
    → decks.operation_in card ≡ Some o → n ≡ length whole.names → s ≡ option_map (said (take n whole.names) place) (says.field_for o card) → is_wrong s ≡ false
right_said whole visible place n o card s h e m r = rw (r, m) (right_field whole visible place o card h e)

pub room_said : (whole : Whole) (visible place n : ℕ) (o : Operation) (card : List ℕ) (flag : Bool) (s : Option Said) → place < 2 ^ 33
    → decks.fault_of whole (known_at whole.names visible place) card ≡ 0 → decks.operation_in card ≡ Some o → n ≡ length whole.names
    → s ≡ option_map (said (take n whole.names) place) (says.field_for o card) → flag ≡ flag_of card → place + length (words_said whole o flag s) < 2 ^ 34
room_said whole visible place n o card flag s p h e m r f = rw (r, m, f) (room_for whole visible place o card p h e)

pub words_read : (whole : Whole) (visible place n : ℕ) (o : Operation) (card : List ℕ) (flag : Bool) (s : Option Said) → decks.operation_in card ≡ Some o → n ≡ length whole.names
    → s ≡ option_map (said (take n whole.names) place) (says.field_for o card) → flag ≡ flag_of card
    → words_said whole o flag s ≡ decks.words_by whole (known_at whole.names visible place) (decks.operation_in card) card
words_read whole visible place n o card flag s e m r f = rw (r, m, f, e) (words_are whole visible place o card)
