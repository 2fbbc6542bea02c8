-- Why a card is at cause_said by what its field comes to is what the definition says.
use Rattle.std.proofs.Common.{◌≡◌, ◌≢◌, ℕ, Bool, true, false, List, length, take, take_all, Option, Some, None, is_none, refl, arith, if◌then◌else◌}
use Rattle.std.specs.Option.{option_map}
use Rattle.fap_model.specs.declared.types.Operation.{Operation}
use Rattle.fap_model.specs.declared.types.Operation.TheVariants.{Machine as machine, Pze as pze, Org as org, Bss as bss, Equ as equ, Dec as dec, Oct as oct, Bci as bci, End as end}
use Rattle.fap_model.specs.Statements as says
use Rattle.fap_model.specs.Places.{Known, looks_back}
use Rattle.fap_model.specs.Causes.{cause_with, cause_by}
use Rattle.fap_model.specs.Decks.{Whole, names_for, start_is_outside}
use Rattle.fap_assemble.specs.Fields.{said, known_at}
use Rattle.fap_assemble.specs.Causes.{cause_said, card_cause}
use Rattle.fap_assemble.specs.declared.field.Said.{Said}
use Rattle.fap_assemble.specs.Wholes.{is_start_outside, names_seen}
use Rattle.fap_assemble.proofs.Places.{wrong_is, defined_is, count_is}

none_same : (names : List (ℕ × ℕ)) (place : ℕ) (f : Option says.Field) → is_none (option_map (said names place) f) ≡ is_none f
none_same names place None = refl
none_same names place (Some f) = refl

cause_is : (names : List (ℕ × ℕ)) (more : ℕ) (wrong : Bool) (k : Known) (o : Operation) (card : List ℕ) (f : Option says.Field) → (looks_back o ≡ true → names ≡ k.symbols)
    → cause_said more wrong k o card (option_map (said names k.place) f) ≡ cause_with names more wrong k o card f
cause_is names more wrong k o card f h = rw (none_same names k.place f, wrong_is names k f, defined_is names k.place f, count_is names k o f h) refl

pub outside_is : (whole : Whole) (k : Known) (f : Option says.Field) → is_start_outside whole.blocks (option_map (said whole.names k.place) f) ≡ start_is_outside whole k f
outside_is whole k None = refl
outside_is whole k (Some (says.placed a tag decrement)) = refl
outside_is whole k (Some (says.half n)) = refl
outside_is whole k (Some says.nothing) = refl
outside_is whole k (Some (says.value ts)) = refl
outside_is whole k (Some (says.words ws)) = refl

no_back : looks_back end ≡ true → ⊥
no_back h = cc

pub end_cause_is : (whole : Whole) (visible place : ℕ) (card : List ℕ)
    → cause_said (length whole.literals) (is_start_outside whole.blocks (option_map (said (take (length whole.names) whole.names) place) (says.field_for end card))) (known_at whole.names visible place)
    end card (option_map (said (take (length whole.names) whole.names) place) (says.field_for end card))
    ≡ cause_by (Some end) whole (known_at whole.names visible place) card
end_cause_is whole visible place card =
    let all : take (length whole.names) whole.names ≡ whole.names = take_all (length whole.names) whole.names (omega arith) in
    rw (all, outside_is whole (known_at whole.names visible place) (says.field_for end card))
    (cause_is whole.names (length whole.literals) (start_is_outside whole (known_at whole.names visible place) (says.field_for end card)) (known_at whole.names visible place) end card
    (says.field_for end card) (λ h. absurd (no_back h)))

pub names_case : (whole : Whole) (visible : ℕ) (b : Bool) → take (if b then visible else length whole.names) whole.names ≡ (if b then take visible whole.names else whole.names)
names_case whole visible true = refl
names_case whole visible false = take_all (length whole.names) whole.names (omega arith)

back_case : (whole : Whole) (visible : ℕ) (b : Bool) → b ≡ true → (if b then take visible whole.names else whole.names) ≡ take visible whole.names
back_case whole visible true h = refl
back_case whole visible false h = cc

ordinary : (whole : Whole) (visible place : ℕ) (o : Operation) (card : List ℕ)
    → card_cause o whole.names visible place card
    ≡ cause_with (names_for o whole (known_at whole.names visible place)) 0 false (known_at whole.names visible place) o card (says.field_for o card)
ordinary whole visible place o card =
    rw (names_case whole visible (looks_back o))
    (cause_is (names_for o whole (known_at whole.names visible place)) 0 false (known_at whole.names visible place) o card (says.field_for o card) (λ h. back_case whole visible (looks_back o) h))

pub card_cause_is : (whole : Whole) (visible place : ℕ) (o : Operation) (card : List ℕ) → o ≢ end
    → card_cause o whole.names visible place card ≡ cause_by (Some o) whole (known_at whole.names visible place) card
card_cause_is whole visible place (machine o) card h = ordinary whole visible place (machine o) card
card_cause_is whole visible place pze card h = ordinary whole visible place pze card
card_cause_is whole visible place org card h = ordinary whole visible place org card
card_cause_is whole visible place bss card h = ordinary whole visible place bss card
card_cause_is whole visible place equ card h = ordinary whole visible place equ card
card_cause_is whole visible place dec card h = ordinary whole visible place dec card
card_cause_is whole visible place oct card h = ordinary whole visible place oct card
card_cause_is whole visible place bci card h = ordinary whole visible place bci card
card_cause_is whole visible place end card h = absurd (h refl)

pub card_said : (o : Operation) (symbols : List (ℕ × ℕ)) (visible place n : ℕ) (card : List ℕ) (s : Option Said) → s ≡ option_map (said (take n symbols) place) (says.field_for o card)
    → n ≡ names_seen o symbols visible → cause_said 0 false (known_at symbols visible place) o card s ≡ card_cause o symbols visible place card
card_said o symbols visible place n card s h e = rw (h, e) refl

pub end_said : (whole : Whole) (visible place n more : ℕ) (wrong : Bool) (card : List ℕ) (s : Option Said)
    → s ≡ option_map (said (take n whole.names) place) (says.field_for end card) → n ≡ length whole.names → more ≡ length whole.literals → wrong ≡ is_start_outside whole.blocks s
    → cause_said more wrong (known_at whole.names visible place) end card s ≡ cause_by (Some end) whole (known_at whole.names visible place) card
end_said whole visible place n more wrong card s h e m w = rw (w, m, h, e) (end_cause_is whole visible place card)
