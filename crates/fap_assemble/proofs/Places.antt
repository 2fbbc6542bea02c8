-- Sizes and faults by what a field comes to are those of the definition.
use Rattle.std.proofs.Common.{◌≡◌, ℕ, Bool, true, false, List, [], ◌∷◌, take, Option, Some, None, is_none, refl}
use Rattle.std.specs.Option.{option_map, option_and_then}
use Rattle.fap_model.specs.declared.types.Term.{Term}
use Rattle.fap_model.specs.declared.types.Term.TheVariants.{Named, Number, Here}
use Rattle.fap_model.specs.Terms.{Signed}
use Rattle.fap_model.specs.declared.types.Operation.{Operation}
use Rattle.fap_model.specs.declared.types.Operation.TheVariants.{Machine as machine, Pze as pze, Org as org, Bss as bss, Equ as equ, Dec as dec, Oct as oct, Bci as bci, End as end}
use Rattle.fap_model.specs.Statements as says
use Rattle.fap_model.specs.Places.{Known, value_in, term_value, with_term, value_from, value_of, field_is_wrong, field_is_defined, count_of, size_of, fault_with, early_fault, looks_back}
use Rattle.fap_model.specs.Places.{said as said_by}
use Rattle.fap_assemble.specs.Fields.{said, known_at, is_wrong, is_defined, number, count, word_count_at, fault}

pub wrong_is : (names : List (ℕ × ℕ)) (k : Known) (f : Option says.Field) → is_wrong (option_map (said names k.place) f) ≡ field_is_wrong names k f
wrong_is names k None = refl
wrong_is names k (Some (says.placed a tag decrement)) = refl
wrong_is names k (Some (says.half n)) = refl
wrong_is names k (Some says.nothing) = refl
wrong_is names k (Some (says.value ts)) = refl
wrong_is names k (Some (says.words ws)) = refl

-- whether an expression has a value doesn't depend on the place
term_none : (names : List (ℕ × ℕ)) (p q : ℕ) (t : Term) (f g : ℕ → Option ℕ) → ((v w : ℕ) → is_none (f v) ≡ is_none (g w))
    → is_none (option_and_then f (term_value names p t)) ≡ is_none (option_and_then g (term_value names q t))
term_none names p q (Named name) f g h = by (value_in names name)
  where
    by : (o : Option ℕ) → is_none (option_and_then f o) ≡ is_none (option_and_then g o)
    by None = refl
    by (Some v) = h v v
term_none names p q (Number n) f g h = h n n
term_none names p q Here f g h = h _ _

none_at : (names : List (ℕ × ℕ)) (p q r s : ℕ) (ts : List Signed) → is_none (value_from names p r ts) ≡ is_none (value_from names q s ts)
none_at names p q r s [] = refl
none_at names p q r s (t ∷ ts) =
    term_none names p q t.1 (λ v. value_from names p (with_term r t.0 v) ts) (λ v. value_from names q (with_term s t.0 v) ts)
    (λ v w. none_at names p q (with_term r t.0 v) (with_term s t.0 w) ts)

pub none_is : (names : List (ℕ × ℕ)) (p : ℕ) (ts : List Signed) → is_none (value_of names p ts) ≡ is_none (value_of names 0 ts)
none_is names p ts = none_at names p 0 0 0 ts

pub defined_is : (names : List (ℕ × ℕ)) (p : ℕ) (f : Option says.Field) → is_defined (option_map (said names p) f) ≡ field_is_defined names f
defined_is names p None = refl
defined_is names p (Some (says.placed (says.plain ts) tag decrement)) = rw (none_is names p ts, none_is names p tag, none_is names p decrement) refl
defined_is names p (Some (says.placed (says.literal w) tag decrement)) = rw (none_is names p tag, none_is names p decrement) refl
defined_is names p (Some (says.half n)) = refl
defined_is names p (Some says.nothing) = refl
defined_is names p (Some (says.value ts)) = rw (none_is names p ts) refl
defined_is names p (Some (says.words ws)) = refl

pub number_is : (k : Known) (f : Option says.Field) → number (option_map (said k.symbols k.place) f) ≡ said_by k f
number_is k None = refl
number_is k (Some (says.placed a tag decrement)) = refl
number_is k (Some (says.half n)) = refl
number_is k (Some says.nothing) = refl
number_is k (Some (says.value ts)) = refl
number_is k (Some (says.words ws)) = refl

pub count_is : (names : List (ℕ × ℕ)) (k : Known) (o : Operation) (f : Option says.Field) → (looks_back o ≡ true → names ≡ k.symbols)
    → count o (option_map (said names k.place) f) ≡ count_of o k f
count_is names k (machine o) f h = refl
count_is names k pze f h = refl
count_is names k bss None h = refl
count_is names k bss (Some (says.placed a tag decrement)) h = refl
count_is names k bss (Some (says.half n)) h = refl
count_is names k bss (Some says.nothing) h = refl
count_is names k bss (Some (says.value ts)) h = rw (h refl) refl
count_is names k bss (Some (says.words ws)) h = refl
count_is names k dec None h = refl
count_is names k dec (Some (says.placed a tag decrement)) h = refl
count_is names k dec (Some (says.half n)) h = refl
count_is names k dec (Some says.nothing) h = refl
count_is names k dec (Some (says.value ts)) h = refl
count_is names k dec (Some (says.words ws)) h = refl
count_is names k oct None h = refl
count_is names k oct (Some (says.placed a tag decrement)) h = refl
count_is names k oct (Some (says.half n)) h = refl
count_is names k oct (Some says.nothing) h = refl
count_is names k oct (Some (says.value ts)) h = refl
count_is names k oct (Some (says.words ws)) h = refl
count_is names k bci None h = refl
count_is names k bci (Some (says.placed a tag decrement)) h = refl
count_is names k bci (Some (says.half n)) h = refl
count_is names k bci (Some says.nothing) h = refl
count_is names k bci (Some (says.value ts)) h = refl
count_is names k bci (Some (says.words ws)) h = refl
count_is names k org f h = refl
count_is names k equ f h = refl
count_is names k end f h = refl

pub fault_is : (names : List (ℕ × ℕ)) (more : ℕ) (wrong : Bool) (k : Known) (o : Operation) (card : List ℕ) (f : Option says.Field) → (looks_back o ≡ true → names ≡ k.symbols)
    → fault more wrong k o card (option_map (said names k.place) f) ≡ fault_with names more wrong k o card f
fault_is names more wrong k o card f h = rw (wrong_is names k f, defined_is names k.place f, count_is names k o f h) refl

pub early_fault_is : (symbols : List (ℕ × ℕ)) (visible place : ℕ) (o : Operation) (card : List ℕ)
    → fault 0 false (known_at symbols visible place) o card (option_map (said (take visible symbols) place) (says.field_for o card)) ≡ early_fault (known_at symbols visible place) o card
early_fault_is symbols visible place o card = fault_is (take visible symbols) 0 false (known_at symbols visible place) o card (says.field_for o card) (λ h. refl)

pub size_is : (k : Known) (o : Operation) (f : Option says.Field) → word_count_at o k.place (option_map (said k.symbols k.place) f) ≡ size_of o k f
size_is k (machine o) f = refl
size_is k pze f = refl
size_is k bss f = rw (count_is k.symbols k bss f (λ h. refl)) refl
size_is k dec f = rw (count_is k.symbols k dec f (λ h. refl)) refl
size_is k oct f = rw (count_is k.symbols k oct f (λ h. refl)) refl
size_is k bci f = rw (count_is k.symbols k bci f (λ h. refl)) refl
size_is k org f = refl
size_is k equ f = refl
size_is k end f = refl
