-- claim: why a card is at fault, and at which of its columns.
use Rattle.std.specs.Prelude.{ℕ, suc, ◌+◌, Bool, true, false, not, ◌&&◌, nat_eq, nat_lt, if◌then◌else◌, List, [], ◌∷◌, length, Option, Some, None, is_none}
use Rattle.std.specs.List.{prefix_len}
use Rattle.bcd48.specs.Characters.{is_character}
use Rattle.fap_model.specs.Cards.{is_comment, is_bad, flag_of, operation_of, operation_columns, field_of, symbol_of, symbol_text, has_bad_symbol}
use Rattle.fap_model.specs.Terms.{expression, decimal_word, octal_number, items_of}
use Rattle.fap_model.specs.Statements.{Operation, end, operation_named, Form, parts, octal_half, empty, one_value, decimals, octals, characters, form_of, Address, plain, literal, address_of, Field, field_for}
use Rattle.fap_model.specs.Places.{Known, value_of, max_place, takes_flag, is_equ, count_of, field_is_wrong, field_is_defined, symbol_is_known}
use Rattle.fap_model.specs.Decks.{Whole, names_for, start_is_outside}
pub use Rattle.fap_model.specs.declared.types.FaultCause.{FaultCause}
pub use Rattle.fap_model.specs.declared.types.FaultCause.TheVariants.{NoOperation, Characters, BadSymbol, Flag, NoSymbol, BadForm, HighTag, Start, Undefined, Repeated, PastEnd}

-- the number of the fault
abbrev pub number_of : FaultCause → ℕ
number_of NoOperation = 1
number_of Characters = 2
number_of BadSymbol = 2
number_of Flag = 2
number_of NoSymbol = 2
number_of BadForm = 2
number_of HighTag = 2
number_of Start = 2
number_of Undefined = 3
number_of Repeated = 4
number_of PastEnd = 5

-- 0 where there is none
abbrev pub fault_number : Option FaultCause → ℕ
fault_number None = 0
fault_number (Some cause) = number_of cause

-- The first cause of those that a card with an operation has; `names`, `more` and `wrong` are those of its fault.
abbrev pub cause_with : List (ℕ × ℕ) → ℕ → Bool → Known → Operation → List ℕ → Option Field → Option FaultCause
cause_with names more wrong k o card f =
    if is_bad card then Some Characters
    else (if has_bad_symbol card then Some BadSymbol
    else (if flag_of card && not (takes_flag o) then Some Flag
    else (if is_equ o && nat_eq (length (symbol_text card)) 0 then Some NoSymbol
    else (if is_none f then Some BadForm
    else (if field_is_wrong names k f then Some HighTag
    else (if wrong then Some Start
    else (if not (field_is_defined names f) then Some Undefined
    else (if symbol_is_known k (symbol_of card) then Some Repeated
    else (if nat_lt max_place (k.place + count_of o k f + more) then Some PastEnd else None)))))))))

abbrev pub cause_by : Option Operation → Whole → Known → List ℕ → Option FaultCause
cause_by None whole k card = Some NoOperation
cause_by (Some end) whole k card =
    cause_with whole.names (length whole.literals) (start_is_outside whole k (field_for end card)) k end card (field_for end card)
cause_by (Some o) whole k card = cause_with (names_for o whole k) 0 false k o card (field_for o card)

-- why a card is at fault, if it is
abbrev pub cause_of : Whole → Known → List ℕ → Option FaultCause
cause_of whole k card =
    if is_comment card then (if is_bad card then Some Characters else None) else cause_by (operation_named (operation_of card)) whole k card

-- columns

-- an item that is what a form has at its place
abbrev pub is_of_form : Form → ℕ → List ℕ → Bool
is_of_form (parts most) index item =
    nat_lt index most && not (if nat_eq index 0 then is_none (address_of item) else is_none (expression item))
is_of_form octal_half index item = false
is_of_form empty index item = false
is_of_form one_value index item = nat_eq index 0 && not (is_none (expression item))
is_of_form decimals index item = not (is_none (decimal_word item))
is_of_form octals index item = not (is_none (octal_number 12 item))
is_of_form characters index item = false

-- an item all of whose symbols have a value
abbrev pub address_has_value : List (ℕ × ℕ) → Option Address → Bool
address_has_value names None = true
address_has_value names (Some (plain ts)) = not (is_none (value_of names 0 ts))
address_has_value names (Some (literal w)) = true

-- the column of the first item for which a test doesn't hold, or of the last one
abbrev pub column_where : (ℕ → List ℕ → Bool) → (index column : ℕ) → List (List ℕ) → ℕ
column_where test index column [] = column
column_where test index column (item ∷ []) = column
column_where test index column (item ∷ next ∷ items) =
    if test index item then column_where test (suc index) (column + (length item + 1)) (next ∷ items) else column

-- the same of a card's field
abbrev pub field_column : (ℕ → List ℕ → Bool) → List ℕ → ℕ
field_column test card = column_where test 0 16 (items_of (field_of card))

-- the first column with a character outside the 48, or behind column 84
abbrev pub bad_column : List ℕ → ℕ
bad_column card = if nat_lt 84 (length card) then 85 else suc (prefix_len is_character card)

abbrev pub column_by : Option Operation → Whole → Known → List ℕ → FaultCause → ℕ
column_by o whole k card NoOperation = 8
column_by o whole k card Characters = bad_column card
column_by o whole k card BadSymbol = 1
column_by o whole k card Flag = 7 + length (operation_columns card)
column_by o whole k card NoSymbol = 1
column_by None whole k card BadForm = 16
column_by (Some o) whole k card BadForm = field_column (is_of_form (form_of o)) card
column_by o whole k card HighTag = field_column (λ index item. nat_eq index 0) card
column_by o whole k card Start = 16
column_by None whole k card Undefined = 16
column_by (Some o) whole k card Undefined = field_column (λ index item. address_has_value (names_for o whole k) (address_of item)) card
column_by o whole k card Repeated = 1
column_by o whole k card PastEnd = 8

-- the column at which a card is at fault, 0 where it isn't
abbrev pub column_of : Option Operation → Whole → Known → List ℕ → Option FaultCause → ℕ
column_of o whole k card None = 0
column_of o whole k card (Some cause) = column_by o whole k card cause
