-- proof: what the field of a card comes to, with the values of its expressions.
use Rattle.std.specs.Prelude.{ℕ, ◌+◌, ◌*◌, ◌/◌, ◌%◌, ◌^◌, ◌<◌, Bool, true, false, not, ◌&&◌, ◌||◌, nat_lt, nat_le, nat_eq, if◌then◌else◌, List, [], length, take, Option, Some, None, is_none, IfSome}
use Rattle.std.specs.Option.{option_map, option_and_then}
use Rattle.opcode_table.specs.Words.{encoded}
use Rattle.opcode_table.specs.declared.op.Op.{Op}
use Rattle.fap_model.specs.Cards.{is_bad, has_bad_symbol, flag_of, symbol_of, symbol_text}
use Rattle.fap_model.specs.declared.types.Operation.{Operation}
use Rattle.fap_model.specs.declared.types.Operation.TheVariants.{Machine as machine, Pze as pze, Org as org, Bss as bss, Equ as equ, Dec as dec, Oct as oct, Bci as bci, End as end}
use Rattle.fap_model.specs.Statements as says
use Rattle.fap_model.specs.Places.{Known, value_of, or_zero, above, max_place, takes_flag, is_equ, symbol_is_known, early_fault, said as said_by}
use Rattle.fap_model.specs.Decks.{Whole, instruction, index_from}
use Rattle.fap_assemble.specs.declared.field.Address.{Address}
use Rattle.fap_assemble.specs.declared.field.Address.TheVariants.{Plain, Literal}
use Rattle.fap_assemble.specs.declared.field.Said.{Said}
use Rattle.fap_assemble.specs.declared.place.KnownAt.{KnownAt}
use Rattle.fap_assemble.specs.declared.field.Said.TheVariants.{Placed, Half, Nothing, Value, Words}

-- what is known where the first symbols of a table are seen
abbrev pub known_at : List (ℕ × ℕ) → ℕ → ℕ → Known
known_at symbols visible place = record { place = place; symbols = take visible symbols }

abbrev pub known_in : KnownAt → Known
known_in k = known_at k.symbols.now k.visible k.place

abbrev pub address_said : List (ℕ × ℕ) → ℕ → says.Address → Address
address_said names place (says.plain ts) = Plain (value_of names place ts)
address_said names place (says.literal w) = Literal w

abbrev pub said : List (ℕ × ℕ) → ℕ → says.Field → Said
said names place (says.placed a tag decrement) =
    Placed (address_said names place a) (value_of names place tag) (value_of names place decrement)
said names place (says.half n) = Half n
said names place says.nothing = Nothing
said names place (says.value ts) = Value (value_of names place ts)
said names place (says.words ws) = Words ws

abbrev pub fields_joined : Option Address → Option (Option ℕ) → Option (Option ℕ) → Option Said
fields_joined a tag decrement = option_and_then (λ x. option_and_then (λ t. option_map (λ d. Placed x t d) decrement) tag) a

abbrev pub IsShort : Option ℕ → Type 0
IsShort v = IfSome v (λ n. n < 2 ^ 15)

abbrev pub HasShortAddress : Address → Type 0
HasShortAddress (Plain v) = IsShort v
HasShortAddress (Literal w) = Unit {0}

-- values are addresses
abbrev pub HasShortValues : Said → Type 0
HasShortValues (Placed a tag decrement) = HasShortAddress a × IsShort tag × IsShort decrement
HasShortValues (Half n) = n < 2 ^ 18
HasShortValues Nothing = Unit {0}
HasShortValues (Value v) = IsShort v
HasShortValues (Words ws) = Unit {0}

-- a field that isn't of its form, or has a tag above 7
abbrev pub is_wrong : Option Said → Bool
is_wrong None = true
is_wrong (Some (Placed a tag decrement)) = above 7 tag
is_wrong (Some (Half n)) = false
is_wrong (Some Nothing) = false
is_wrong (Some (Value v)) = false
is_wrong (Some (Words ws)) = false

abbrev pub address_is_defined : Address → Bool
address_is_defined (Plain v) = not (is_none v)
address_is_defined (Literal w) = true

abbrev pub is_defined : Option Said → Bool
is_defined None = true
is_defined (Some (Placed a tag decrement)) = address_is_defined a && (not (is_none tag) && not (is_none decrement))
is_defined (Some (Half n)) = true
is_defined (Some Nothing) = true
is_defined (Some (Value v)) = not (is_none v)
is_defined (Some (Words ws)) = true

-- the value that a field says, and how many words it gives
abbrev pub number : Option Said → ℕ
number (Some (Value v)) = or_zero v
number s = 0

abbrev pub data_words : Option Said → ℕ
data_words (Some (Words ws)) = length ws
data_words s = 0

abbrev pub count : Operation → Option Said → ℕ
count (machine o) s = 1
count pze s = 1
count bss s = number s
count dec s = data_words s
count oct s = data_words s
count bci s = data_words s
count org s = 0
count equ s = 0
count end s = 0

abbrev pub fitting : ℕ → ℕ → ℕ
fitting place n = if nat_le (place + n) max_place then n else 0

abbrev pub word_count_at : Operation → ℕ → Option Said → ℕ
word_count_at (machine o) place s = 1
word_count_at pze place s = 1
word_count_at o place s = fitting place (count o s)

-- what of a card is at fault whatever its field says
abbrev pub is_misshapen : Operation → List ℕ → Bool
is_misshapen o card =
    is_bad card || (has_bad_symbol card || ((flag_of card && not (takes_flag o)) || (is_equ o && nat_eq (length (symbol_text card)) 0)))

-- the least fault of a card, by the kinds of faults
abbrev pub least : (misshapen wrong undefined known far : Bool) → ℕ
least misshapen wrong undefined known far =
    if misshapen then 2 else (if wrong then 2 else (if undefined then 3 else (if known then 4 else (if far then 5 else 0))))

abbrev pub fault_known : Operation → List ℕ → Option Said → (known : Bool) → (place more : ℕ) → (wrong : Bool) → ℕ
fault_known o card s known place more wrong =
    least (is_misshapen o card) (is_wrong s || wrong) (not (is_defined s)) known (nat_lt max_place (place + count o s + more))

abbrev pub fault : ℕ → Bool → Known → Operation → List ℕ → Option Said → ℕ
fault more wrong k o card s =
    least (is_misshapen o card) (is_wrong s || wrong) (not (is_defined s)) (symbol_is_known k (symbol_of card)) (nat_lt max_place (k.place + count o s + more))

-- words

abbrev pub address_value : Whole → Address → ℕ
address_value whole (Plain v) = or_zero v
address_value whole (Literal w) = (whole.end_place + index_from 0 whole.literals w) % 2 ^ 15

abbrev pub machine_word : Whole → Op → Bool → Option Said → ℕ
machine_word whole o flag (Some (Placed a tag decrement)) = encoded (instruction o flag (or_zero tag) (address_value whole a) (or_zero decrement))
machine_word whole o flag (Some (Half n)) = encoded (instruction o flag (n / 2 ^ 15) (n % 2 ^ 15) 0)
machine_word whole o flag s = encoded (instruction o flag 0 0 0)

abbrev pub plain_word : Whole → Option Said → ℕ
plain_word whole (Some (Placed a tag decrement)) = or_zero decrement * 2 ^ 18 + or_zero tag * 2 ^ 15 + address_value whole a
plain_word whole s = 0

abbrev pub given_words : Option Said → List ℕ
given_words (Some (Words ws)) = ws
given_words s = []

-- what an ORG or an EQU says if it isn't at fault
abbrev pub said_or : Operation → Known → List ℕ → ℕ → ℕ
said_or o k card other = if nat_eq (early_fault k o card) 0 then said_by k (says.field_for o card) else other
