-- claim: places and symbols: what the cards before a card come to.
use Rattle.std.specs.Prelude.{ℕ, ◌+◌, ◌-◌, ◌%◌, ◌^◌, Bool, true, false, not, ◌&&◌, ◌||◌, nat_eq, nat_lt, nat_le, if◌then◌else◌, List, [], ◌∷◌, ◌++◌, length, Option, Some, None, is_none}
use Rattle.std.specs.Option.{option_and_then}
use Rattle.std.specs.Map.{lookup}
use Rattle.opcode_table.specs.Table.{class_of}
use Rattle.opcode_table.specs.declared.op.Class.{Class}
use Rattle.opcode_table.specs.declared.op.Class.TheVariants as class
use Rattle.fap_model.specs.Cards.{is_comment, is_bad, flag_of, operation_of, symbol_of, symbol_text, has_bad_symbol}
use Rattle.fap_model.specs.declared.types.Term.{Term}
use Rattle.fap_model.specs.declared.types.Term.TheVariants.{Named, Number, Here}
use Rattle.fap_model.specs.Terms.{Signed}
use Rattle.fap_model.specs.Statements.{Operation, machine, pze, org, bss, equ, dec, oct, bci, end, operation_named, Address, plain, literal, Field, placed, half, nothing, value, words, field_for}

-- the place of the next card, and the symbols of the cards so far with their values, each of the first card that has it
pub record Known : Type 0 where
  pub place : ℕ
  pub symbols : List (ℕ × ℕ)

abbrev pub nothing_known : Known
nothing_known = record { place = 0; symbols = [] }

-- the value of a symbol
abbrev pub value_in : List (ℕ × ℕ) → ℕ → Option ℕ
value_in symbols name = lookup (nat_eq name) symbols

abbrev pub max_place : ℕ
max_place = 32768

abbrev pub term_value : List (ℕ × ℕ) → ℕ → Term → Option ℕ
term_value symbols place (Named name) = value_in symbols name
term_value symbols place (Number n) = Some n
term_value symbols place Here = Some (place % 2 ^ 15)

abbrev pub with_term : ℕ → Bool → ℕ → ℕ
with_term sum false v = (sum + v) % 2 ^ 15
with_term sum true v = (sum + 2 ^ 15 - v) % 2 ^ 15

-- the terms added to a sum, modulo 2^15, with `*` for a place; none where a symbol has no value
abbrev pub value_from : List (ℕ × ℕ) → ℕ → ℕ → List Signed → Option ℕ
value_from symbols place sum [] = Some sum
value_from symbols place sum (t ∷ ts) = option_and_then (λ v. value_from symbols place (with_term sum t.0 v) ts) (term_value symbols place t.1)

abbrev pub value_of : List (ℕ × ℕ) → ℕ → List Signed → Option ℕ
value_of symbols place ts = value_from symbols place 0 ts

abbrev pub address_is_defined : List (ℕ × ℕ) → Address → Bool
address_is_defined symbols (plain ts) = not (is_none (value_of symbols 0 ts))
address_is_defined symbols (literal w) = true

-- whether each symbol of a field has a value
abbrev pub is_defined : List (ℕ × ℕ) → Field → Bool
is_defined symbols (placed a tag decrement) =
    address_is_defined symbols a && (not (is_none (value_of symbols 0 tag)) && not (is_none (value_of symbols 0 decrement)))
is_defined symbols (half n) = true
is_defined symbols nothing = true
is_defined symbols (value ts) = not (is_none (value_of symbols 0 ts))
is_defined symbols (words ws) = true

abbrev pub above : ℕ → Option ℕ → Bool
above most None = false
above most (Some v) = nat_lt most v

-- whether the tag has a value above 7
abbrev pub has_high_tag : List (ℕ × ℕ) → ℕ → Field → Bool
has_high_tag symbols place (placed a tag decrement) = above 7 (value_of symbols place tag)
has_high_tag symbols place (half n) = false
has_high_tag symbols place nothing = false
has_high_tag symbols place (value ts) = false
has_high_tag symbols place (words ws) = false

abbrev pub or_zero : Option ℕ → ℕ
or_zero None = 0
or_zero (Some n) = n

-- how many words a field takes or reserves, where it gives a number
abbrev pub count_of : Operation → Known → Option Field → ℕ
count_of (machine o) k f = 1
count_of pze k f = 1
count_of bss k (Some (value ts)) = or_zero (value_of k.symbols k.place ts)
count_of bss k f = 0
count_of dec k (Some (words ws)) = length ws
count_of dec k f = 0
count_of oct k (Some (words ws)) = length ws
count_of oct k f = 0
count_of bci k (Some (words ws)) = length ws
count_of bci k f = 0
count_of org k f = 0
count_of equ k f = 0
count_of end k f = 0

-- the same, but nothing where it would pass the last place and the field gives the number
abbrev pub size_of : Operation → Known → Option Field → ℕ
size_of (machine o) k f = 1
size_of pze k f = 1
size_of o k f = if nat_le (k.place + count_of o k f) max_place then count_of o k f else 0

abbrev pub is_addressed : Class → Bool
is_addressed class.Addressed = true
is_addressed class.Direct = false
is_addressed class.Tagged = false
is_addressed class.Prefixed = false
is_addressed class.Group = false

-- only an address that is indexed can have a flag
abbrev pub takes_flag : Operation → Bool
takes_flag (machine o) = is_addressed (class_of o)
takes_flag o = false

-- whether the symbols that the field may use are those of earlier cards alone
abbrev pub looks_back : Operation → Bool
looks_back org = true
looks_back bss = true
looks_back equ = true
looks_back o = false

abbrev pub is_equ : Operation → Bool
is_equ equ = true
is_equ o = false

-- a field that isn't of its form, or has a tag above 7
abbrev pub field_is_wrong : List (ℕ × ℕ) → Known → Option Field → Bool
field_is_wrong names k None = true
field_is_wrong names k (Some f) = has_high_tag names k.place f

abbrev pub field_is_defined : List (ℕ × ℕ) → Option Field → Bool
field_is_defined names None = true
field_is_defined names (Some f) = is_defined names f

abbrev pub symbol_is_known : Known → Option ℕ → Bool
symbol_is_known k None = false
symbol_is_known k (Some name) = not (is_none (value_in k.symbols name))

-- what the field of an ORG or an EQU says
abbrev pub said : Known → Option Field → ℕ
said k (Some (value ts)) = or_zero (value_of k.symbols k.place ts)
said k f = 0

-- The least fault of a card with an operation, 0 where there is none; `names` are the symbols that its field may use,
-- `more` the words that it takes beside its own, and `wrong` a fault 2 that only the whole list shows.
abbrev pub fault_with : List (ℕ × ℕ) → ℕ → Bool → Known → Operation → List ℕ → Option Field → ℕ
fault_with names more wrong k o card f =
    if is_bad card || (has_bad_symbol card || ((flag_of card && not (takes_flag o)) || (is_equ o && nat_eq (length (symbol_text card)) 0))) then 2
    else (if field_is_wrong names k f || wrong then 2
    else (if not (field_is_defined names f) then 3
    else (if symbol_is_known k (symbol_of card) then 4
    else (if nat_lt max_place (k.place + count_of o k f + more) then 5 else 0))))

abbrev pub early_fault : Known → Operation → List ℕ → ℕ
early_fault k o card = fault_with k.symbols 0 false k o card (field_for o card)

-- the value of the symbol that a card has: its place, or what an EQU says
abbrev pub symbol_value : Known → Operation → List ℕ → ℕ
symbol_value k equ card = if nat_eq (early_fault k equ card) 0 then said k (field_for equ card) else 0
symbol_value k o card = k.place % 2 ^ 15

abbrev pub with_symbol : Known → Option ℕ → ℕ → List (ℕ × ℕ)
with_symbol k None v = k.symbols
with_symbol k (Some name) v = if is_none (value_in k.symbols name) then k.symbols ++ (name, v) ∷ [] else k.symbols

-- the place behind a card
abbrev pub next_place : Known → Operation → List ℕ → ℕ
next_place k org card = if nat_eq (early_fault k org card) 0 then said k (field_for org card) else k.place
next_place k o card = k.place + size_of o k (field_for o card)

-- one card more; a card whose operation is unknown has its symbol and no words
abbrev pub known_with : Known → Option Operation → List ℕ → Known
known_with k None card = record { place = k.place; symbols = with_symbol k (symbol_of card) (k.place % 2 ^ 15) }
known_with k (Some o) card = record { place = next_place k o card; symbols = with_symbol k (symbol_of card) (symbol_value k o card) }

abbrev pub known_behind : Known → List ℕ → Known
known_behind k card = if is_comment card then k else known_with k (operation_named (operation_of card)) card

-- what cards come to behind others
abbrev pub known_after : Known → List (List ℕ) → Known
known_after k [] = k
known_after k (card ∷ cards) = known_after (known_behind k card) cards
