-- claim: what a card says by itself: its operation and its field.
use Rattle.std.specs.Prelude.{ℕ, zero, suc, ◌-◌, ◌*◌, ◌&&◌, nat_eq, nat_le, if◌then◌else◌, List, [], ◌∷◌, ◌++◌, length, get_or, take, drop, replicate, Option, Some, None, bytes_eq, codes}
use Rattle.std.specs.Option.{option_map, option_and_then}
use Rattle.ctss_types.specs.Words.{name_of}
use Rattle.opcode_table.specs.Table.{op_with_name, class_of, kind_of}
use Rattle.opcode_table.specs.declared.op.Class.{Class}
use Rattle.opcode_table.specs.declared.op.Class.TheVariants as class
use Rattle.opcode_table.specs.declared.op.Kind.{Kind}
use Rattle.opcode_table.specs.declared.op.Kind.TheVariants as kind
pub use Rattle.fap_model.specs.declared.types.Operation.{Operation}
pub use Rattle.fap_model.specs.declared.types.Operation.TheVariants.{Machine as machine, Pze as pze, Org as org, Bss as bss, Equ as equ, Dec as dec, Oct as oct, Bci as bci, End as end}
pub use Rattle.fap_model.specs.declared.types.Form.{Form}
pub use Rattle.fap_model.specs.declared.types.Form.TheVariants.{Parts as parts, OctalHalf as octal_half, Empty as empty, OneValue as one_value, Decimals as decimals, Octals as octals, Characters as characters}
use Rattle.fap_model.specs.Cards.{columns, field_of}
use Rattle.fap_model.specs.Terms.{Signed, expression, decimal_word, octal_number, literal_word, items_of, all_words}

abbrev pub machine_named : List ℕ → Option Operation
machine_named text = if nat_le (length text) 6 then option_map (λ o. machine o) (op_with_name (text ++ replicate (6 - length text) 32)) else None

-- the operation of a name
abbrev pub operation_named : List ℕ → Option Operation
operation_named text =
    if bytes_eq text (codes "PZE") then Some pze
    else (if bytes_eq text (codes "ORG") then Some org
    else (if bytes_eq text (codes "BSS") then Some bss
    else (if bytes_eq text (codes "EQU") then Some equ
    else (if bytes_eq text (codes "DEC") then Some dec
    else (if bytes_eq text (codes "OCT") then Some oct
    else (if bytes_eq text (codes "BCI") then Some bci
    else (if bytes_eq text (codes "END") then Some end else machine_named text)))))))

-- an address: an expression, or a literal's word
pub data Address : Type 0 where
  plain : List Signed → Address
  literal : ℕ → Address

-- what a field says
pub data Field : Type 0 where
  placed : Address → (tag decrement : List Signed) → Field
  half : ℕ → Field
  nothing : Field
  value : List Signed → Field
  words : List ℕ → Field

-- an instruction's address and tag, with a decrement where a prefix names it; for the indicators' halves octal digits
abbrev pub machine_form : Class → Kind → Form
machine_form class.Addressed k = parts 2
machine_form class.Direct k = parts 2
machine_form class.Tagged kind.Logic = octal_half
machine_form class.Tagged kind.Fixed = parts 2
machine_form class.Tagged kind.Index = parts 2
machine_form class.Tagged kind.Xec = parts 2
machine_form class.Tagged kind.Tia = parts 2
machine_form class.Prefixed k = parts 3
machine_form class.Group k = empty

abbrev pub form_of : Operation → Form
form_of (machine o) = machine_form (class_of o) (kind_of o)
form_of pze = parts 3
form_of org = one_value
form_of bss = one_value
form_of equ = one_value
form_of dec = decimals
form_of oct = octals
form_of bci = characters
form_of end = one_value

abbrev pub address_of : List ℕ → Option Address
address_of [] = Some (plain [])
address_of (b ∷ text) = if nat_eq b 61 then option_map (λ w. literal w) (literal_word text) else option_map (λ ts. plain ts) (expression (b ∷ text))

-- address, tag and decrement, of which there are at most so many
abbrev pub parts_of : ℕ → List (List ℕ) → Option Field
parts_of most items =
    if nat_le (length items) most then
    option_and_then (λ a. option_and_then (λ tag. option_map (λ decrement. placed a tag decrement)
    (expression (get_or items 2 []))) (expression (get_or items 1 []))) (address_of (get_or items 0 []))
    else None

-- words of six characters each
abbrev pub packed_words : ℕ → List ℕ → List ℕ
packed_words zero xs = []
packed_words (suc n) xs = name_of (take 6 xs) ∷ packed_words n (drop 6 xs)

-- a digit from 1 to 9 in column 16, a comma in column 17, and then six characters a word, blanks included
abbrev pub text_words : List ℕ → Option (List ℕ)
text_words card =
    let digit = get_or card 15 32 in
    if nat_le 49 digit && nat_le digit 57 && nat_eq (get_or card 16 32) 44 then Some (packed_words (digit - 48) (columns 18 (6 * (digit - 48)) card)) else None

abbrev pub field_by : Form → List ℕ → List ℕ → Option Field
field_by (parts most) field card = parts_of most (items_of field)
field_by octal_half field card = option_map (λ n. half n) (octal_number 6 field)
field_by empty field card = if nat_eq (length field) 0 then Some nothing else None
field_by one_value field card = option_map (λ ts. value ts) (expression field)
field_by decimals field card = option_map (λ ws. words ws) (all_words decimal_word (items_of field))
field_by octals field card = option_map (λ ws. words ws) (all_words (octal_number 12) (items_of field))
field_by characters field card = option_map (λ ws. words ws) (text_words card)

-- the field of a card with this operation, if it is of the operation's form
abbrev pub field_for : Operation → List ℕ → Option Field
field_for o card = field_by (form_of o) (field_of card) card

abbrev pub literal_at : Option Address → Option ℕ
literal_at None = None
literal_at (Some (plain ts)) = None
literal_at (Some (literal w)) = Some w

-- the literal of an address, also of a card whose other fields are at fault
abbrev pub literal_in : Form → List ℕ → Option ℕ
literal_in (parts most) field = literal_at (address_of (get_or (items_of field) 0 []))
literal_in octal_half field = None
literal_in empty field = None
literal_in one_value field = None
literal_in decimals field = None
literal_in octals field = None
literal_in characters field = None
