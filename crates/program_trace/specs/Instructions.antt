-- claim: an instruction as a trace shows it: its word, its operation by name, and its fields, with the symbol of its address.
use Rattle.std.specs.Prelude.{ℕ, ◌-◌, Bool, true, false, not, nat_eq, if◌then◌else◌, List, [], ◌++◌, length, find, Option, Some, None, codes}
use Rattle.word36.specs.Octal.{octal_digits}
use Rattle.ctss_types.specs.Words.{text_of_name}
use Rattle.opcode_table.specs.Table.{class_of, text_of}
use Rattle.opcode_table.specs.Words.{decoded}
use Rattle.opcode_table.specs.declared.op.Class.{Class}
use Rattle.opcode_table.specs.declared.op.Class.TheVariants as class
use Rattle.opcode_table.specs.declared.op.Instr.{Instr}
use Rattle.fap_model.specs.declared.types.SymbolValue.{SymbolValue}
use Rattle.fap_listing.specs.declared.word.Split.{Split}
use Rattle.fap_listing.specs.declared.word.Split.TheVariants.{Data}
use Rattle.fap_listing.specs.Words.{blanks, class_split, word_text, word_gap}

-- the first symbol with a value
abbrev pub symbol_with : (value : ℕ) → List SymbolValue → Option SymbolValue
symbol_with value symbols = find (λ (s : SymbolValue). nat_eq s.value value) symbols

-- an address: by such a symbol, or as five octal digits
abbrev pub address_by : Option SymbolValue → (address : ℕ) → List ℕ
address_by None address = octal_digits 5 address
address_by (Some s) address = text_of_name s.name

abbrev pub address_text : List SymbolValue → (address : ℕ) → List ℕ
address_text symbols address = address_by (symbol_with address symbols) address

abbrev pub is_prefixed : Class → Bool
is_prefixed class.Addressed = false
is_prefixed class.Direct = false
is_prefixed class.Tagged = false
is_prefixed class.Prefixed = true
is_prefixed class.Group = false

-- an operation of code 0760 has its address in its name
abbrev pub has_address : Class → Bool
has_address class.Addressed = true
has_address class.Direct = true
has_address class.Tagged = true
has_address class.Prefixed = true
has_address class.Group = false

abbrev pub address_field : List SymbolValue → Instr → List ℕ
address_field symbols i = if has_address (class_of i.op) then address_text symbols i.address else []

-- the tag behind the address, where it isn't zero or a decrement stands behind it
abbrev pub has_tag : Class → (tag : ℕ) → Bool
has_tag c tag = if is_prefixed c then true else not (nat_eq tag 0)

abbrev pub tag_field : Instr → List ℕ
tag_field i = if has_tag (class_of i.op) i.tag then codes "," ++ octal_digits 1 i.tag else []

abbrev pub decrement_field : Instr → List ℕ
decrement_field i = if is_prefixed (class_of i.op) then codes "," ++ octal_digits 5 i.decrement else []

abbrev pub flag_mark : Bool → List ℕ
flag_mark flag = if flag then codes "*" else codes " "

abbrev pub field_text : List SymbolValue → Instr → List ℕ
field_text symbols i = address_field symbols i ++ (tag_field i ++ decrement_field i)

-- the fields in 14 places
abbrev pub field_column : List SymbolValue → Instr → List ℕ
field_column symbols i = field_text symbols i ++ blanks (14 - length (field_text symbols i))

-- name, flag and fields, in 20 places
abbrev pub instruction_text : List SymbolValue → Instr → List ℕ
instruction_text symbols i = text_of i.op ++ (flag_mark i.flag ++ (blanks 2 ++ field_column symbols i))

-- how a word is split that was taken for an instruction
abbrev pub split_for : Option Instr → Split
split_for None = Data
split_for (Some i) = class_split (class_of i.op)

abbrev pub decoded_text : List SymbolValue → Option Instr → List ℕ
decoded_text symbols None = blanks 20
decoded_text symbols (Some i) = instruction_text symbols i

-- a word in 15 places, and what it says as an instruction; blanks where there is no word
abbrev pub word_column : List SymbolValue → Option ℕ → List ℕ
word_column symbols None = blanks 37
word_column symbols (Some w) =
    word_text (split_for (decoded w)) w ++ (word_gap (split_for (decoded w)) ++ (blanks 2 ++ decoded_text symbols (decoded w)))
