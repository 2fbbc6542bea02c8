-- claim: what a listing says of a card at fault, and of what stands on a card and isn't read.
use Rattle.std.specs.Prelude.{ℕ, ◌+◌, ◌-◌, Bool, false, ◌&&◌, ◌||◌, ◌==◌, nat_eq, if◌then◌else◌, List, [], ◌++◌, length, take, drop, Option, Some, None, codes}
use Rattle.std.specs.List.{list_all, prefix_len}
use Rattle.std.specs.Fmt.{decimal}
use Rattle.text_model.specs.Parts.{line}
use Rattle.fap_model.specs.Cards.{is_comment, is_digit, operation_columns}
use Rattle.fap_model.specs.declared.types.Operation.{Operation}
use Rattle.fap_model.specs.Places.{looks_back}
use Rattle.fap_model.specs.Statements.{form_of}
use Rattle.fap_model.specs.declared.types.Form.{Form}
use Rattle.fap_model.specs.declared.types.Form.TheVariants.{Parts as parts, OctalHalf as octal_half, Empty as empty, OneValue as one_value, Decimals as decimals, Octals as octals, Characters as characters}
use Rattle.fap_model.specs.declared.types.FaultCause.{FaultCause}
use Rattle.fap_model.specs.declared.types.FaultCause.TheVariants.{NoOperation, Characters, BadSymbol, Flag, NoSymbol, BadForm, HighTag, Start, Undefined, Repeated, PastEnd}
use Rattle.fap_model.specs.Causes.{number_of}
use Rattle.fap_listing.specs.Words.{blanks}

-- what a form wants
abbrev pub form_wanted : Form → List ℕ
form_wanted (parts most) =
    if nat_eq most 2 then codes "WANTED: ADDRESS,TAG, EACH AN EXPRESSION; THE ADDRESS MAY BE A LITERAL, WHICH BEGINS WITH ="
    else codes "WANTED: ADDRESS,TAG,DECREMENT, EACH AN EXPRESSION; NONE BEGINS WITH A SIGN, AND 32767 STANDS FOR -1"
form_wanted octal_half = codes "WANTED: AT MOST SIX OCTAL DIGITS"
form_wanted empty = codes "WANTED: NO FIELD"
form_wanted one_value = codes "WANTED: ONE EXPRESSION"
form_wanted decimals = codes "WANTED: DECIMAL NUMBERS BELOW 34359738368, WITH A SIGN OR NONE, BY COMMAS"
form_wanted octals = codes "WANTED: AT MOST TWELVE OCTAL DIGITS EACH, BY COMMAS"
form_wanted characters = codes "WANTED: A DIGIT FROM 1 TO 9, A COMMA, AND SIX CHARACTERS A WORD"

abbrev pub field_wanted : Option Operation → List ℕ
field_wanted None = []
field_wanted (Some o) = form_wanted (form_of o)

abbrev pub is_early : Option Operation → Bool
is_early None = false
is_early (Some o) = looks_back o

-- what is wrong, or what was wanted
abbrev pub wanted : Option Operation → FaultCause → List ℕ
wanted o NoOperation = codes "NO OPERATION HAS THIS NAME; AN OPERATION BEGINS AT COLUMN 8"
wanted o Characters = codes "A CARD HAS AT MOST 84 CHARACTERS, AND NONE BUT THE 48"
wanted o BadSymbol = codes "A SYMBOL HAS AT MOST SIX LETTERS, DIGITS AND POINTS, AND NOT DIGITS ALONE"
wanted o Flag = codes "THIS OPERATION TAKES NO FLAG"
wanted o NoSymbol = codes "EQU WANTS A SYMBOL AT COLUMN 1"
wanted o BadForm = field_wanted o
wanted o HighTag = codes "A TAG IS AT MOST 7"
wanted o Start = codes "THE START LIES OUTSIDE THE BLOCKS OF THE PROGRAM"
wanted o Undefined = if is_early o then codes "NO EARLIER CARD HAS THIS SYMBOL" else codes "NO CARD HAS THIS SYMBOL"
wanted o Repeated = codes "AN EARLIER CARD HAS THIS SYMBOL"
wanted o PastEnd = codes "THE WORDS PASS THE LAST PLACE, 77777"

-- a mark below a column of a card, which begins behind 30 places
abbrev pub mark : (column : ℕ) → List ℕ
mark column = line (blanks (29 + column) ++ codes "^")

abbrev pub at_column : ℕ → List ℕ → List ℕ
at_column column text = codes " AT COLUMN " ++ (decimal column ++ (codes ": " ++ text))

abbrev pub fault_lines : Option Operation → Option FaultCause → (column : ℕ) → List ℕ
fault_lines o None column = []
fault_lines o (Some cause) column =
    mark column ++ line (blanks 30 ++ (codes "FAULT " ++ (decimal (number_of cause) ++ at_column column (wanted o cause))))

-- what isn't read

abbrev pub is_blank : ℕ → Bool
is_blank b = b == 32

-- the column of the first that is no blank, of those from a column on; 0 where there is none
abbrev pub dark_column : (from : ℕ) → List ℕ → ℕ
dark_column from text = if list_all is_blank text then 0 else from + prefix_len is_blank text

-- so many of a card's columns behind others
abbrev pub part : (behind count : ℕ) → List ℕ → List ℕ
part behind count card = take count (drop behind card)

-- before the field, behind the operation
abbrev pub early_column : List ℕ → ℕ
early_column card =
    dark_column (8 + length (operation_columns card)) (part (7 + length (operation_columns card)) (8 - length (operation_columns card)) card)

abbrev pub is_numeral : ℕ → Bool
is_numeral b = is_blank b || is_digit b

-- behind column 72 stands nothing but the card's number, and nothing that goes on from before
abbrev pub is_numbered : List ℕ → Bool
is_numbered card = list_all is_numeral (drop 72 card) && list_all is_blank (part 71 1 card)

abbrev pub late_column : List ℕ → ℕ
late_column card = if is_numbered card then 0 else dark_column 73 (part 72 12 card)

abbrev pub look_lines : (column : ℕ) → List ℕ → List ℕ
look_lines column text = if nat_eq column 0 then [] else mark column ++ line (blanks 30 ++ (codes "LOOK" ++ at_column column text))

-- what stands where nothing is read
abbrev pub looks : List ℕ → List ℕ
looks card =
    if is_comment card then []
    else look_lines (dark_column 7 (part 6 1 card)) (codes "COLUMN 7 ISN'T READ; A SYMBOL ENDS AT COLUMN 6")
    ++ (look_lines (early_column card) (codes "NOTHING IS READ HERE; THE FIELD BEGINS AT COLUMN 16")
    ++ look_lines (late_column card) (codes "NOTHING IS READ BEHIND COLUMN 72"))
