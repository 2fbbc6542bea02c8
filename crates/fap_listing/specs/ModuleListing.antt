-- claim: the listing of a module: its cards with their places, words, kinds and faults, and then its literals, symbols, entries, externs and figures.
use Rattle.std.specs.Prelude.{ℕ, ◌+◌, not, nat_eq, if◌then◌else◌, List, [], ◌∷◌, ◌++◌, length, drop, count_by, codes}
use Rattle.std.specs.List.{flat_map}
use Rattle.std.specs.Fmt.{decimal}
use Rattle.word36.specs.Octal.{octal_digits}
use Rattle.bcd48.specs.Words.{characters_of}
use Rattle.text_model.specs.Parts.{line, column}
use Rattle.link_model.specs.declared.types.ModuleEntry.{ModuleEntry}
use Rattle.link_model.specs.declared.types.ModuleRow.{ModuleRow}
use Rattle.link_model.specs.declared.types.ListedModule.{ListedModule}
use Rattle.link_model.specs.Moves.{module_operation}
use Rattle.link_model.specs.Listed.{listed_module, row_places}
use Rattle.fap_listing.specs.Words.{blanks, split_of, first_word, next_place, word_lines, place_text}
use Rattle.fap_listing.specs.Faults.{looks}
use Rattle.fap_listing.specs.Listing.{shown_text, first_card, end_text, literals_text, symbols_text}

-- what is added to an address: nothing, the place of the module, or that of an extern
abbrev pub kind_mark : (kind : ℕ) → List ℕ
kind_mark kind = if nat_eq kind 0 then codes " " else (if nat_eq kind 1 then codes "M" else codes "X")

-- that of the first word, in one place
abbrev pub first_kind : (kind : ℕ) → List ℕ → List ℕ
first_kind kind [] = codes " "
first_kind kind (w ∷ ws) = kind_mark kind

-- the card of this number, with its place, its first word and the kind of this word
abbrev pub module_card_line : (n : ℕ) → ModuleRow → List ℕ → List ℕ
module_card_line n row card =
    line (column 4 n ++ (blanks 2 ++ (place_text (module_operation card) row.place ++ (blanks 2
    ++ (first_word (split_of (module_operation card)) row.words ++ (first_kind row.kind row.words ++ (blanks 1 ++ shown_text card)))))))

-- what is wrong by the number of a fault; the faults of a module have no columns
abbrev pub module_wanted : (fault : ℕ) → List ℕ
module_wanted fault =
    if nat_eq fault 1 then codes "NO OPERATION OF A MODULE HAS THIS NAME, OR IT STANDS WHERE IT MAY NOT"
    else (if nat_eq fault 2 then codes "CHARACTERS, SYMBOL, FLAG OR FIELD AREN'T WHAT THE OPERATION WANTS, OR THE FIELD CAN'T MOVE WITH THE MODULE"
    else (if nat_eq fault 3 then codes "NO CARD HAS THIS SYMBOL, OR NO EARLIER ONE"
    else (if nat_eq fault 4 then codes "AN EARLIER CARD HAS THIS SYMBOL, OR NAMES IT"
    else codes "THE WORDS PASS THE LAST PLACE OF A MODULE, 77776")))

abbrev pub module_fault_lines : (fault : ℕ) → List ℕ
module_fault_lines fault =
    if nat_eq fault 0 then [] else line (blanks 30 ++ (codes "FAULT " ++ (decimal fault ++ (codes ": " ++ module_wanted fault))))

-- and all that is told of it; all words of a card are of one kind
abbrev pub module_row_text : (n : ℕ) → ModuleRow → List ℕ → List ℕ
module_row_text n row card =
    module_card_line n row card
    ++ (word_lines (split_of (module_operation card)) (next_place row.place) (drop 1 row.words)
    ++ (module_fault_lines row.fault ++ looks card))

-- of each card
abbrev pub module_rows_text : (n : ℕ) → List ModuleRow → List (List ℕ) → List ℕ
module_rows_text n [] cards = []
module_rows_text n (row ∷ rows) cards = module_row_text n row (first_card cards) ++ module_rows_text (n + 1) rows (drop 1 cards)

-- each entry with its place
abbrev pub entry_line : ModuleEntry → List ℕ
entry_line e = line (characters_of e.name ++ (blanks 2 ++ octal_digits 5 e.place))

abbrev pub entries_text : List ModuleEntry → List ℕ
entries_text [] = []
entries_text (e ∷ es) = line [] ++ (line (codes "ENTRY   PLACE") ++ flat_map entry_line (e ∷ es))

abbrev pub extern_line : (name : ℕ) → List ℕ
extern_line name = line (characters_of name)

abbrev pub externs_text : List ℕ → List ℕ
externs_text [] = []
externs_text (x ∷ xs) = line [] ++ (line (codes "EXTERN") ++ flat_map extern_line (x ∷ xs))

-- how many faults there are
abbrev pub module_row_faults : List ModuleRow → ℕ
module_row_faults rows = count_by (λ (row : ModuleRow). not (nat_eq row.fault 0)) rows

abbrev pub module_fault_count : ListedModule → ℕ
module_fault_count l = module_row_faults l.rows + (if l.has_end then 0 else 1)

-- how many places there are
abbrev pub place_count : List ModuleRow → ℕ
place_count [] = 0
place_count (row ∷ rows) = length (row_places row) + place_count rows

abbrev pub module_figures : ListedModule → List ℕ
module_figures l =
    codes "START " ++ (octal_digits 5 l.start ++ (codes "   PLACES " ++ (decimal (place_count l.rows + length l.literals)
    ++ (codes "   ENTRIES " ++ (decimal (length l.entries) ++ (codes "   EXTERNS " ++ (decimal (length l.externs)
    ++ (codes "   LITERALS " ++ (decimal (length l.literals) ++ codes "   ")))))))))

-- start and places are told of a module without a fault
abbrev pub first_module_figures : ListedModule → List ℕ
first_module_figures l = if nat_eq (module_fault_count l) 0 then module_figures l else []

abbrev pub module_figures_line : ListedModule → List ℕ
module_figures_line l =
    line (first_module_figures l ++ (codes "CARDS " ++ (decimal (length l.rows) ++ (codes "   FAULTS " ++ decimal (module_fault_count l)))))

-- the listing of a module whose cards come to this
unfoldable pub module_text : ListedModule → List (List ℕ) → List ℕ
module_text l cards =
    line (codes "CARD  PLACE  WORD             CARD AS IT STANDS; M: THE MODULE'S PLACE IS ADDED, X: AN EXTERN'S")
    ++ (module_rows_text 1 l.rows cards
    ++ (end_text l.has_end (length cards)
    ++ (literals_text l.end_place l.literals
    ++ (symbols_text l.symbols l.definitions l.uses
    ++ (entries_text l.entries
    ++ (externs_text l.externs
    ++ (line [] ++ module_figures_line l)))))))

abbrev pub module_listing_of : List (List ℕ) → List ℕ
module_listing_of cards = module_text (listed_module cards) cards
