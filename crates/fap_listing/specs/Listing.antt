-- claim: the listing of a program: its cards with their places, words and faults, and then its literals, its symbols and its figures.
use Rattle.std.specs.Prelude.{ℕ, ◌+◌, Bool, ◌&&◌, nat_eq, nat_le, is_some, if◌then◌else◌, List, [], ◌∷◌, ◌++◌, length, map, drop, count_by, codes}
use Rattle.std.specs.List.{flat_map}
use Rattle.std.specs.Fmt.{decimal}
use Rattle.word36.specs.Octal.{octal_digits}
use Rattle.bcd48.specs.Words.{characters_of}
use Rattle.text_model.specs.Parts.{line, number, column}
use Rattle.fap_model.specs.declared.types.CardRow.{CardRow}
use Rattle.fap_model.specs.declared.types.SymbolValue.{SymbolValue}
use Rattle.fap_model.specs.declared.types.Mention.{Mention}
use Rattle.fap_model.specs.declared.types.Listed.{Listed}
use Rattle.fap_model.specs.Decks.{operation_in}
use Rattle.fap_model.specs.Listed.{listed}
use Rattle.fap_listing.specs.declared.word.Split.TheVariants.{Data}
use Rattle.fap_listing.specs.Words.{blanks, split_of, first_word, next_place, word_lines, place_text}
use Rattle.fap_listing.specs.Faults.{fault_lines, looks}

-- a byte that shows, and ? for any other
abbrev pub shown_byte : ℕ → ℕ
shown_byte b = if nat_le 32 b && nat_le b 126 then b else 63

abbrev pub shown_text : List ℕ → List ℕ
shown_text text = map shown_byte text

-- the card of this number, with its place and its first word
abbrev pub card_line : (n : ℕ) → CardRow → List ℕ → List ℕ
card_line n row card =
    line (column 4 n ++ (blanks 2 ++ (place_text (operation_in card) row.place ++ (blanks 2
    ++ (first_word (split_of (operation_in card)) row.words ++ (blanks 2 ++ shown_text card))))))

-- and all that is told of it
abbrev pub row_text : (n : ℕ) → CardRow → List ℕ → List ℕ
row_text n row card =
    card_line n row card
    ++ (word_lines (split_of (operation_in card)) (next_place row.place) (drop 1 row.words)
    ++ (fault_lines (operation_in card) row.cause row.column ++ looks card))

abbrev pub first_card : List (List ℕ) → List ℕ
first_card [] = []
first_card (card ∷ cards) = card

-- of each card
abbrev pub rows_text : (n : ℕ) → List CardRow → List (List ℕ) → List ℕ
rows_text n [] cards = []
rows_text n (row ∷ rows) cards = row_text n row (first_card cards) ++ rows_text (n + 1) rows (drop 1 cards)

-- a missing END is a fault of the card behind the last one
abbrev pub end_text : Bool → (count : ℕ) → List ℕ
end_text has_end count =
    if has_end then [] else line (blanks 30 ++ (codes "CARD " ++ (decimal (count + 1) ++ codes " FAULT 6: THERE IS NO END")))

abbrev pub literals_text : (place : ℕ) → List ℕ → List ℕ
literals_text place [] = []
literals_text place (w ∷ ws) = line (blanks 30 ++ codes "LITERALS") ++ word_lines Data place (w ∷ ws)

-- the numbers of the cards that mention a symbol
abbrev pub mention_number : (name : ℕ) → Mention → List ℕ
mention_number name m = if nat_eq m.name name then number m.card else []

abbrev pub mention_numbers : (name : ℕ) → List Mention → List ℕ
mention_numbers name ms = flat_map (mention_number name) ms

-- a symbol with its value, the cards that have it in their columns, of which the first one counts, and those that use it
abbrev pub symbol_line : (definitions uses : List Mention) → SymbolValue → List ℕ
symbol_line definitions uses s =
    line (characters_of s.name ++ (blanks 2 ++ (octal_digits 5 s.value ++ (codes "  CARD" ++ (mention_numbers s.name definitions
    ++ (codes "  USED BY" ++ mention_numbers s.name uses))))))

abbrev pub symbols_text : List SymbolValue → (definitions uses : List Mention) → List ℕ
symbols_text [] definitions uses = []
symbols_text (s ∷ ss) definitions uses =
    line [] ++ (line (codes "SYMBOL  VALUE") ++ flat_map (symbol_line definitions uses) (s ∷ ss))

-- how many faults there are, and how many words
abbrev pub row_faults : List CardRow → ℕ
row_faults rows = count_by (λ (row : CardRow). is_some row.cause) rows

abbrev pub fault_count : Listed → ℕ
fault_count l = row_faults l.rows + (if l.has_end then 0 else 1)

abbrev pub row_words : List CardRow → ℕ
row_words [] = 0
row_words (row ∷ rows) = length row.words + row_words rows

abbrev pub word_count : Listed → ℕ
word_count l = row_words l.rows + length l.literals

abbrev pub deck_figures : Listed → List ℕ
deck_figures l =
    codes "START " ++ (octal_digits 5 l.start ++ (codes "   BLOCKS " ++ (decimal l.blocks ++ (codes "   WORDS " ++ (decimal (word_count l)
    ++ (codes "   LITERALS " ++ (decimal (length l.literals) ++ codes "   ")))))))

-- start, blocks and words are told of a program without a fault
abbrev pub first_figures : Listed → List ℕ
first_figures l = if nat_eq (fault_count l) 0 then deck_figures l else []

abbrev pub figures_line : Listed → List ℕ
figures_line l =
    line (first_figures l ++ (codes "CARDS " ++ (decimal (length l.rows) ++ (codes "   FAULTS " ++ decimal (fault_count l)))))

-- the listing of cards that come to this
unfoldable pub listing_text : Listed → List (List ℕ) → List ℕ
listing_text l cards =
    line (codes "CARD  PLACE  WORD             CARD AS IT STANDS")
    ++ (rows_text 1 l.rows cards
    ++ (end_text l.has_end (length cards)
    ++ (literals_text l.end_place l.literals
    ++ (symbols_text l.symbols l.definitions l.uses
    ++ (line [] ++ figures_line l)))))

-- the listing of a deck's cards
abbrev pub deck_listing_of : List (List ℕ) → List ℕ
deck_listing_of cards = listing_text (listed cards) cards
