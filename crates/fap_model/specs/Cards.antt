-- claim: what stands where on a card. A card is its text; columns are numbered from 1, and those that it doesn't have are blank.
use Rattle.std.specs.Prelude.{ℕ, zero, suc, ◌-◌, Bool, false, not, ◌&&◌, ◌||◌, ◌==◌, nat_eq, nat_lt, nat_le, if◌then◌else◌, List, [], ◌∷◌, ◌++◌, length, take, drop, replicate, Option, Some, None, bytes_eq}
use Rattle.std.specs.List.{list_all, prefix_len}
use Rattle.bcd48.specs.Characters.{is_character}
use Rattle.bcd48.specs.Words.{characters_of}
use Rattle.ctss_types.specs.Line.{trimmed}
use Rattle.ctss_types.specs.Words.{name_of}

-- so many columns from one on
abbrev pub columns : (from count : ℕ) → List ℕ → List ℕ
columns from count text = take count (drop (from - 1) text ++ replicate count 32)

abbrev pub until_blank : List ℕ → List ℕ
until_blank xs = take (prefix_len (λ b. not (b == 32)) xs) xs

abbrev pub starred : List ℕ → Bool
starred [] = false
starred (x ∷ []) = nat_eq x 42
starred (x ∷ y ∷ xs) = starred (y ∷ xs)

-- an asterisk in column 1
abbrev pub is_comment : List ℕ → Bool
is_comment text = bytes_eq (take 1 text) (42 ∷ [])

-- more than 84 characters, or one outside the 48
abbrev pub is_bad : List ℕ → Bool
is_bad text = nat_lt 84 (length text) || not (list_all is_character text)

-- columns 1 to 6
abbrev pub symbol_columns : List ℕ → List ℕ
symbol_columns text = columns 1 6 text

-- columns 8 to 15 up to a blank
abbrev pub operation_columns : List ℕ → List ℕ
operation_columns text = until_blank (columns 8 8 text)

-- an asterisk at the operation's end
abbrev pub flag_of : List ℕ → Bool
flag_of text = starred (operation_columns text)

-- the operation without that asterisk
abbrev pub operation_of : List ℕ → List ℕ
operation_of text = if flag_of text then take (length (operation_columns text) - 1) (operation_columns text) else operation_columns text

-- the variable field: columns 16 to 72 up to a blank
abbrev pub field_of : List ℕ → List ℕ
field_of text = until_blank (columns 16 57 text)

abbrev pub is_digit : ℕ → Bool
is_digit b = nat_le 48 b && nat_le b 57

abbrev pub is_letter : ℕ → Bool
is_letter b = nat_le 65 b && nat_le b 90

abbrev pub is_symbol_character : ℕ → Bool
is_symbol_character b = is_letter b || (is_digit b || nat_eq b 46)

-- 1 to 6 letters, digits or points, one of them no digit
abbrev pub is_symbol : List ℕ → Bool
is_symbol xs = nat_le 1 (length xs) && nat_le (length xs) 6 && list_all is_symbol_character xs && not (list_all is_digit xs)

abbrev pub symbol_text : List ℕ → List ℕ
symbol_text text = trimmed (symbol_columns text)

-- the card's symbol as a word, if it has a good one
abbrev pub symbol_of : List ℕ → Option ℕ
symbol_of text = if is_symbol (symbol_text text) then Some (name_of (symbol_text text)) else None

-- something that is no symbol stands in its columns
abbrev pub has_bad_symbol : List ℕ → Bool
has_bad_symbol text = nat_lt 0 (length (symbol_text text)) && not (is_symbol (symbol_text text))

-- a card that has room for so many words more
abbrev pub grown : List ℕ → ℕ → List ℕ → List (List ℕ)
grown card room [] = card ∷ []
grown card zero (w ∷ ws) = card ∷ grown (characters_of w) 13 ws
grown card (suc room) (w ∷ ws) = grown (card ++ characters_of w) room ws

-- the cards of a file: its words fourteen a card, the last card with what is left
abbrev pub cards_of : List ℕ → List (List ℕ)
cards_of [] = []
cards_of (w ∷ ws) = grown (characters_of w) 13 ws
