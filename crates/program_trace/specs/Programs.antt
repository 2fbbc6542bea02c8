-- claim: the program that cards make, with the lines behind its END, which it may read.
use Rattle.std.specs.Prelude.{ℕ, zero, suc, ◌+◌, Bool, ◌&&◌, nat_le, if◌then◌else◌, List, [], ◌∷◌, length, drop, Option, Some, None, Ok, Err}
use Rattle.std.specs.List.{list_all}
use Rattle.std.specs.declared.result.Result.{Result}
use Rattle.bcd48.specs.Characters.{is_character}
use Rattle.ctss_types.specs.Line.{trimmed}
use Rattle.fap_model.specs.Decks.{Assembled, deck, faulty, assembled, cards_read}
pub use Rattle.program_trace.specs.declared.program.Program.{Program}
pub use Rattle.program_trace.specs.declared.program.ProgramFault.{ProgramFault}
pub use Rattle.program_trace.specs.declared.program.ProgramFault.TheVariants.{Cards, Line}

-- the cards behind the first END
abbrev pub cards_behind : List (List ℕ) → List (List ℕ)
cards_behind cards = drop (length (cards_read cards)) cards

-- without its trailing blanks a line has at most 84 characters, of the 48
abbrev pub is_line : List ℕ → Bool
is_line text = nat_le (length (trimmed text)) 84 && list_all is_character (trimmed text)

-- how many lines a session takes behind LOADGO
abbrev pub most_lines : ℕ
most_lines = 2047

-- the line of a text
abbrev pub line_in : List ℕ → Option (List ℕ)
line_in text = if is_line text then Some (trimmed text) else None

-- a line in front of others
abbrev pub with_line : List ℕ → Result (List (List ℕ)) ProgramFault → Result (List (List ℕ)) ProgramFault
with_line line (Ok lines) = Ok (line ∷ lines)
with_line line (Err fault) = Err fault

abbrev pub with_card : (n : ℕ) → Option (List ℕ) → Result (List (List ℕ)) ProgramFault → Result (List (List ℕ)) ProgramFault
with_card n None told = Err (Line n)
with_card n (Some line) told = with_line line told

-- the lines of cards, of which so many may be, from a number on; or the first card that is no line, or is one too many
abbrev pub lines_from : (left n : ℕ) → List (List ℕ) → Result (List (List ℕ)) ProgramFault
lines_from left n [] = Ok []
lines_from zero n (card ∷ cards) = Err (Line n)
lines_from (suc left) n (card ∷ cards) = with_card n (line_in card) (lines_from left (n + 1) cards)

abbrev pub program_with : (words : List ℕ) → Result (List (List ℕ)) ProgramFault → Result Program ProgramFault
program_with words (Ok lines) = Ok (record { deck = words; lines = lines })
program_with words (Err fault) = Err fault

abbrev pub program_by : Assembled → List (List ℕ) → Result Program ProgramFault
program_by (deck words) cards = program_with words (lines_from most_lines (length (cards_read cards) + 1) (cards_behind cards))
program_by (faulty fs) cards = Err Cards

-- the program of cards, or why there is none
unfoldable pub program_of : List (List ℕ) → Result Program ProgramFault
program_of cards = program_by (assembled cards) cards
