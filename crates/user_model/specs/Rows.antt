-- claim: worked rows of commands: what lines ask for, and a file typed in.
use Rattle.std.specs.Prelude.{◌≡◌, ℕ, List, [], ◌∷◌, ◌++◌, replicate, codes, Option, Some, None}
use Rattle.ctss_types.specs.Names.{NamePair}
use Rattle.ctss_types.specs.Words.{name_of}
use Rattle.ctss_types.specs.declared.file.FileBody.{FileBody}
use Rattle.ctss_types.specs.declared.file.CommonOp.TheVariants.{Put, Get}
use Rattle.ctss_types.specs.declared.file.Refusal.TheVariants.{ReadOnly}
use Rattle.ctss_types.specs.declared.file.Reply.TheVariants.{Done, Words, Refused}
use Rattle.time_sharing.specs.Machine.{Line, Quit, Stopped}
use Rattle.time_sharing.specs.Rows.{Outcome}
use Rattle.user_model.specs.declared.Command.TheVariants.{Empty, LoadGo, List as Lists, Print, Rename, Delete, ChangeMode, Input, CopyTo, CopyFrom, Assemble, Link, Start, Save, Resume, Registers, WordAt, BadArguments, Unknown}
use Rattle.program_model.specs.Lines.{words_of_line}
use Rattle.user_model.specs.Inner.{Inner}
use Rattle.user_model.specs.Requests.{command_of}
use Rattle.user_model.specs.Commands.{CommandLine, command_row, command_asks, command_replied, input_row}
use Rattle.user_model.specs.Session.{first_state, inner_cut}

abbrev pub pair : Line → Line → NamePair
pair a b = record { first = name_of a; second = name_of b }

pub record RowOfRequests : Type 0 where
  pub empty : command_of (codes "  ") ≡ Empty
  pub list : command_of (codes " LISTF ") ≡ Lists
  pub list_of : command_of (codes "LISTF ALL") ≡ BadArguments
  pub print : command_of (codes "PRINTF HELLO FAP") ≡ Print (pair (codes "HELLO") (codes "FAP"))
  pub rename : command_of (codes "RENAME A B C D") ≡ Rename (pair (codes "A") (codes "B")) (pair (codes "C") (codes "D"))
  pub rename_to : command_of (codes "RENAME A B C") ≡ BadArguments
  pub delete : command_of (codes "DELETE ABCDEF B") ≡ Delete (pair (codes "ABCDEF") (codes "B"))
  pub long : command_of (codes "DELETE ABCDEFG B") ≡ BadArguments
  pub long_second : command_of (codes "DELETE A ABCDEFG") ≡ BadArguments
  pub mode : command_of (codes "CHMODE A B 9") ≡ ChangeMode (pair (codes "A") (codes "B")) 9
  pub digits : command_of (codes "CHMODE A B 10") ≡ BadArguments
  pub letter : command_of (codes "CHMODE A B X") ≡ BadArguments
  pub input : command_of (codes "INPUT A B") ≡ Input (pair (codes "A") (codes "B"))
  pub load : command_of (codes "LOADGO A") ≡ LoadGo (name_of (codes "A"))
  pub start : command_of (codes "START") ≡ Start
  pub save : command_of (codes "SAVE A") ≡ Save (name_of (codes "A"))
  pub resume : command_of (codes "RESUME A") ≡ Resume (name_of (codes "A"))
  pub registers : command_of (codes "PM") ≡ Registers
  pub place : command_of (codes "PM 77777") ≡ WordAt 32767
  pub long_place : command_of (codes "PM 000010") ≡ BadArguments
  pub no_octal : command_of (codes "PM 18") ≡ BadArguments
  pub out : command_of (codes "LOGOUT NOW") ≡ BadArguments
  pub unknown : command_of (codes "LIST") ≡ Unknown

abbrev pub notes : NamePair
notes = pair (codes "NOTES") (codes "TEXT")

abbrev pub file : List ℕ → FileBody
file words = record { name = notes; mode = 1; words = words }

-- a user of so many tracks, with these files, who types into a file or not
abbrev pub typist : ℕ → List FileBody → Option NamePair → Inner
typist tracks files input = record (first_state (record { name = 1; password = 2; blocks = 8; tracks = tracks }) files).inner { input = input }

abbrev pub outcome : Inner → List Line → Outcome Inner
outcome i lines = record { inner = i; written = lines; front = []; ending = Stopped }

-- a command that no command file's line is behind
abbrev pub typed_alone : CommandLine
typed_alone = record { line = []; fed = 0 }

abbrev pub midnight : Line
midnight = codes "W 0000.0"

-- HI and twelve more blank words
abbrev pub words_of_hi : List ℕ
words_of_hi = name_of (codes "HI") ∷ replicate 13 (name_of (codes ""))

pub record RowOfInput : Type 0 where
  pub begun : command_row (Input notes) (typist 1 [] None) typed_alone 1 0 ≡ outcome (typist 1 (file [] ∷ []) (Some notes)) (midnight ∷ [])
  pub there : command_row (Input notes) (typist 2 (file [] ∷ []) None) typed_alone 1 0 ≡ outcome (typist 2 (file [] ∷ []) None) (midnight ∷ codes "NAME IN USE" ∷ codes "R 1" ∷ [])
  pub no_track : command_row (Input notes) (typist 0 [] None) typed_alone 1 0 ≡ outcome (typist 0 [] None) (midnight ∷ codes "QUOTA EXCEEDED" ∷ codes "R 1" ∷ [])
  pub typed : input_row notes (codes "HI") (typist 1 (file [] ∷ []) (Some notes)) 2 ≡ outcome (typist 1 (file words_of_hi ∷ []) (Some notes)) []
  pub full : input_row notes (codes "HI") (typist 1 (file (replicate 420 0) ∷ []) (Some notes)) 32
      ≡ outcome (typist 1 (file (replicate 420 0) ∷ []) None) (codes "QUOTA EXCEEDED" ∷ codes "R 32" ∷ [])
  pub over : input_row notes [] (typist 1 (file words_of_hi ∷ []) (Some notes)) 3 ≡ outcome (typist 1 (file words_of_hi ∷ []) None) (codes "R 3" ∷ [])
  pub quit : inner_cut Quit (typist 1 [] (Some notes)) ≡ typist 1 [] None
  pub shown : command_row (Print notes) (typist 1 (file words_of_hi ∷ []) None) typed_alone 1 0 ≡ outcome (typist 1 (file words_of_hi ∷ []) None) (midnight ∷ codes "HI" ∷ codes "R 1" ∷ [])
  pub gone : command_row (Delete notes) (typist 1 (file words_of_hi ∷ []) None) typed_alone 1 0 ≡ outcome (typist 1 [] None) (midnight ∷ codes "R 1" ∷ [])
  pub absent : command_row (Delete notes) (typist 1 [] None) typed_alone 1 0 ≡ outcome (typist 1 [] None) (midnight ∷ codes "FILE NOT FOUND" ∷ codes "R 1" ∷ [])
  pub mode : command_row (ChangeMode notes 4) (typist 1 (file [] ∷ []) None) typed_alone 1 0
      ≡ outcome (typist 1 (file [] ∷ []) None) (midnight ∷ codes "BAD MODE" ∷ codes "R 1" ∷ [])

-- a file of one card
abbrev pub cards : Line → FileBody
cards card = record { name = pair (codes "GREET") (codes "FAP"); mode = 1; words = words_of_line 14 card }

abbrev pub greeting : ℕ
greeting = name_of (codes "GREET")

-- a deck of no word but the first
abbrev pub end_deck : FileBody
end_deck = record { name = pair (codes "GREET") (codes "BSS"); mode = 1; words = 1 ∷ [] }

pub record RowOfAssembly : Type 0 where
  pub asked : command_of (codes "FAP GREET") ≡ Assemble greeting
  pub names : command_of (codes "FAP GREET FAP") ≡ BadArguments
  pub made : command_row (Assemble greeting) (typist 2 (cards (codes "       END") ∷ []) None) typed_alone 1 0
      ≡ outcome (typist 2 (cards (codes "       END") ∷ end_deck ∷ []) None) (midnight ∷ codes "R 1" ∷ [])
  pub no_room : command_row (Assemble greeting) (typist 1 (cards (codes "       END") ∷ []) None) typed_alone 1 0
      ≡ outcome (typist 1 (cards (codes "       END") ∷ []) None) (midnight ∷ codes "QUOTA EXCEEDED" ∷ codes "R 1" ∷ [])
  pub faults : command_row (Assemble greeting) (typist 2 (cards (codes "       CLX     1") ∷ []) None) typed_alone 1 0
      ≡ outcome (typist 2 (cards (codes "       CLX     1") ∷ []) None) (midnight ∷ codes "CARD 1 FAULT 1" ∷ codes "CARD 2 FAULT 6" ∷ codes "R 1" ∷ [])
  pub absent : command_row (Assemble greeting) (typist 2 [] None) typed_alone 1 0 ≡ outcome (typist 2 [] None) (midnight ∷ codes "FILE NOT FOUND" ∷ codes "R 1" ∷ [])

-- a file of a module's two cards, which is a place of zeros
abbrev pub module_cards : FileBody
module_cards = record { name = pair (codes "GREET") (codes "FAP"); mode = 1; words = words_of_line 14 (codes "       REL") ++ (words_of_line 14 (codes "       BSS     1") ++ words_of_line 14 (codes "       END")) }

-- a module's start and places, its entries and externs, and the kind and word of its place
abbrev pub module_file : FileBody
module_file = record { name = pair (codes "GREET") (codes "REL"); mode = 1; words = 1 ∷ 0 ∷ 0 ∷ 0 ∷ [] }

-- the deck of two such modules
abbrev pub two_deck : FileBody
two_deck = record { name = pair (codes "TWO") (codes "BSS"); mode = 1; words = 1 ∷ 0o000002000000 ∷ 0 ∷ 0 ∷ [] }

-- a line that is taken, without lines of command files behind it
abbrev pub typed_line : Line → CommandLine
typed_line l = record { line = l; fed = 0 }

pub record RowOfLinking : Type 0 where
  pub asked : command_of (codes "LINK TWO GREET GREET") ≡ Link (name_of (codes "TWO"))
  pub none : command_of (codes "LINK TWO") ≡ BadArguments
  pub eight : command_of (codes "LINK TWO A B C D E F G H") ≡ Link (name_of (codes "TWO"))
  pub nine : command_of (codes "LINK TWO A B C D E F G H I") ≡ BadArguments
  pub long : command_of (codes "LINK TWO A GREETING") ≡ BadArguments
  pub made : command_row (Assemble greeting) (typist 2 (module_cards ∷ []) None) typed_alone 1 0
      ≡ outcome (typist 2 (module_cards ∷ module_file ∷ []) None) (midnight ∷ codes "R 1" ∷ [])
  pub linked : command_row (Link (name_of (codes "TWO"))) (typist 2 (module_file ∷ []) None) (typed_line (codes "LINK TWO GREET GREET")) 1 0
      ≡ outcome (typist 2 (module_file ∷ two_deck ∷ []) None) (midnight ∷ codes "R 1" ∷ [])
  pub no_room : command_row (Link (name_of (codes "TWO"))) (typist 1 (module_file ∷ []) None) (typed_line (codes "LINK TWO GREET GREET")) 1 0
      ≡ outcome (typist 1 (module_file ∷ []) None) (midnight ∷ codes "QUOTA EXCEEDED" ∷ codes "R 1" ∷ [])
  pub absent : command_row (Link (name_of (codes "TWO"))) (typist 2 (module_file ∷ []) None) (typed_line (codes "LINK TWO GREET A")) 1 0
      ≡ outcome (typist 2 (module_file ∷ []) None) (midnight ∷ codes "FILE NOT FOUND" ∷ codes "R 1" ∷ [])

pub record RowOfCopies : Type 0 where
  pub to : command_of (codes "COPY TO NOTES TEXT") ≡ CopyTo notes
  pub from : command_of (codes "COPY FROM NOTES TEXT") ≡ CopyFrom notes
  pub neither : command_of (codes "COPY INTO NOTES TEXT") ≡ BadArguments
  pub alone : command_of (codes "COPY") ≡ BadArguments
  pub put : command_asks (CopyTo notes) (typist 1 (file words_of_hi ∷ []) None) ≡ Some (Put notes words_of_hi)
  pub got : command_asks (CopyFrom notes) (typist 1 [] None) ≡ Some (Get notes)
  -- no operation is made of a file that isn't there
  pub none : command_asks (CopyTo notes) (typist 1 [] None) ≡ None
  pub absent : command_row (CopyTo notes) (typist 1 [] None) typed_alone 1 0 ≡ outcome (typist 1 [] None) (midnight ∷ codes "FILE NOT FOUND" ∷ codes "R 1" ∷ [])
  pub done : command_replied (CopyTo notes) (typist 1 (file [] ∷ []) None) 1 0 Done ≡ outcome (typist 1 (file [] ∷ []) None) (midnight ∷ codes "R 1" ∷ [])
  pub refused : command_replied (CopyTo notes) (typist 1 (file [] ∷ []) None) 1 0 (Refused ReadOnly)
      ≡ outcome (typist 1 (file [] ∷ []) None) (midnight ∷ codes "READ ONLY" ∷ codes "R 1" ∷ [])
  pub copied : command_replied (CopyFrom notes) (typist 1 [] None) 1 0 (Words words_of_hi) ≡ outcome (typist 1 (file words_of_hi ∷ []) None) (midnight ∷ codes "R 1" ∷ [])
  pub full : command_replied (CopyFrom notes) (typist 0 [] None) 1 0 (Words words_of_hi) ≡ outcome (typist 0 [] None) (midnight ∷ codes "QUOTA EXCEEDED" ∷ codes "R 1" ∷ [])
