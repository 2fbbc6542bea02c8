-- claim: a card's place and words as a listing shows them.
use Rattle.std.specs.Prelude.{ℕ, ◌+◌, ◌/◌, ◌%◌, ◌^◌, Bool, true, false, if◌then◌else◌, List, [], ◌∷◌, ◌++◌, replicate, Option, Some, None}
use Rattle.word36.specs.Octal.{octal_digits}
use Rattle.opcode_table.specs.Table.{class_of}
use Rattle.opcode_table.specs.declared.op.Class.{Class}
use Rattle.opcode_table.specs.declared.op.Class.TheVariants as class
use Rattle.text_model.specs.Parts.{line}
use Rattle.fap_model.specs.declared.types.Operation.{Operation}
use Rattle.fap_model.specs.declared.types.Operation.TheVariants.{Machine as machine, Pze as pze, Org as org, Equ as equ}
use Rattle.fap_listing.specs.declared.word.Split.{Split}
use Rattle.fap_listing.specs.declared.word.Split.TheVariants.{Prefixed, Addressed, Data}

abbrev pub blanks : ℕ → List ℕ
blanks n = replicate n 32

-- how the word of an operation is split: into prefix, decrement, tag and address, into operation, tag and address, or not
abbrev pub class_split : Class → Split
class_split class.Addressed = Addressed
class_split class.Direct = Addressed
class_split class.Tagged = Addressed
class_split class.Prefixed = Prefixed
class_split class.Group = Addressed

abbrev pub split_of : Option Operation → Split
split_of None = Data
split_of (Some (machine o)) = class_split (class_of o)
split_of (Some pze) = Prefixed
split_of (Some o) = Data

abbrev pub word_text : Split → ℕ → List ℕ
word_text Prefixed w =
    octal_digits 1 (w / 2 ^ 33) ++ (blanks 1 ++ (octal_digits 5 (w / 2 ^ 18) ++ (blanks 1 ++ (octal_digits 1 (w / 2 ^ 15) ++ (blanks 1 ++ octal_digits 5 w)))))
word_text Addressed w = octal_digits 5 (w / 2 ^ 21) ++ (blanks 1 ++ (octal_digits 2 (w / 2 ^ 15) ++ (blanks 1 ++ octal_digits 5 w)))
word_text Data w = octal_digits 12 w

-- what fills a word's text up to 15 places
abbrev pub word_gap : Split → List ℕ
word_gap Prefixed = []
word_gap Addressed = blanks 1
word_gap Data = blanks 3

-- the first word, in 15 places
abbrev pub first_word : Split → List ℕ → List ℕ
first_word split [] = blanks 15
first_word split (w ∷ ws) = word_text split w ++ word_gap split

abbrev pub word_line : Split → (place : ℕ) → ℕ → List ℕ
word_line split place w = line (blanks 6 ++ (octal_digits 5 place ++ (blanks 2 ++ word_text split w)))

-- the place behind one, as an address
abbrev pub next_place : ℕ → ℕ
next_place place = (place % 2 ^ 15 + 1) % 2 ^ 15

-- a line each of words at successive places, from one on
abbrev pub word_lines : Split → (place : ℕ) → List ℕ → List ℕ
word_lines split place [] = []
word_lines split place (w ∷ ws) = word_line split place w ++ word_lines split (next_place place) ws

-- whether a card of an operation has a place
abbrev pub has_place : Option Operation → Bool
has_place None = false
has_place (Some org) = false
has_place (Some equ) = false
has_place (Some o) = true

abbrev pub place_text : Option Operation → (place : ℕ) → List ℕ
place_text o place = if has_place o then octal_digits 5 place else blanks 5
