-- claim: the 48 characters and their codes.
use Rattle.std.specs.Prelude.{ℕ, Bool, not, ◌==◌, ◌&&◌, ◌||◌, nat_lt, Option, Some, List, ◌++◌, slice_index, codes, if◌then◌else◌}
use Rattle.std.specs.List.{list_any, position}

-- what each of the 64 codes prints as, in rows of 16; a code that no character has prints as a blank
abbrev pub printed : List ℕ
printed = codes "0123456789 ='   "
    ++ codes "+ABCDEFGHI .)   "
    ++ codes "-JKLMNOPQR $*   "
    ++ codes " /STUVWXYZ ,(   "

-- the byte is one of the 48
abbrev pub is_character : ℕ → Bool
is_character b = list_any (λ c. c == b) printed

-- the place in the list, and of the blank 60 in octal
abbrev pub code_of : ℕ → Option ℕ
code_of b = if b == 32 then Some 48 else position (λ c. c == b) printed

-- what the code prints as
abbrev pub char_of : ℕ → ℕ
char_of c = slice_index printed c

-- the code is that of one of the 48 characters
abbrev pub is_code : ℕ → Bool
is_code c = nat_lt c 64 && (c == 48 || not (char_of c == 32))
