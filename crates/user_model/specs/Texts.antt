-- claim: the lines that a user's steps write.
use Rattle.std.specs.Prelude.{ℕ, ◌+◌, ◌/◌, ◌%◌, [], ◌∷◌, ◌++◌, codes}
use Rattle.std.specs.Fmt.{decimal}
use Rattle.time_sharing.specs.Machine.{Line}
use Rattle.word36.specs.Octal.{octal_digits}
use Rattle.ctss_types.specs.Words.{text_of_name}

-- the last digit of a number
abbrev pub digit : ℕ → ℕ
digit n = 48 + n % 10

-- W hhmm.t: a tick is a thousandth of a tenth of a minute, and hours go round at 24
unfoldable pub time_text : ℕ → Line
time_text t =
    codes "W " ++ digit (t / 600000 % 24 / 10) ∷ digit (t / 600000 % 24) ∷ digit (t / 10000 % 60 / 10) ∷ digit (t / 10000 % 60) ∷ 46 ∷ digit (t / 1000) ∷ []

-- R n: so many own steps since the command
unfoldable pub ready_text : ℕ → Line
ready_text n = codes "R " ++ decimal n

unfoldable pub logged_in_text : ℕ → Line
logged_in_text name = text_of_name name ++ codes " LOGGED IN"

unfoldable pub logged_out_text : ℕ → Line
logged_out_text name = text_of_name name ++ codes " LOGGED OUT"

-- why a program stopped, and the place of the instruction in five octal digits
unfoldable pub stop_text : Line → ℕ → Line
stop_text why place = why ++ (codes " AT " ++ octal_digits 5 place)

-- the number of a card at fault, and of its fault
unfoldable pub fault_text : ℕ × ℕ → Line
fault_text f = codes "CARD " ++ (decimal f.0 ++ (codes " FAULT " ++ decimal f.1))

-- a word and a text, with a blank between them unless there is no text: no line ends with a blank
abbrev pub with_text : Line → Line → Line
with_text word [] = word
with_text word (x ∷ text) = word ++ 32 ∷ x ∷ text

-- a name that two of the linked modules enter
unfoldable pub doubly_text : ℕ → Line
doubly_text name = with_text (codes "DOUBLY") (text_of_name name)

-- a name that none of the linked modules enters
unfoldable pub undefined_text : ℕ → Line
undefined_text name = with_text (codes "UNDEFINED") (text_of_name name)
