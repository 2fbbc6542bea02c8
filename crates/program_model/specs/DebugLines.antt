-- claim: what a line asks of the debugger.
use Rattle.std.specs.Prelude.{ℕ, List, [], ◌∷◌, codes, bytes_eq, if◌then◌else◌, Option, Some, None}
use Rattle.ctss_types.specs.Words.{words_of}
use Rattle.program_model.specs.declared.DebugLine.{DebugLine}
use Rattle.program_model.specs.declared.DebugLine.TheVariants.{Break, Clear, Go, Look, Regs, Set, End, Bad}
use Rattle.program_model.specs.Octals.{octal_in}

abbrev pub if_place : (ℕ → DebugLine) → Option ℕ → DebugLine
if_place line None = Bad
if_place line (Some a) = line a

-- just one place, of one to five octal digits
abbrev pub one_place : List (List ℕ) → Option ℕ
one_place (w ∷ []) = octal_in 5 w
one_place _ = None

abbrev pub with_place : (ℕ → DebugLine) → List (List ℕ) → DebugLine
with_place line ws = if_place line (one_place ws)

-- a line of one word
abbrev pub only : DebugLine → List (List ℕ) → DebugLine
only line [] = line
only line _ = Bad

abbrev pub set_by : Option ℕ → Option ℕ → DebugLine
set_by (Some a) (Some w) = Set a w
set_by _ _ = Bad

-- a place, and a word of one to twelve octal digits
abbrev pub set_of : List (List ℕ) → DebugLine
set_of (a ∷ w ∷ []) = set_by (octal_in 5 a) (octal_in 12 w)
set_of _ = Bad

abbrev pub debug_by : List ℕ → List (List ℕ) → DebugLine
debug_by w ws =
    if bytes_eq w (codes "BREAK") then with_place (λ a. Break a) ws
    else (if bytes_eq w (codes "CLEAR") then with_place (λ a. Clear a) ws
    else (if bytes_eq w (codes "GO") then only Go ws
    else (if bytes_eq w (codes "LOOK") then with_place (λ a. Look a) ws
    else (if bytes_eq w (codes "REGS") then only Regs ws
    else (if bytes_eq w (codes "SET") then set_of ws
    else (if bytes_eq w (codes "END") then only End ws else Bad))))))

abbrev pub debug_of_words : List (List ℕ) → DebugLine
debug_of_words [] = End
debug_of_words (w ∷ ws) = debug_by w ws

-- what a line asks of the debugger; a line without a word ends it
unfoldable pub debug_of : List ℕ → DebugLine
debug_of l = debug_of_words (words_of l)
