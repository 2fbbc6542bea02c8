-- claim: the lines of a command file, with the arguments of the command in them.
use Rattle.std.specs.Prelude.{ℕ, ◌-◌, ◌==◌, ◌&&◌, List, [], ◌∷◌, ◌++◌, length, map, nat_le, if◌then◌else◌, Option, Some, None, Ok, Err, slice_get}
use Rattle.std.specs.declared.result.Result.{Result}
use Rattle.std.specs.List.{list_all, slice_split}
use Rattle.program_model.specs.Lines.{lines_of_words}
use Rattle.program_model.specs.declared.ComRefusal.{ComRefusal}
use Rattle.program_model.specs.declared.ComRefusal.TheVariants.{BadArguments, TooLong}

abbrev pub Line : Type 0
Line = List ℕ

-- $ and a digit 1 to 9 stand for the argument of that number; all else stays
abbrev pub argument_for : List Line → Line → Option Line
argument_for arguments (c ∷ d ∷ []) = if c == 36 && (nat_le 49 d && nat_le d 57) then slice_get arguments (d - 49) else Some (c ∷ d ∷ [])
argument_for arguments part = Some part

abbrev pub before_all : {A : Type 0} → Option A → Option (List A) → Option (List A)
before_all None xs = None
before_all (Some x) None = None
before_all (Some x) (Some xs) = Some (x ∷ xs)

-- all of them, or none where one isn't there
abbrev pub all_of : {A : Type 0} → List (Option A) → Option (List A)
all_of [] = Some []
all_of (x ∷ xs) = before_all x (all_of xs)

-- parts with a blank between each two
abbrev pub words_joined : List Line → Line
words_joined [] = []
words_joined (p ∷ []) = p
words_joined (p ∷ q ∷ ps) = p ++ 32 ∷ words_joined (q ∷ ps)

abbrev pub joined_all : Option (List Line) → Option Line
joined_all None = None
joined_all (Some parts) = Some (words_joined parts)

-- a line with its arguments
abbrev pub with_arguments : List Line → Line → Option Line
with_arguments arguments line = joined_all (all_of (map (argument_for arguments) (slice_split (λ b. b == 32) line)))

-- lines of at most 84 characters, at most so many
abbrev pub fitting : ℕ → Option (List Line) → Result (List Line) ComRefusal
fitting room None = Err BadArguments
fitting room (Some lines) = if list_all (λ l. nat_le (length l) 84) lines && nat_le (length lines) room then Ok lines else Err TooLong

-- these lines with these arguments, where at most so many lines are to be added
abbrev pub lines_with : List Line → List Line → ℕ → Result (List Line) ComRefusal
lines_with lines arguments room = fitting room (all_of (map (with_arguments arguments) lines))

-- the lines of a command file's words
unfoldable pub command_lines : List ℕ → List Line → ℕ → Result (List Line) ComRefusal
command_lines words arguments room = lines_with (lines_of_words words) arguments room
