-- claim: what a line asks for.
use Rattle.std.specs.Prelude.{ℕ, ◌-◌, ◌&&◌, List, [], ◌∷◌, length, nat_le, codes, bytes_eq, if◌then◌else◌, Option, Some, None}
use Rattle.std.specs.List.{list_all}
use Rattle.ctss_types.specs.Names.{NamePair}
use Rattle.ctss_types.specs.Words.{words_of, name_of}
use Rattle.time_sharing.specs.Machine.{Line}
use Rattle.program_model.specs.Octals.{octal_in}
use Rattle.user_model.specs.declared.Command.{Command}
use Rattle.user_model.specs.declared.Command.TheVariants.{Empty, Logout, LoadGo, List as Lists, Print, Rename, Delete, ChangeMode, Input, CopyTo, CopyFrom, Assemble, Link, Start, Save, Resume, Registers, WordAt, Debug, RunFile, BadArguments, Unknown}

-- a word of at most six characters is a name
abbrev pub word_name : Line → Option ℕ
word_name w = if nat_le (length w) 6 then Some (name_of w) else None

abbrev pub both_names : Option ℕ → Option ℕ → Option NamePair
both_names (Some a) (Some b) = Some (record { first = a; second = b })
both_names _ _ = None

-- two words are a file's names
abbrev pub file_in : Line → Line → Option NamePair
file_in a b = both_names (word_name a) (word_name b)

-- a word of one digit
abbrev pub digit_in : Line → Option ℕ
digit_in (d ∷ []) = if nat_le 48 d && nat_le d 57 then Some (d - 48) else None
digit_in _ = None

-- the command, or words that it doesn't take
abbrev pub if_some : {A : Type 0} → (A → Command) → Option A → Command
if_some command None = BadArguments
if_some command (Some a) = command a

-- a command that takes no words behind its name
abbrev pub alone : Command → List Line → Command
alone command [] = command
alone command _ = BadArguments

-- a command that takes just one name
abbrev pub with_name : (ℕ → Command) → List Line → Command
with_name command (w ∷ []) = if_some command (word_name w)
with_name command _ = BadArguments

-- a command that takes just the two names of a file
abbrev pub with_file : (NamePair → Command) → List Line → Command
with_file command (a ∷ b ∷ []) = if_some command (file_in a b)
with_file command _ = BadArguments

-- a file's names, and its new names
abbrev pub rename_of : List Line → Command
rename_of (a ∷ b ∷ c ∷ d ∷ []) = if_some (λ name. if_some (λ to. Rename name to) (file_in c d)) (file_in a b)
rename_of _ = BadArguments

-- a file's names, and a digit
abbrev pub chmode_of : List Line → Command
chmode_of (a ∷ b ∷ m ∷ []) = if_some (λ name. if_some (λ mode. ChangeMode name mode) (digit_in m)) (file_in a b)
chmode_of _ = BadArguments

-- the registers, or the word at a place of one to five octal digits
abbrev pub post_mortem_of : List Line → Command
post_mortem_of [] = Registers
post_mortem_of (w ∷ []) = if_some (λ place. WordAt place) (octal_in 5 w)
post_mortem_of _ = BadArguments

-- TO or FROM, and a file
abbrev pub copy_by : List Line → Command
copy_by [] = BadArguments
copy_by (w ∷ ws) =
    if bytes_eq w (codes "TO") then with_file (λ name. CopyTo name) ws
    else (if bytes_eq w (codes "FROM") then with_file (λ name. CopyFrom name) ws else BadArguments)

-- a command file's name, and at most nine arguments
abbrev pub run_of : List Line → Command
run_of [] = BadArguments
run_of (w ∷ ws) = if nat_le (length ws) 9 then if_some (λ name. RunFile name) (word_name w) else BadArguments

-- a deck's name, and the names of one to eight modules
abbrev pub linking_of : List Line → Command
linking_of [] = BadArguments
linking_of (w ∷ ws) =
    if nat_le 1 (length ws) && (nat_le (length ws) 8 && list_all (λ m. nat_le (length m) 6) ws) then if_some (λ name. Link name) (word_name w)
    else BadArguments

-- each command's name, and what the words behind it ask for
abbrev pub commands : List (Line × (List Line → Command))
commands =
    (codes "LOGOUT", alone Logout)
    ∷ (codes "LOADGO", with_name (λ name. LoadGo name))
    ∷ (codes "LISTF", alone Lists)
    ∷ (codes "PRINTF", with_file (λ name. Print name))
    ∷ (codes "RENAME", rename_of)
    ∷ (codes "DELETE", with_file (λ name. Delete name))
    ∷ (codes "CHMODE", chmode_of)
    ∷ (codes "INPUT", with_file (λ name. Input name))
    ∷ (codes "COPY", copy_by)
    ∷ (codes "FAP", with_name (λ name. Assemble name))
    ∷ (codes "LINK", linking_of)
    ∷ (codes "START", alone Start)
    ∷ (codes "SAVE", with_name (λ name. Save name))
    ∷ (codes "RESUME", with_name (λ name. Resume name))
    ∷ (codes "PM", post_mortem_of)
    ∷ (codes "FAPDBG", alone Debug)
    ∷ (codes "RUNCOM", run_of)
    ∷ []

-- the command of a name, among those of a list
abbrev pub command_named : List (Line × (List Line → Command)) → Line → List Line → Command
command_named [] w ws = Unknown
command_named ((name, asks) ∷ rest) w ws = if bytes_eq w name then asks ws else command_named rest w ws

abbrev pub command_of_words : List Line → Command
command_of_words [] = Empty
command_of_words (w ∷ ws) = command_named commands w ws

-- what a line asks for
unfoldable pub command_of : Line → Command
command_of l = command_of_words (words_of l)
