-- proof: the words behind a command's name, read one after another.
use Rattle.std.specs.Prelude.{ℕ, List, [], ◌∷◌, Option, None}
use Rattle.ctss_types.specs.Names.{NamePair}
use Rattle.user_model.specs.Requests.{word_name, file_in}

-- the first two words as a file's names
abbrev pub file_first : List (List ℕ) → Option NamePair
file_first (a ∷ b ∷ ws) = file_in a b
file_first _ = None

-- just one name
abbrev pub one_name : List (List ℕ) → Option ℕ
one_name (w ∷ []) = word_name w
one_name _ = None

-- just the two names of a file
abbrev pub one_file : List (List ℕ) → Option NamePair
one_file (a ∷ b ∷ []) = file_in a b
one_file _ = None
