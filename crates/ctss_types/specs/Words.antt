-- claim: the words of a line, and names as words of the machine.
use Rattle.std.specs.Prelude.{ℕ, not, ◌-◌, ◌==◌, ◌++◌, nat_eq, List, length, map, filter, replicate, take, drop}
use Rattle.std.specs.List.{slice_split, prefix_len}
use Rattle.std.specs.Option.{unwrap_or}
use Rattle.bcd48.specs.Characters.{code_of}
use Rattle.bcd48.specs.Words.{packed, characters_of}
use Rattle.ctss_types.specs.Line.{trimmed}

-- what stands between blanks
abbrev pub words_of : List ℕ → List (List ℕ)
words_of line = filter (λ part. not (nat_eq (length part) 0)) (slice_split (λ b. b == 32) line)

-- the first word of a text, empty where there is none
abbrev pub word_in : List ℕ → List ℕ
word_in text =
    let rest = drop (prefix_len (λ b. b == 32) text) text in
    take (prefix_len (λ b. not (b == 32)) rest) rest

-- what stands behind the first word
abbrev pub behind_word : List ℕ → List ℕ
behind_word text =
    let rest = drop (prefix_len (λ b. b == 32) text) text in
    drop (prefix_len (λ b. not (b == 32)) rest) rest

-- the code of a character, and the blank's for any other byte
abbrev pub code_for : ℕ → ℕ
code_for b = unwrap_or (code_of b) 48

-- a name of at most six characters: its codes from the left, and blanks behind them
unfoldable pub name_of : List ℕ → ℕ
name_of text = packed (map code_for (text ++ replicate (6 - length text) 32))

-- a name as it is written
unfoldable pub text_of_name : ℕ → List ℕ
text_of_name word = trimmed (characters_of word)
