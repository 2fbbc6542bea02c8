-- claim: lines as words of a program, six characters each.
use Rattle.std.specs.Prelude.{ℕ, zero, suc, List, [], ◌∷◌, length, map, slice_index, slice_set, take, drop}
use Rattle.std.specs.List.{flat_map}
use Rattle.bcd48.specs.Words.{characters_of}
use Rattle.ctss_types.specs.Words.{name_of}
use Rattle.ctss_types.specs.Line.{trimmed}

-- what words print as; trailing blanks are dropped
abbrev pub line_of_words : List ℕ → List ℕ
line_of_words words = trimmed (flat_map characters_of words)

-- words in groups of 14, the last with what is left; there are no more groups than words
abbrev pub groups : ℕ → List ℕ → List (List ℕ)
groups zero words = []
groups (suc n) [] = []
groups (suc n) (w ∷ words) = take 14 (w ∷ words) ∷ groups n (drop 14 (w ∷ words))

-- each 14 words as one line, a last shorter group too
abbrev pub lines_of_words : List ℕ → List (List ℕ)
lines_of_words words = map line_of_words (groups (length words) words)

-- so many words from the characters of a line, with blanks behind them; a longer line is cut
abbrev pub words_of_line : ℕ → List ℕ → List ℕ
words_of_line zero line = []
words_of_line (suc n) line = name_of (take 6 line) ∷ words_of_line n (drop 6 line)

-- so many words from an address on
abbrev pub words_at : List ℕ → (at count : ℕ) → List ℕ
words_at core at zero = []
words_at core at (suc n) = slice_index core at ∷ words_at core (suc at) n

-- words from an address on, each over the one that stands there
abbrev pub with_words : List ℕ → ℕ → List ℕ → List ℕ
with_words core at [] = core
with_words core at (w ∷ words) = with_words (slice_set core at w) (suc at) words
