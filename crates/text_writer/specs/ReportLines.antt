-- proof: lines of words and numbers, bracketed as the entries' texts are.
use Rattle.std.specs.Prelude.{ℕ, List, [], ◌∷◌, ◌++◌}
use Rattle.text_model.specs.Parts.{number, blank}
use Rattle.text_writer.specs.Lines.{spaced}

-- numbers, each behind a blank, and then the rest
abbrev pub spaced_then : List ℕ → List ℕ → List ℕ
spaced_then [] rest = rest
spaced_then (n ∷ ns) rest = number n ++ spaced_then ns rest

-- a word behind a blank, and then numbers
abbrev pub worded : List ℕ → List ℕ → List ℕ
worded word [] = blank word
worded word (n ∷ ns) = blank word ++ spaced (n ∷ ns)
