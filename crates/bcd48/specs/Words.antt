-- claim: six codes in a word of 36 bits, the first one highest.
use Rattle.std.specs.Prelude.{ℕ, ◌+◌, ◌*◌, ◌/◌, ◌%◌, ◌^◌, List, [], ◌∷◌, length, map}
use Rattle.bcd48.specs.Characters.{char_of}

-- each code times 64 to the power of its place from the right
abbrev pub packed : List ℕ → ℕ
packed [] = 0
packed (c ∷ cs) = c * 64 ^ length cs + packed cs

-- the six codes of a word
abbrev pub codes_in : ℕ → List ℕ
codes_in w = w / 64 ^ 5 % 64 ∷ w / 64 ^ 4 % 64 ∷ w / 64 ^ 3 % 64 ∷ w / 64 ^ 2 % 64 ∷ w / 64 % 64 ∷ w % 64 ∷ []

-- what a word prints as
abbrev pub characters_of : ℕ → List ℕ
characters_of w = map char_of (codes_in w)
