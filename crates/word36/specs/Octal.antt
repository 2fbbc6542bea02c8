-- claim: octal digits as ASCII text.
use Rattle.std.specs.Prelude.{ℕ, zero, suc, ◌+◌, ◌/◌, ◌%◌, List, [], ◌∷◌, ◌++◌}

-- the last k octal digits of n
unfoldable pub octal_digits : ℕ → ℕ → List ℕ
octal_digits zero n = []
octal_digits (suc k) n = octal_digits k (n / 8) ++ (48 + n % 8) ∷ []

-- a word's twelve
abbrev pub octal_text : ℕ → List ℕ
octal_text = octal_digits 12
