-- claim: parts of lines.
use Rattle.std.specs.Prelude.{ℕ, ◌-◌, List, [], ◌∷◌, ◌++◌, length, replicate}
use Rattle.std.specs.Fmt.{decimal}
use Rattle.ctss_types.specs.Words.{text_of_name}

-- a line is ended by LF
abbrev pub line : List ℕ → List ℕ
line text = text ++ 10 ∷ []

-- a part behind a blank
abbrev pub blank : List ℕ → List ℕ
blank text = 32 ∷ text

abbrev pub number : ℕ → List ℕ
number n = blank (decimal n)

-- a name as it is written, behind a blank
abbrev pub name : ℕ → List ℕ
name word = blank (text_of_name word)

-- a text right in so many places; a longer one stands whole
abbrev pub in_places : ℕ → List ℕ → List ℕ
in_places places text = replicate (places - length text) 32 ++ text

-- a number right in so many places
abbrev pub column : ℕ → ℕ → List ℕ
column places n = in_places places (decimal n)
