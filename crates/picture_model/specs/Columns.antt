-- claim: means in columns.
use Rattle.std.specs.Prelude.{ℕ, zero, suc, ◌*◌, ◌/◌, ◌%◌, List, ◌∷◌, ◌++◌, length, sum, codes}
use Rattle.std.specs.Fmt.{decimal}
use Rattle.text_model.specs.Parts.{in_places, column}
use Rattle.picture_model.specs.Figures.{greatest}

-- a number of tenths
abbrev pub tenths : ℕ → List ℕ
tenths n = decimal (n / 10) ++ (46 ∷ decimal (n % 10))

-- the mean of some numbers to a tenth, - of none
abbrev pub mean : (count sum : ℕ) → List ℕ
mean zero sum = codes "-"
mean (suc n) sum = tenths (sum * 10 / suc n)

-- a mean in 10 places, and the greatest number in 8
abbrev pub mean_columns : List ℕ → List ℕ
mean_columns ns = in_places 10 (mean (length ns) (sum ns)) ++ column 8 (greatest ns)
