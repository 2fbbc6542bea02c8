-- Blanks in front of numbers of tenths, and means.
use Rattle.std.specs.Prelude.{codes}
use Rattle.std.proofs.Common.{◌≡◌, ℕ, zero, suc, ◌+◌, ◌-◌, ◌*◌, ◌/◌, ◌%◌, ◌<◌, ◌^◌, List, [], ◌∷◌, ◌++◌, length, replicate, refl, sym, ap, ◌∙◌, arith, length-append}
use Rattle.std.specs.Fmt.{decimal}
use Rattle.std.proofs.lemmas.Fmt.{decimal_digit, decimal_step_wide}
use Rattle.text_model.specs.Parts.{in_places}
use Rattle.picture_model.specs.Columns.{tenths, mean}

-- a whole number, a point and a digit, behind so many blanks
pub tenths_placed : (n k : ℕ) (whole tenth : List ℕ) → whole ≡ decimal (n / 10) → tenth ≡ decimal (n % 10) → k ≡ 10 - (length whole + 1 + length tenth)
    → replicate k 32 ++ (whole ++ (46 ∷ tenth)) ≡ in_places 10 (tenths n)
tenths_placed n k whole tenth first second is =
    let size : k ≡ 10 - length (whole ++ (46 ∷ tenth)) = simp length-append (omega arith) in
    ap (λ (m : ℕ). replicate m 32 ++ (whole ++ (46 ∷ tenth))) size
    ∙ ap (λ (l : List ℕ). in_places 10 (l ++ (46 ∷ tenth))) first
    ∙ ap (λ (l : List ℕ). in_places 10 (decimal (n / 10) ++ (46 ∷ l))) second

-- the mean of no number
pub mean_none : (count sum : ℕ) → count ≡ 0 → in_places 10 (codes "-") ≡ in_places 10 (mean count sum)
mean_none count sum none = ap (λ (n : ℕ). in_places 10 (mean n sum)) (sym none)

-- the mean of some
pub mean_some : (count sum : ℕ) → 0 < count → in_places 10 (tenths (sum * 10 / count)) ≡ in_places 10 (mean count sum)
mean_some zero sum some = absurd (omega (arith, some))
mean_some (suc n) sum some = refl

-- the last digit of a number behind the others
pub tens_and_units : (tens units : ℕ) → 0 < tens → tens < 2 ^ 128 → units < 10 → decimal tens ++ decimal units ≡ decimal (10 * tens + units)
tens_and_units tens units some small digit =
    let front : (10 * tens + units) / 10 ≡ tens = omega arith in
    let last : (10 * tens + units) % 10 ≡ units = omega arith in
    ap (λ (l : List ℕ). decimal tens ++ l) (decimal_digit units digit)
    ∙ ap (λ (n : ℕ). decimal tens ++ ((48 + n) ∷ [])) (sym last)
    ∙ ap (λ (n : ℕ). decimal n ++ ((48 + (10 * tens + units) % 10) ∷ [])) (sym front)
    ∙ sym (decimal_step_wide (10 * tens + units) (omega arith) (omega arith))

-- a number that has no tens
pub no_tens : (tens units : ℕ) → tens ≡ 0 → decimal units ≡ decimal (10 * tens + units)
no_tens tens units none = let same : units ≡ 10 * tens + units = omega arith in ap decimal same

-- a product by its tens and units
pub product_is : (swap blocks : ℕ) → 10 * (swap * (blocks / 10) + swap * (blocks % 10) / 10) + swap * (blocks % 10) % 10 ≡ swap * blocks
product_is swap blocks =
    let parts : blocks ≡ 10 * (blocks / 10) + blocks % 10 = omega arith in
    let whole : swap * blocks ≡ swap * (10 * (blocks / 10) + blocks % 10) = ap (λ (n : ℕ). swap * n) parts in
    omega (arith, whole)
