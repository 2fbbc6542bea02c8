-- Numbers without the zeros at their end, one zero after another.
use Rattle.std.proofs.Common.{◌≡◌, ◌≢◌, ℕ, zero, suc, ◌+◌, ◌-◌, ◌≤◌, ◌<◌, false, nat_eq, List, [], ◌∷◌, ◌++◌, length, take, get_or, refl, sym, ap, ◌∙◌, arith, length-append, length-take}
use Rattle.std.proofs.lemmas.Bool.{and_right, ne_eqb}
use Rattle.std.proofs.lemmas.List.{take_more}
use Rattle.ctss_types.specs.Params.{unless_last_zero, written_out}

-- where no more than the least numbers stand, all are written
written_few : (least : ℕ) (xs : List ℕ) → length xs ≤ least → written_out least xs ≡ xs
written_few least [] few = refl
written_few zero (x ∷ xs) few = absurd (omega arith)
written_few (suc least) (x ∷ xs) few = ap (λ (l : List ℕ). x ∷ l) (written_few least xs (omega arith))

-- a number in front of others stands
in_front : (n : ℕ) (xs : List ℕ) → nat_eq (length xs) 0 ≡ false → unless_last_zero n xs ≡ n ∷ xs
in_front n xs some = rw (and_right (nat_eq n 0) (nat_eq (length xs) 0) some) refl

-- some stand, where one is the last
some_stand : (xs : List ℕ) (x : ℕ) → nat_eq (length (xs ++ x ∷ [])) 0 ≡ false
some_stand xs x = ne_eqb (length (xs ++ x ∷ [])) 0 (λ h. omega (arith, h, length-append xs (x ∷ [])))

-- behind which no zero stands, all numbers are written
written_whole : (least : ℕ) (xs : List ℕ) (x : ℕ) → nat_eq x 0 ≡ false → written_out least (xs ++ x ∷ []) ≡ xs ++ x ∷ []
written_whole zero [] x last = rw last refl
written_whole zero (y ∷ ys) x last = ap (unless_last_zero y) (written_whole zero ys x last) ∙ in_front y (ys ++ x ∷ []) (some_stand ys x)
written_whole (suc least) [] x last = refl
written_whole (suc least) (y ∷ ys) x last = ap (λ (l : List ℕ). y ∷ l) (written_whole least ys x last)

-- a zero behind the least numbers is left out
zero_left_out : (least : ℕ) (xs : List ℕ) → least ≤ length xs → written_out least (xs ++ 0 ∷ []) ≡ written_out least xs
zero_left_out zero [] some = refl
zero_left_out zero (y ∷ ys) some = ap (unless_last_zero y) (zero_left_out zero ys (omega arith))
zero_left_out (suc least) [] some = absurd (omega arith)
zero_left_out (suc least) (y ∷ ys) some = ap (λ (l : List ℕ). y ∷ l) (zero_left_out least ys (omega arith))

-- the first so many, by the last of them
last_of : (xs : List ℕ) (count : ℕ) → 0 < count → count ≤ length xs → take count xs ≡ take (count - 1) xs ++ get_or xs (count - 1) 0 ∷ []
last_of xs count some within =
    let size : count ≡ (count - 1) + 1 = omega arith in
    ap (λ (n : ℕ). take n xs) size ∙ take_more xs (count - 1) 0 (omega arith)

-- where the last of the first so many is 0, one fewer makes no difference
pub one_fewer : (least : ℕ) (xs : List ℕ) (count : ℕ) → least < count → count ≤ length xs → get_or xs (count - 1) 0 ≡ 0 → written_out least (take count xs) ≡ written_out least xs
    → written_out least (take (count - 1) xs) ≡ written_out least xs
one_fewer least xs count some within last is =
    let size : length (take (count - 1) xs) ≡ count - 1 = omega (arith, length-take (count - 1) xs) in
    sym (zero_left_out least (take (count - 1) xs) (omega arith))
    ∙ sym (ap (written_out least) (last_of xs count (omega arith) within ∙ ap (λ (x : ℕ). take (count - 1) xs ++ x ∷ []) last))
    ∙ is

-- no more than the least are all that is written
pub least_are_written : (least : ℕ) (xs : List ℕ) (count : ℕ) → count ≤ least → written_out least (take count xs) ≡ written_out least xs → take count xs ≡ written_out least xs
least_are_written least xs count few is = sym (written_few least (take count xs) (omega (arith, length-take count xs))) ∙ is

-- and so are those whose last is not 0
pub others_are_written : (least : ℕ) (xs : List ℕ) (count : ℕ) → 0 < count → count ≤ length xs → get_or xs (count - 1) 0 ≢ 0
    → written_out least (take count xs) ≡ written_out least xs → take count xs ≡ written_out least xs
others_are_written least xs count some within last is =
    let whole : written_out least (take count xs) ≡ take count xs =
    rw (last_of xs count some within) (written_whole least (take (count - 1) xs) (get_or xs (count - 1) 0) (ne_eqb (get_or xs (count - 1) 0) 0 last)) in
    sym whole ∙ is
