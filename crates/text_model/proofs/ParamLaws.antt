-- The numbers of PARAM: what their limits say, and that those that are left out are 0.
use Rattle.std.proofs.Common.{◌≡◌, ℕ, zero, suc, ◌≤◌, ◌<◌, Bool, true, false, cond, ◌&&◌, ◌^◌, nat_eq, nat_le, nat_lt, List, [], ◌∷◌, length, get_or, Some, None, refl, sym, ap, ◌∙◌, arith}
use Rattle.std.specs.List.{All, list_all}
use Rattle.std.proofs.lemmas.Bool.{and_parts, ltb-true, leb-true, le-leb, eqb-true}
use Rattle.std.proofs.lemmas.List.{nil_from_length}
use Rattle.std.proofs.lemmas.List.Elements.{All-nil, All-cons, All-head, All-tail}
use Rattle.ctss_types.specs.declared.script.Params.{Params}
use Rattle.ctss_types.specs.Params.{param_limits, least_numbers, numbers_of, params_by, params_of, are_within, written_out, card_numbers}
use Rattle.text_model.specs.Cards.{params_read}

-- limits

-- the two limits of one number
one_within : (low high n : ℕ) (more : Bool) → (nat_le low n && nat_le n high && more) ≡ true → (low ≤ n) × (n ≤ high) × (more ≡ true)
one_within low high n more h =
    let parts = and_parts (nat_le low n && nat_le n high) more h in
    let limits = and_parts (nat_le low n) (nat_le n high) parts.0 in
    (leb-true low n limits.0, leb-true n high limits.1, parts.1)

-- no limits
abbrev no_limits : ℕ × ℕ
no_limits = (0, 0)

-- each number is within the limits of its place
pub within_at : (limits : List (ℕ × ℕ)) (numbers : List ℕ) (place : ℕ) → are_within limits numbers ≡ true → place < length limits → place < length numbers
    → ((get_or limits place no_limits).0 ≤ get_or numbers place 0) × (get_or numbers place 0 ≤ (get_or limits place no_limits).1)
within_at [] numbers place h there here = absurd (omega arith)
within_at (limit ∷ more) [] place h there here = absurd (omega arith)
within_at (limit ∷ more) (n ∷ numbers) zero h there here = let one = one_within limit.0 limit.1 n (are_within more numbers) h in (one.0, one.1)
within_at (limit ∷ more) (n ∷ numbers) (suc place) h there here =
    within_at more numbers place (one_within limit.0 limit.1 n (are_within more numbers) h).2 (omega arith) (omega arith)

-- numbers whose greatest limits are below some number are below it
pub below_limits : (top : ℕ) (limits : List (ℕ × ℕ)) (numbers : List ℕ) → list_all (λ limit. nat_lt limit.1 top) limits ≡ true → are_within limits numbers ≡ true → length numbers ≤ length limits
    → All (λ n. n < top) numbers
below_limits top limits [] low h few = All-nil (λ n. n < top)
below_limits top [] (n ∷ numbers) low h few = absurd (omega arith)
below_limits top (limit ∷ more) (n ∷ numbers) low h few =
    let lows = and_parts (nat_lt limit.1 top) (list_all (λ (l : ℕ × ℕ). nat_lt l.1 top) more) low in
    let one = one_within limit.0 limit.1 n (are_within more numbers) h in
    let high : limit.1 < top = ltb-true limit.1 top lows.0 in
    let most : n ≤ limit.1 = one.1 in
    All-cons (λ m. m < top) n numbers (omega arith) (below_limits top more numbers lows.1 one.2 (omega arith))

-- numbers that are left out

-- a number that may be left out and those behind it keep what each has
last_zero_all : (P : ℕ → Type 0) (left_out : Bool) (numbers : List ℕ) → All P numbers → All P (cond left_out [] numbers)
last_zero_all P true numbers h = All-nil P
last_zero_all P false numbers h = h

-- what each number has, each that is written has
pub written_all : (P : ℕ → Type 0) (least : ℕ) (numbers : List ℕ) → All P numbers → All P (written_out least numbers)
written_all P least [] h = All-nil P
written_all P zero (n ∷ numbers) h =
    last_zero_all P (nat_eq n 0 && nat_eq (length (written_out zero numbers)) 0) (n ∷ written_out zero numbers)
    (All-cons P n (written_out zero numbers) (All-head P n numbers h) (written_all P zero numbers (All-tail P n numbers h)))
written_all P (suc least) (n ∷ numbers) h = All-cons P n (written_out least numbers) (All-head P n numbers h) (written_all P least numbers (All-tail P n numbers h))

-- a number that may be left out is at most one more
last_zero_few : (left_out : Bool) (n : ℕ) (numbers : List ℕ) → length (cond left_out [] (n ∷ numbers)) ≤ suc (length numbers)
last_zero_few true n numbers = omega arith
last_zero_few false n numbers = omega arith

-- no more are written than there are
pub written_few : (least : ℕ) (numbers : List ℕ) → length (written_out least numbers) ≤ length numbers
written_few least [] = omega arith
written_few zero (n ∷ numbers) =
    omega (arith, last_zero_few (nat_eq n 0 && nat_eq (length (written_out zero numbers)) 0) n (written_out zero numbers), written_few zero numbers)
written_few (suc least) (n ∷ numbers) = omega (arith, written_few least numbers)

-- so many are written at least
pub written_least : (least : ℕ) (numbers : List ℕ) → least ≤ length numbers → least ≤ length (written_out least numbers)
written_least zero numbers h = omega arith
written_least (suc least) [] h = absurd (omega arith)
written_least (suc least) (n ∷ numbers) h = omega (arith, written_least least numbers (omega arith))

-- a zero at the end of a list is read where it is left out
zero_at : (place : ℕ) → ◌≡◌ {A = ℕ} (get_or [] place 0) (get_or (0 ∷ []) place 0)
zero_at zero = refl
zero_at (suc place) = refl

-- the last zero reads the same where it is left out
last_zero_same : (n : ℕ) (numbers : List ℕ) (place : ℕ) (left_out : Bool) → (nat_eq n 0 && nat_eq (length numbers) 0) ≡ left_out
    → get_or (cond left_out [] (n ∷ numbers)) place 0 ≡ get_or (n ∷ numbers) place 0
last_zero_same n numbers place false h = refl
last_zero_same n numbers place true h =
    let parts = and_parts (nat_eq n 0) (nat_eq (length numbers) 0) h in
    let is : n ≡ 0 = eqb-true n 0 parts.0 in
    let none : numbers ≡ [] = nil_from_length numbers (eqb-true (length numbers) 0 parts.1) in
    zero_at place ∙ sym (ap (λ (m : ℕ). get_or (m ∷ numbers) place 0) is ∙ ap (λ (l : List ℕ). get_or (0 ∷ l) place 0) none)

-- behind a number, places read the same where those behind it do
next_same : (n : ℕ) (xs ys : List ℕ) → ((place : ℕ) → get_or xs place 0 ≡ get_or ys place 0) → (place : ℕ) → get_or (n ∷ xs) place 0 ≡ get_or (n ∷ ys) place 0
next_same n xs ys h zero = refl
next_same n xs ys h (suc place) = h place

-- each place reads the same: what is left out is 0
pub written_same : (least : ℕ) (numbers : List ℕ) (place : ℕ) → get_or (written_out least numbers) place 0 ≡ get_or numbers place 0
written_same least [] place = refl
written_same zero (n ∷ numbers) place =
    last_zero_same n (written_out zero numbers) place _ refl ∙ next_same n (written_out zero numbers) numbers (written_same zero numbers) place
written_same (suc least) (n ∷ numbers) place = next_same n (written_out least numbers) numbers (written_same least numbers) place

-- params

-- each number of params is within the limits of its place
pub param_within : (p : Params) (place : ℕ) → are_within param_limits (numbers_of p) ≡ true → place < length param_limits
    → ((get_or param_limits place no_limits).0 ≤ get_or (numbers_of p) place 0) × (get_or (numbers_of p) place 0 ≤ (get_or param_limits place no_limits).1)
param_within p place h there = within_at param_limits (numbers_of p) place h there there

-- each number of a card has at most nine digits
pub card_numbers_below : (p : Params) → are_within param_limits (numbers_of p) ≡ true → All (λ n. n < 10 ^ 9) (card_numbers p)
card_numbers_below p h = written_all (λ n. n < 10 ^ 9) least_numbers (numbers_of p) (below_limits (10 ^ 9) param_limits (numbers_of p) refl h (omega arith))

-- a card has no more numbers than there are limits
pub card_numbers_few : (p : Params) → length (card_numbers p) ≤ length param_limits
card_numbers_few p = written_few least_numbers (numbers_of p)

-- the numbers of a card are those of the params
params_of_card : (p : Params) → params_of (card_numbers p) ≡ p
params_of_card p = λ i. params_by (λ place. written_same least_numbers (numbers_of p) place i)

-- and read as these params
pub card_numbers_read : (p : Params) → params_read (card_numbers p) ≡ Some p
card_numbers_read p =
    ap (λ (b : Bool). cond b (Some (params_of (card_numbers p))) None) (le-leb least_numbers (length (card_numbers p)) (written_least least_numbers (numbers_of p) (omega arith)))
    ∙ ap Some (params_of_card p)
