-- Records that stand one after another in one list of words.
use Rattle.std.specs.Prelude.{slice_index_or}
use Rattle.std.proofs.Common.{◌≡◌, ℕ, zero, suc, ◌+◌, ◌*◌, ◌<◌, ◌≤◌, ◌^◌, List, [], ◌∷◌, ◌++◌, length, replicate, get_or, set, refl, sym, ◌∙◌, ap, arith}
use Rattle.std.proofs.Math.Nat.{suc-mul}
use Rattle.std.proofs.lemmas.List.Elements.{All-head, All-tail, All-nil, All-cons}
use Rattle.medium.specs.Medium.{AreWords}
use Rattle.medium.specs.Rows.{words_from, rows_from}

pub words_same : (ws vs : List ℕ) (p n : ℕ) → ((q : ℕ) → p ≤ q → q < p + n → get_or vs q 0 ≡ get_or ws q 0) → words_from vs p n ≡ words_from ws p n
words_same ws vs p zero same = refl
words_same ws vs p (suc n) same = λ j. same p (omega arith) (omega arith) j ∷ words_same ws vs (suc p) n (λ q low high. same q (omega (arith, low)) (omega (arith, high))) j

pub rows_same : (ws vs : List ℕ) (n p k : ℕ) → ((q : ℕ) → p ≤ q → get_or vs q 0 ≡ get_or ws q 0) → rows_from vs n p k ≡ rows_from ws n p k
rows_same ws vs n p zero same = refl
rows_same ws vs n p (suc k) same = λ j. words_same ws vs p n (λ q low high. same q low) j ∷ rows_same ws vs n (p + n) k (λ q low. same q (omega (arith, low))) j

-- words that stand at a place
pub words_are : (xs ws : List ℕ) (p n : ℕ) → length xs ≡ n → ((j : ℕ) → j < n → get_or xs j 0 ≡ get_or ws (p + j) 0) → xs ≡ words_from ws p n
words_are [] ws p zero size are = refl
words_are [] ws p (suc n) size are = absurd (omega (arith, size))
words_are (x ∷ xs) ws p zero size are = absurd (omega (arith, size))
words_are (x ∷ xs) ws p (suc n) size are =
    let here : p + 0 ≡ p = omega arith in
    let first : x ≡ get_or ws p 0 = are 0 (omega arith) ∙ ap (λ (q : ℕ). get_or ws q 0) here in
    let more = words_are xs ws (suc p) n (omega (arith, size)) (λ j low. are (suc j) (omega (arith, low)) ∙ ap (λ (q : ℕ). get_or ws q 0) (let e : p + suc j ≡ suc p + j = omega arith in e)) in
    λ j. first j ∷ more j

-- a record
pub row_at : (ws : List ℕ) (n p k at : ℕ) → at < k → slice_index_or (rows_from ws n p k) at [] ≡ words_from ws (p + at * n) n
row_at ws n p zero at low = absurd (omega (arith, low))
row_at ws n p (suc k) zero low = let e : p ≡ p + 0 * n = omega arith in ap (λ (q : ℕ). words_from ws q n) e
row_at ws n p (suc k) (suc at) low =
    let m = suc-mul at n in
    let e : p + n + at * n ≡ p + suc at * n = omega (arith, m) in
    row_at ws n (p + n) k at (omega (arith, low)) ∙ ap (λ (q : ℕ). words_from ws q n) e

-- one record was written
pub rows_set : (ws vs from : List ℕ) (n p k at place : ℕ) → at < k → length from ≡ n → place ≡ p + at * n
    → ((j : ℕ) → j < n → get_or vs (place + j) 0 ≡ get_or from j 0) → ((q : ℕ) → q < place → get_or vs q 0 ≡ get_or ws q 0) → ((q : ℕ) → place + n ≤ q → get_or vs q 0 ≡ get_or ws q 0)
    → rows_from vs n p k ≡ set (rows_from ws n p k) at from
rows_set ws vs from n p zero at place low size is here before behind = absurd (omega (arith, low))
rows_set ws vs from n p (suc k) zero place low size is here before behind =
    let e : place ≡ p = omega (arith, is) in
    let row : from ≡ words_from vs p n = words_are from vs p n size (λ j less. sym (here j less) ∙ ap (λ (q : ℕ). get_or vs (q + j) 0) e) in
    λ j. sym row j ∷ rows_same ws vs n (p + n) k (λ q low. behind q (omega (arith, low, e))) j
rows_set ws vs from n p (suc k) (suc at) place low size is here before behind =
    let m = suc-mul at n in
    λ j. words_same ws vs p n (λ q up down. before q (omega (arith, up, down, is, m))) j
    ∷ rows_set ws vs from n (p + n) k at place (omega (arith, low)) size (omega (arith, is, m)) here before behind j

-- nothing was written
words_none : (p n : ℕ) → words_from [] p n ≡ replicate n 0
words_none p zero = refl
words_none p (suc n) = ap (λ (ws : List ℕ). 0 ∷ ws) (words_none (suc p) n)

pub rows_none : (n p k : ℕ) → rows_from [] n p k ≡ replicate k (replicate n 0)
rows_none n p zero = refl
rows_none n p (suc k) = λ j. words_none p n j ∷ rows_none n (p + n) k j

pub count_rows : (ws : List ℕ) (n p k : ℕ) → length (rows_from ws n p k) ≡ k
count_rows ws n p zero = refl
count_rows ws n p (suc k) = ap suc (count_rows ws n (p + n) k)

-- a zero behind the words
pub zero_more : (ws : List ℕ) (q : ℕ) → get_or (ws ++ 0 ∷ []) q 0 ≡ get_or ws q 0
zero_more [] zero = refl
zero_more [] (suc q) = refl
zero_more (w ∷ ws) zero = refl
zero_more (w ∷ ws) (suc q) = zero_more ws q

-- words are words, and so are those behind them
pub word_low : (ws : List ℕ) → AreWords ws → (p : ℕ) → get_or ws p 0 < 2 ^ 36
word_low [] all p = omega arith
word_low (w ∷ ws) all zero = All-head (λ (w : ℕ). w < 2 ^ 36) w ws all
word_low (w ∷ ws) all (suc p) = word_low ws (All-tail (λ (w : ℕ). w < 2 ^ 36) w ws all) p

pub words_from_are : (ws : List ℕ) → AreWords ws → (p n : ℕ) → AreWords (words_from ws p n)
words_from_are ws all p zero = All-nil (λ (w : ℕ). w < 2 ^ 36)
words_from_are ws all p (suc n) = All-cons (λ (w : ℕ). w < 2 ^ 36) (get_or ws p 0) (words_from ws (suc p) n) (word_low ws all p) (words_from_are ws all (suc p) n)
