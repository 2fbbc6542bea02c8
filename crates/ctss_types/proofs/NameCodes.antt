-- A name's codes, with blanks behind them.
use Rattle.std.proofs.Common.{◌≡◌, ℕ, ◌+◌, ◌-◌, ◌<◌, ◌≤◌, List, [], ◌∷◌, ◌++◌, length, map, replicate, take, get_or, set, zero, suc, refl, sym, ap, ◌∙◌, arith, take_all}
use Rattle.ctss_types.specs.Words.{code_for}

blanks : (n : ℕ) → map code_for (replicate n 32) ≡ replicate n 48
blanks zero = refl
blanks (suc n) = ap (λ (l : List ℕ). 48 ∷ l) (blanks n)

map-append : (xs ys : List ℕ) → map code_for (xs ++ ys) ≡ map code_for xs ++ map code_for ys
map-append [] ys = refl
map-append (x ∷ xs) ys = ap (λ (l : List ℕ). code_for x ∷ l) (map-append xs ys)

pub padded_codes : (xs : List ℕ) (n : ℕ) → map code_for (xs ++ replicate n 32) ≡ map code_for xs ++ replicate n 48
padded_codes xs n = map-append xs (replicate n 32) ∙ ap (λ (l : List ℕ). map code_for xs ++ l) (blanks n)

-- one code more
next_code : (n i : ℕ) (text : List ℕ) → i < length text → length text ≤ n →
    set (map code_for (take i text) ++ replicate (n - i) 48) i (code_for (get_or text i 0)) ≡ map code_for (take (suc i) text) ++ replicate (n - suc i) 48
next_code n i [] h k = absurd (omega arith)
next_code zero i (x ∷ xs) h k = absurd (omega arith)
next_code (suc n) zero (x ∷ xs) h k =
    let a : suc n - 0 ≡ suc n = omega arith in
    let b : suc n - 1 ≡ n = omega arith in
    ap (λ (m : ℕ). set (replicate m 48) zero (code_for x)) a ∙ ap (λ (m : ℕ). code_for x ∷ replicate m 48) (sym b)
next_code (suc n) (suc i) (x ∷ xs) h k =
    let a : suc n - suc i ≡ n - i = omega arith in
    let b : suc n - suc (suc i) ≡ n - suc i = omega arith in
    ap (λ (m : ℕ). code_for x ∷ set (map code_for (take i xs) ++ replicate m 48) i (code_for (get_or xs i 0))) a
    ∙ ap (λ (l : List ℕ). code_for x ∷ l) (next_code n i xs (omega arith) (omega arith))
    ∙ ap (λ (m : ℕ). code_for x ∷ (map code_for (take (suc i) xs) ++ replicate m 48)) (sym b)

pub next_codes : (codes text : List ℕ) (i v : ℕ) → codes ≡ map code_for (take i text) ++ replicate (6 - i) 48 → i < length text → length text ≤ 6 → v ≡ code_for (get_or text i 0) →
    set codes i v ≡ map code_for (take (i + 1) text) ++ replicate (6 - (i + 1)) 48
next_codes codes text i v is h k e =
    let s : suc i ≡ i + 1 = omega arith in
    ap (λ (l : List ℕ). set l i v) is
    ∙ ap (λ (w : ℕ). set (map code_for (take i text) ++ replicate (6 - i) 48) i w) e
    ∙ next_code 6 i text h k
    ∙ ap (λ (j : ℕ). map code_for (take j text) ++ replicate (6 - j) 48) s

-- at the end of the name
pub last_codes : (codes text : List ℕ) → codes ≡ map code_for (take (length text) text) ++ replicate (6 - length text) 48 →
    codes ≡ map code_for (text ++ replicate (6 - length text) 32)
last_codes codes text is =
    is ∙ ap (λ (l : List ℕ). map code_for l ++ replicate (6 - length text) 48) (take_all (length text) text (omega arith)) ∙ sym (padded_codes text (6 - length text))
