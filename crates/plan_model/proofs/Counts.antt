-- Counts of the numbers that pass.
use Rattle.std.specs.Prelude.{Bool, true, false, if◌then◌else◌}
use Rattle.std.proofs.Common.{◌≡◌, inl, inr, ℕ, zero, suc, ◌+◌, ◌<◌, ◌≤◌, refl, sym, ap, ◌∙◌, arith}
use Rattle.std.proofs.lemmas.Bool.{cases_eq}
use Rattle.plan_model.specs.Loads.{count_below}

pub count_same : (n : ℕ) (p q : ℕ → Bool) → ((b : ℕ) → b < n → p b ≡ q b) → count_below n p ≡ count_below n q
count_same zero p q same = refl
count_same (suc n) p q same =
    let rest = count_same n p q (λ b below. same b (omega arith)) in
    let here = same n (omega arith) in
    λ i. rest i + (if here i then 1 else 0)

-- none passes
pub count_none : (n : ℕ) (p : ℕ → Bool) → ((b : ℕ) → b < n → p b ≡ false) → count_below n p ≡ 0
count_none zero p none = refl
count_none (suc n) p none =
    let rest = count_none n p (λ b below. none b (omega arith)) in
    let here = none n (omega arith) in
    λ i. rest i + (if here i then 1 else 0)

-- one passes
pub count_some : (n : ℕ) (p : ℕ → Bool) (b : ℕ) → b < n → p b ≡ true → 1 ≤ count_below n p
count_some zero p b below is = absurd (omega arith)
count_some (suc n) p b below is = elim (cases_eq b n) [
  | inl here ↦
      let now : p n ≡ true = ap p (sym here) ∙ is in
      let e : count_below (suc n) p ≡ count_below n p + 1 = λ i. count_below n p + (if now i then 1 else 0) in
      omega arith
  | inr there ↦
      let rest = count_some n p b (omega arith) is in
      let e : count_below (suc n) p ≡ count_below n p + (if p n then 1 else 0) = refl in
      omega arith
]

pub count_most : (n : ℕ) (p : ℕ → Bool) → count_below n p ≤ n
count_most zero p = omega arith
count_most (suc n) p = by_test (p n) (count_below n p) (count_most n p)
  where
    by_test : (t : Bool) (k : ℕ) → k ≤ n → let more : ℕ = k + (if t then 1 else 0) in more ≤ suc n
    by_test true k le = omega arith
    by_test false k le = omega arith

-- from n places on from b to those from the next on
pub slide : (p : ℕ → Bool) (n b : ℕ)
    → let after : ℕ = count_below n (λ k. p (suc b + k)) + (if p b then 1 else 0) in after ≡ count_below n (λ k. p (b + k)) + (if p (b + n) then 1 else 0)
slide p zero b = let e : b ≡ b + 0 = omega arith in λ j. 0 + (if p (e j) then 1 else 0)
slide p (suc n) b =
    let rest = slide p n b in
    let one : ℕ = (if p b then 1 else 0) in
    let next : ℕ = (if p (suc b + n) then 1 else 0) in
    let here : ℕ = (if p (b + n) then 1 else 0) in
    let e : suc b + n ≡ b + suc n = omega arith in
    let swap : count_below n (λ k. p (suc b + k)) + next + one ≡ count_below n (λ k. p (suc b + k)) + one + next = omega arith in
    swap ∙ ap (λ (k : ℕ). k + next) rest ∙ (λ j. count_below n (λ k. p (b + k)) + here + (if p (e j) then 1 else 0))

-- two tests of which no number passes both
pub apart_counts : (n : ℕ) (p q : ℕ → Bool) → ((b : ℕ) → p b ≡ true → q b ≡ false) → count_below n p + count_below n q ≤ n
apart_counts zero p q apart = omega arith
apart_counts (suc n) p q apart = by_test (p n) (q n) (apart n) (count_below n p) (count_below n q) (apart_counts n p q apart)
  where
    by_test : (s t : Bool) → (s ≡ true → t ≡ false) → (k l : ℕ) → k + l ≤ n → let both : ℕ = (k + (if s then 1 else 0)) + (l + (if t then 1 else 0)) in both ≤ suc n
    by_test true true apart_is k l le = let e : true ≡ false = apart_is refl in absurd (cc)
    by_test true false apart_is k l le = omega arith
    by_test false true apart_is k l le = omega arith
    by_test false false apart_is k l le = omega arith

-- a part of the numbers
pub count_part : (p : ℕ → Bool) (n b : ℕ) → count_below n (λ k. p (b + k)) ≤ count_below (b + n) p
count_part p zero b = omega arith
count_part p (suc n) b =
    let rest = count_part p n b in
    let e : b + suc n ≡ suc (b + n) = omega arith in
    let one : ℕ = (if p (b + n) then 1 else 0) in
    let all : count_below (b + suc n) p ≡ count_below (b + n) p + one = ap (λ (m : ℕ). count_below m p) e in
    omega arith

pub count_more : (p : ℕ → Bool) (m n : ℕ) → count_below m p ≤ count_below (m + n) p
count_more p m zero = let e : m + 0 ≡ m = omega arith in let same : count_below (m + 0) p ≡ count_below m p = ap (λ (k : ℕ). count_below k p) e in omega arith
count_more p m (suc n) =
    let rest = count_more p m n in
    let e : m + suc n ≡ suc (m + n) = omega arith in
    let one : ℕ = (if p (m + n) then 1 else 0) in
    let all : count_below (m + suc n) p ≡ count_below (m + n) p + one = ap (λ (k : ℕ). count_below k p) e in
    omega arith
