-- Tallies of one number more.
use Rattle.std.proofs.Common.{◌≡◌, ℕ, ◌+◌, max, List, [], ◌∷◌, ◌++◌, length, sum, fold, sym, ap, ◌∙◌, arith, length-append}
use Rattle.std.proofs.lemmas.Grind.{fold-append}
use Rattle.picture_model.specs.Figures.{greatest}
use Rattle.schedule_figures.specs.declared.tally.Tally.{Tally}
use Rattle.schedule_figures.specs.Tallies.{IsTally}

-- the sum with a number more behind the others
pub sum_more : (ns : List ℕ) (n : ℕ) → sum ns + n ≡ sum (ns ++ n ∷ [])
sum_more ns n = sym (fold-append ◌+◌ 0 ns (n ∷ []))

-- a sum that is begun with a number
from_number : (n : ℕ) (ns : List ℕ) → fold ◌+◌ n ns ≡ n + sum ns
from_number n [] = omega arith
from_number n (m ∷ ns) =
    let all : fold ◌+◌ (n + m) ns ≡ n + m + sum ns = from_number (n + m) ns in
    let rest : fold ◌+◌ (0 + m) ns ≡ 0 + m + sum ns = from_number (0 + m) ns in
    omega (arith, all, rest)

-- a number in front of others
pub sum_first : (n : ℕ) (ns : List ℕ) → sum (n ∷ ns) ≡ n + sum ns
sum_first n ns =
    let same : 0 + n ≡ n = omega arith in
    from_number (0 + n) ns ∙ ap (λ (m : ℕ). m + sum ns) same

-- the greatest number, with a number more behind the others
greatest_more : (ns : List ℕ) (n : ℕ) → max (greatest ns) n ≡ greatest (ns ++ n ∷ [])
greatest_more ns n = sym (fold-append max 0 ns (n ∷ []))

-- with one number more
pub tally_more : (t u : Tally) (ns : List ℕ) (n : ℕ) → IsTally t ns → u.count ≡ t.count + 1 → u.sum ≡ t.sum + n → u.greatest ≡ max t.greatest n
    → IsTally u (ns ++ n ∷ [])
tally_more t u ns n is count all most = record {
  count = let size : length (ns ++ n ∷ []) ≡ length ns + 1 = length-append ns (n ∷ []) in omega (arith, count, is.count, size);
  sum = all ∙ ap (λ (m : ℕ). m + n) is.sum ∙ sum_more ns n;
  greatest = most ∙ ap (λ (m : ℕ). max m n) is.greatest ∙ greatest_more ns n;
}
