-- The words of a line, one after another.
use Rattle.std.proofs.Common.{◌≡◌, ℕ, zero, suc, ◌-◌, ◌<◌, ◌++◌, List, [], ◌∷◌, take, drop, ap, ◌∙◌, arith, append_assoc}
use Rattle.ctss_types.specs.Words.{name_of}
use Rattle.program_model.specs.Lines.{words_of_line}

-- the same line
pub line_at : (n : ℕ) (words rest line : List ℕ) → rest ≡ line → words ++ words_of_line n rest ≡ words ++ words_of_line n line
line_at n words rest line e = ap (λ (l : List ℕ). words ++ words_of_line n l) e

-- one word more
pub word_more : (left : ℕ) (words rest front behind : List ℕ) (w : ℕ) → 0 < left → front ≡ take 6 rest → behind ≡ drop 6 rest → w ≡ name_of front
    → (words ++ w ∷ []) ++ words_of_line (left - 1) behind ≡ words ++ words_of_line left rest
word_more zero words rest front behind w some f b is = absurd (omega (arith, some))
word_more (suc n) words rest front behind w some f b is =
    let count : suc n - 1 ≡ n = omega arith in
    append_assoc words (w ∷ []) (words_of_line (suc n - 1) behind)
    ∙ (λ j. words ++ (is ∙ ap name_of f) j ∷ words_of_line (count j) (b j))
