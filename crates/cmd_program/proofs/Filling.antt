-- The words of a line, one after another.
use Rattle.std.proofs.Common.{◌≡◌, ◌<◌, ◌+◌, ◌-◌, ℕ, min, List, [], ◌∷◌, ◌++◌, length, take, drop, refl, sym, ap, ◌∙◌, arith, add-one, append_assoc}
use Rattle.std.specs.Prelude.{slice_set}
use Rattle.std.proofs.Math.Seq.{take-suc-set}
use Rattle.std.proofs.lemmas.List.{take_min, drop_min}
use Rattle.ctss_types.specs.Words.{name_of}
use Rattle.program_model.specs.Lines.{words_of_line}

words_first : (n m : ℕ) (text : List ℕ) → n ≡ m + 1 → words_of_line n text ≡ name_of (take 6 text) ∷ words_of_line m (drop 6 text)
words_first n m text e = rw (e, add-one) refl

-- one word more
pub fill_more : (words rest front behind : List ℕ) (w i n k : ℕ) → i < n → length words ≡ n → k ≡ min (length rest) 6
    → front ≡ take k rest → behind ≡ drop k rest → w ≡ name_of front
    → take (i + 1) (slice_set words i w) ++ words_of_line (n - (i + 1)) behind ≡ take i words ++ words_of_line (n - i) rest
fill_more words rest front behind w i n k below size few is_front is_behind named =
    let within : i < length words = omega arith in
    let one : take (i + 1) (slice_set words i w) ≡ take i words ++ w ∷ [] = rw add-one (take-suc-set words i w within) in
    let six : k ≡ min 6 (length rest) = omega arith in
    let first : front ≡ take 6 rest = is_front ∙ ap (λ (j : ℕ). take j rest) six ∙ take_min 6 rest in
    let left : behind ≡ drop 6 rest = is_behind ∙ ap (λ (j : ℕ). drop j rest) six ∙ drop_min 6 rest in
    let count : n - i ≡ (n - (i + 1)) + 1 = omega arith in
    let more = ap (λ (x : ℕ). x ∷ words_of_line (n - (i + 1)) behind) (named ∙ ap name_of first)
    ∙ ap (λ (t : List ℕ). name_of (take 6 rest) ∷ words_of_line (n - (i + 1)) t) left ∙ sym (words_first (n - i) (n - (i + 1)) rest count) in
    ap (λ (ws : List ℕ). ws ++ words_of_line (n - (i + 1)) behind) one ∙ append_assoc (take i words) (w ∷ []) (words_of_line (n - (i + 1)) behind)
    ∙ ap (λ (ws : List ℕ). take i words ++ ws) more
