-- Words as lines, group by group.
use Rattle.std.proofs.Common.{◌≡◌, ◌≤◌, ◌<◌, ℕ, zero, suc, min, List, [], ◌∷◌, ◌++◌, length, take, drop, length-drop, refl, sym, ap, ◌∙◌, arith, append_assoc}
use Rattle.std.specs.Prelude.{map}
use Rattle.std.proofs.Math.Seq.{take-append_seam, drop-append_seam}
use Rattle.std.proofs.lemmas.List.{take_min, drop_min}
use Rattle.program_model.specs.Lines.{line_of_words, groups, lines_of_words}

-- groups are over where the words are, however many more could come
fuel : (n m : ℕ) (words : List ℕ) → length words ≤ n → length words ≤ m → groups n words ≡ groups m words
fuel zero zero words h k = refl
fuel zero (suc m) [] h k = refl
fuel zero (suc m) (w ∷ words) h k = absurd (omega arith)
fuel (suc n) zero [] h k = refl
fuel (suc n) zero (w ∷ words) h k = absurd (omega arith)
fuel (suc n) (suc m) [] h k = refl
fuel (suc n) (suc m) (w ∷ words) h k =
    let size = length-drop 14 (w ∷ words) in
    ap (λ (gs : List (List ℕ)). take 14 (w ∷ words) ∷ gs) (fuel n m (drop 14 (w ∷ words)) (omega (arith, size)) (omega (arith, size)))

-- the first group, and what is left
taken : (words group rest : List ℕ) → words ≡ group ++ rest → length group ≡ min 14 (length words) → take 14 words ≡ group
taken words group rest parts size =
    sym (take_min 14 words) ∙ ap (λ (k : ℕ). take k words) (sym size) ∙ ap (λ (ws : List ℕ). take (length group) ws) parts ∙ take-append_seam group rest

left : (words group rest : List ℕ) → words ≡ group ++ rest → length group ≡ min 14 (length words) → drop 14 words ≡ rest
left words group rest parts size =
    sym (drop_min 14 words) ∙ ap (λ (k : ℕ). drop k words) (sym size) ∙ ap (λ (ws : List ℕ). drop (length group) ws) parts ∙ drop-append_seam group rest

first_group : (f : List ℕ → List ℕ) (words group rest : List ℕ) → words ≡ group ++ rest → length group ≡ min 14 (length words) → 0 < length words
    → map f (groups (length words) words) ≡ f group ∷ map f (groups (length rest) rest)
first_group f [] group rest parts size some = absurd (omega arith)
first_group f (w ∷ words) group rest parts size some =
    let first = taken (w ∷ words) group rest parts size in
    let behind = left (w ∷ words) group rest parts size in
    let fewer : length rest ≤ length words = omega (arith, ap length behind, length-drop 14 (w ∷ words)) in
    let same : length rest ≤ length rest = omega arith in
    let others = ap (λ (ws : List ℕ). groups (length words) ws) behind ∙ fuel (length words) (length rest) rest fewer same in
    ap (λ (g : List ℕ). f g ∷ map f (groups (length words) (drop 14 (w ∷ words)))) first ∙ ap (λ (gs : List (List ℕ)). f group ∷ map f gs) others

-- the lines so far and one more, and those of what is left
pub one_line_more : (lines pushed : List (List ℕ)) (line words group rest : List ℕ) (n : ℕ) → pushed ≡ lines ++ line ∷ [] → line ≡ line_of_words group
    → words ≡ group ++ rest → length group ≡ min n (length words) → n ≡ 14 → 0 < length words
    → pushed ++ lines_of_words rest ≡ lines ++ lines_of_words words
one_line_more lines pushed line words group rest n is_pushed is_line parts size most some =
    ap (λ (ls : List (List ℕ)). ls ++ lines_of_words rest) (is_pushed ∙ ap (λ (l : List ℕ). lines ++ l ∷ []) is_line)
    ∙ append_assoc lines (line_of_words group ∷ []) (lines_of_words rest)
    ∙ ap (λ (ls : List (List ℕ)). lines ++ ls)
    (sym (first_group line_of_words words group rest parts (size ∙ ap (λ (k : ℕ). min k (length words)) most) some))
