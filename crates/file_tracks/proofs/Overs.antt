-- Words written over a part of tracks.
use Rattle.std.specs.Prelude.{take, drop, max}
use Rattle.std.proofs.Common.{◌≡◌, ℕ, ◌+◌, ◌<◌, ◌≤◌, List, [], ◌∷◌, ◌++◌, length, sym, ◌∙◌, ap, arith, append_assoc, length-append, length-take, length-drop, get_or, set, inl, inr}
use Rattle.std.proofs.lemmas.Bool.{cases_lt}
use Rattle.std.proofs.lemmas.List.{take-append-le, drop-append-le, take-take, drop-take, drop_all, length-take-le, drop_more, take_more, set_at}
use Rattle.std.proofs.Math.Seq.{take-append-add, drop-append-add}
use Rattle.file_model.specs.Files.{overwritten}

-- over a part of the words
pub over_mid : (a x c ws : List ℕ) (place q : ℕ) → place ≡ length a + q → q + length ws ≤ length x → a ++ (overwritten q ws x ++ c) ≡ overwritten place ws (a ++ (x ++ c))
over_mid a x c ws place q e fits =
    let n : ℕ = length ws in
    let below : q ≤ length x = omega (arith, fits) in
    let front : take place (a ++ (x ++ c)) ≡ a ++ take q x =
    ap (λ (k : ℕ). take k (a ++ (x ++ c))) e ∙ take-append-add a (x ++ c) q ∙ ap (λ (ys : List ℕ). a ++ ys) (take-append-le q x c below) in
    let places : place + n ≡ length a + (q + n) = omega (arith, e) in
    let back : drop (place + n) (a ++ (x ++ c)) ≡ drop (q + n) x ++ c =
    ap (λ (k : ℕ). drop k (a ++ (x ++ c))) places ∙ drop-append-add a (x ++ c) (q + n) ∙ drop-append-le (q + n) x c fits in
    ap (λ (ys : List ℕ). a ++ ys) (append_assoc (take q x) (ws ++ drop (q + n) x) c ∙ ap (λ (ys : List ℕ). take q x ++ ys) (append_assoc ws (drop (q + n) x) c))
    ∙ sym (append_assoc a (take q x) (ws ++ (drop (q + n) x ++ c)))
    ∙ (λ j. sym front j ++ (ws ++ sym back j))

-- the words behind, cut
pub rest_cut : (j z : List ℕ) (w end k : ℕ) → w ≤ length j → max w end ≡ end + k → take k (drop end (j ++ z)) ≡ drop end (take w j)
rest_cut j z w end k within e = elim (cases_lt end w) [
  | inr past ↦
      let none : k ≡ 0 = omega (arith, e, past) in
      let short : length (take w j) ≤ end = (let l = length-take w j in omega (arith, l, past)) in
      ap (λ (n : ℕ). take n (drop end (j ++ z))) none ∙ sym (drop_all end (take w j) short)
  | inl before ↦
      let more : end + k ≡ w = omega (arith, e, before) in
      let inside : end ≤ length j = omega (arith, before, within) in
      let room : k ≤ length (drop end j) = (let l = length-drop end j in omega (arith, l, more, within)) in
      ap (take k) (drop-append-le end j z inside) ∙ take-append-le k (drop end j) z room ∙ sym (drop-take end k j) ∙ ap (λ (n : ℕ). drop end (take n j)) more
]

-- written over more words than a file has, and cut to its new length
pub over_cut : (j z ws : List ℕ) (w place k : ℕ) → w ≤ length j → place ≤ w → max w (place + length ws) ≡ (place + length ws) + k
    → take (max w (place + length ws)) (overwritten place ws (j ++ z)) ≡ overwritten place ws (take w j)
over_cut j z ws w place k within below e =
    let n : ℕ = length ws in
    let inside : place ≤ length j = omega (arith, within, below) in
    let front : take place (j ++ z) ≡ take place j = take-append-le place j z inside in
    let len : length (take place j) ≡ place = length-take-le place j inside in
    let all : max w (place + n) ≡ length (take place j) + (length ws + k) = omega (arith, e, len) in
    ap (take (max w (place + n))) (ap (λ (xs : List ℕ). xs ++ (ws ++ drop (place + n) (j ++ z))) front)
    ∙ ap (λ (m : ℕ). take m (take place j ++ (ws ++ drop (place + n) (j ++ z)))) all
    ∙ take-append-add (take place j) (ws ++ drop (place + n) (j ++ z)) (length ws + k)
    ∙ ap (λ (xs : List ℕ). take place j ++ xs) (take-append-add ws (drop (place + n) (j ++ z)) k)
    ∙ (λ i. sym (take-take place w j below) i ++ (ws ++ rest_cut j z w (place + n) k within e i))

-- a word more is written over
pub over_more : (old words : List ℕ) (place i w : ℕ) → i < length words → place + length words ≤ length old → w ≡ get_or words i 0
    → set (take place old ++ (take i words ++ drop (place + i) old)) (place + i) w ≡ take place old ++ (take (i + 1) words ++ drop (place + (i + 1)) old)
over_more old words place i w low fits is =
    let front : List ℕ = take place old ++ take i words in
    let ys : List ℕ = drop (place + (i + 1)) old in
    let at : length front ≡ place + i =
    (let a = length-append (take place old) (take i words) in let b = length-take-le place old (omega (arith, fits)) in let c = length-take-le i words (omega (arith, low)) in omega (arith, a, b, c)) in
    let head : drop (place + i) old ≡ get_or old (place + i) 0 ∷ ys = drop_more old (place + i) 0 (omega (arith, low, fits)) ∙ (let e : place + i + 1 ≡ place + (i + 1) = omega arith in ap (λ (n : ℕ). get_or old (place + i) 0 ∷ drop n old) e) in
    ap (λ (xs : List ℕ). set xs (place + i) w) (sym (append_assoc (take place old) (take i words) (drop (place + i) old)) ∙ ap (λ (xs : List ℕ). front ++ xs) head)
    ∙ set_at front (get_or old (place + i) 0) ys w (place + i) at
    ∙ append_assoc (take place old) (take i words) (w ∷ ys)
    ∙ ap (λ (xs : List ℕ). take place old ++ xs) (sym (append_assoc (take i words) (w ∷ []) ys) ∙ ap (λ (xs : List ℕ). xs ++ ys) (ap (λ (x : ℕ). take i words ++ x ∷ []) is ∙ sym (take_more words i 0 low)))
