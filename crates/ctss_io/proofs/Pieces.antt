-- What goes out piece by piece.
use Rattle.std.proofs.Common.{◌≡◌, ℕ, ◌+◌, ◌-◌, ◌≤◌, List, ◌++◌, length, take, drop, refl, sym, ◌∙◌, ap, append_assoc, arith, length-take, length-drop, take-append-drop}
use Rattle.std.proofs.lemmas.List.{take_rest, take_at, drop-drop}
use Rattle.std.proofs.Math.Seq.{take-add}
use Rattle.std.specs.Prelude.{Option, None, Some}
use Rattle.ctss_io.specs.Outside.{prepended, after}

-- a prefix, and then one of the rest
pub after_more : (o : Option (List ℕ)) (xs : List ℕ) (m n : ℕ)
    → after (after o (take m xs)) (take n (take (length xs - m) (drop m xs))) ≡ after o (take (m + n) xs)
after_more None xs m n = refl
after_more (Some h) xs m n =
    ap (λ (l : List ℕ). Some l)
    (append_assoc h (take m xs) (take n (take (length xs - m) (drop m xs)))
    ∙ ap (λ (l : List ℕ). h ++ l) (ap (λ (l : List ℕ). take m xs ++ take n l) (take_rest xs m) ∙ sym (take-add m n xs)))

-- what a read puts at the front of its buffer, and what is left behind it
pub piece_moved : (xs copied into : List ℕ) (at n : ℕ) → at + n ≤ length xs → copied ≡ take (at + n - at) (drop at xs)
    → drop at xs ≡ take n (copied ++ drop n into) ++ drop (at + n) xs
piece_moved xs copied into at n within e =
    let size : at + n - at ≡ n = omega arith in
    let is : copied ≡ take n (drop at xs) = e ∙ ap (λ (k : ℕ). take k (drop at xs)) size in
    let len : length copied ≡ n = ap length is ∙ simp (length-take, length-drop) (omega arith) in
    sym
    (ap (λ (l : List ℕ). l ++ drop (at + n) xs) (take_at copied (drop n into) n len ∙ is)
    ∙ ap (λ (l : List ℕ). take n (drop at xs) ++ l) (sym (drop-drop n at xs))
    ∙ take-append-drop n (drop at xs))

-- bytes, and then more of them, before what is left
pub before_more : (xs ys : List ℕ) (o : Option (List ℕ)) → prepended xs (prepended ys o) ≡ prepended (xs ++ ys) o
before_more xs ys None = refl
before_more xs ys (Some zs) = ap (λ (l : List ℕ). Some l) (sym (append_assoc xs ys zs))

-- two prefixes that went one after another are one prefix
pub before_trans : (xs ys : List ℕ) (o p q : Option (List ℕ)) → o ≡ prepended xs p → p ≡ prepended ys q → o ≡ prepended (xs ++ ys) q
before_trans xs ys o p q first then = first ∙ ap (λ (r : Option (List ℕ)). prepended xs r) then ∙ before_more xs ys q
