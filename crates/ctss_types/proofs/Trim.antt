-- A line without its trailing blanks.
use Rattle.std.specs.Prelude.{slice_index_or, nat_eq, false}
use Rattle.std.proofs.Common.{◌≡◌, ◌≢◌, ℕ, ◌+◌, ◌-◌, ◌<◌, ◌≤◌, true, List, [], ◌∷◌, ◌++◌, length, take, drop, replicate, refl, sym, ◌∙◌, ap, arith, length-append, append_assoc}
use Rattle.std.proofs.lemmas.Bool.Decides.{nat_tests}
use Rattle.std.proofs.lemmas.List.{take_more, drop-replicate, length-replicate}
use Rattle.std.proofs.Math.Seq.{drop-append_seam, take-append_seam}
use Rattle.std.specs.List.{list_all}
use Rattle.std.proofs.lemmas.List.Folds.{list_all-append}
use Rattle.bcd48.specs.Characters.{is_character}
use Rattle.ctss_types.specs.Line.{trimmed, before_rest, padded, IsLine}

trimmed-blank : (xs : List ℕ) → trimmed (xs ++ 32 ∷ []) ≡ trimmed xs
trimmed-blank [] = refl
trimmed-blank (x ∷ xs) = ap (before_rest x) (trimmed-blank xs)

not_blank : (y : ℕ) → y ≢ 32 → nat_eq y 32 ≡ false
not_blank y other = grind (arith, nat_tests)

cons_rest : (x : ℕ) (xs ys : List ℕ) (y : ℕ) → xs ≡ ys ++ y ∷ [] → before_rest x xs ≡ x ∷ xs
cons_rest x [] [] y is = cc
cons_rest x [] (z ∷ ys) y is = cc
cons_rest x (w ∷ xs) ys y is = refl

trimmed-kept : (xs : List ℕ) (y : ℕ) → y ≢ 32 → trimmed (xs ++ y ∷ []) ≡ xs ++ y ∷ []
trimmed-kept [] y other = rw (not_blank y other) refl
trimmed-kept (x ∷ xs) y other = ap (before_rest x) (trimmed-kept xs y other) ∙ cons_rest x (xs ++ y ∷ []) xs y refl

pub trims : (xs : List ℕ) (n : ℕ) → 0 < n → n - 1 < length xs → slice_index_or xs (n - 1) 0 ≡ 32 → trimmed (take (n - 1) xs) ≡ trimmed (take n xs)
trims xs n some within blank =
    let whole : n - 1 + 1 ≡ n = omega arith in
    let split = sym (ap (λ (k : ℕ). take k xs) whole) ∙ take_more xs (n - 1) 0 within ∙ ap (λ (y : ℕ). take (n - 1) xs ++ y ∷ []) blank in
    sym (ap trimmed split ∙ trimmed-blank (take (n - 1) xs))

pub stops : (xs : List ℕ) (n : ℕ) → 0 < n → n - 1 < length xs → slice_index_or xs (n - 1) 0 ≢ 32 → take n xs ≡ trimmed (take n xs)
stops xs n some within other =
    let whole : n - 1 + 1 ≡ n = omega arith in
    let split = sym (ap (λ (k : ℕ). take k xs) whole) ∙ take_more xs (n - 1) 0 within in
    split ∙ sym (trimmed-kept (take (n - 1) xs) (slice_index_or xs (n - 1) 0) other) ∙ ap trimmed (sym split)

pub zeros : (xs : List ℕ) (n : ℕ) → xs ++ drop n (replicate 84 0) ≡ xs ++ replicate (84 - n) 0
zeros xs n = ap (λ (l : List ℕ). xs ++ l) (drop-replicate n 84 0)

-- characters with zeros behind them are kept as a line is
pub is_line : (bytes xs : List ℕ) → bytes ≡ padded xs → length xs ≤ 84 → list_all is_character xs ≡ true → IsLine bytes (length xs)
is_line bytes xs is short all =
    let zeros : length {A = ℕ} (replicate (84 - length xs) 0) ≡ 84 - length xs = length-replicate (84 - length xs) 0 in
    record {
      size = ap length is ∙ simp length-append (omega (arith, zeros));
      most = short;
      zeros = ap (λ (l : List ℕ). drop (length xs) l) is ∙ drop-append_seam xs (replicate (84 - length xs) 0);
      characters = ap (λ (l : List ℕ). list_all is_character (take (length xs) l)) is ∙ ap (list_all is_character) (take-append_seam xs (replicate (84 - length xs) 0)) ∙ all;
    }

-- what is seen of it
pub line_seen : (bytes xs : List ℕ) → bytes ≡ padded xs → take (length xs) bytes ≡ xs
line_seen bytes xs is = ap (λ (l : List ℕ). take (length xs) l) is ∙ take-append_seam xs (replicate (84 - length xs) 0)

-- one text behind another
pub two_parts : (front back text : List ℕ) → length front + length back ≤ length text →
    take (length front + length back) (front ++ (back ++ drop (length front + length back) text)) ≡ front ++ back
two_parts front back text h =
    ap (λ (l : List ℕ). take (length front + length back) l) (sym (append_assoc front back (drop (length front + length back) text)))
    ∙ ap (λ (n : ℕ). take n ((front ++ back) ++ drop (length front + length back) text)) (sym (length-append front back))
    ∙ take-append_seam (front ++ back) (drop (length front + length back) text)

pub all_of_both : (xs ys : List ℕ) → list_all is_character xs ≡ true → list_all is_character ys ≡ true → list_all is_character (xs ++ ys) ≡ true
all_of_both xs ys h k = list_all-append is_character xs ys ∙ rw (h, k) refl
