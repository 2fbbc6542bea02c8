-- The first line of a text.
use Rattle.std.proofs.Common.{◌≡◌, ℕ, Bool, true, false, not, ◌+◌, ◌<◌, List, [], ◌∷◌, length, take, drop, arith, refl, ap, ◌∙◌, sym, cond, nat_eq, take_all}
use Rattle.std.proofs.lemmas.Bool.Decides.{nat_tests}
use Rattle.std.proofs.lemmas.List.{drop_all}
use Rattle.std.proofs.lemmas.List.Splits.{slice_split_first}
use Rattle.std.specs.Prelude.{◌==◌}
use Rattle.std.specs.List.{prefix_len, slice_split, onto_first}
use Rattle.std.specs.Str.Lines.{lines, lines_of_parts, strip_carriage_return}

abbrev is_newline : ℕ → Bool
is_newline b = b == 10

whole_case : (x : ℕ) (xs : List ℕ) (b : Bool) → is_newline x ≡ b → (prefix_len (λ b. not (b == 10)) xs ≡ length xs → slice_split is_newline xs ≡ xs ∷ []) →
    prefix_len (λ b. not (b == 10)) (x ∷ xs) ≡ length (x ∷ xs) → slice_split is_newline (x ∷ xs) ≡ (x ∷ xs) ∷ []
whole_case x xs true e ih = rw e (λ h. absurd (omega arith))
whole_case x xs false e ih = rw e (λ h. let same : prefix_len (λ b. not (b == 10)) xs ≡ length xs = omega arith in rw (ih same) refl)

whole : (xs : List ℕ) → prefix_len (λ b. not (b == 10)) xs ≡ length xs → slice_split is_newline xs ≡ xs ∷ []
whole [] h = refl
whole (x ∷ xs) h = whole_case x xs (is_newline x) refl (whole xs) h

pub lines_last : (text : List ℕ) (n : ℕ) → n ≡ prefix_len (λ b. not (b == 10)) text → n ≡ length text → 0 < length text → lines text ≡ take n text ∷ lines (drop n text)
lines_last text n e f h =
    let some : nat_eq (length text) 0 ≡ false = grind (arith, nat_tests) in
    ap lines_of_parts (whole text (sym e ∙ f)) ∙ rw (some, take_all n text (omega arith), drop_all n text (omega arith)) refl

-- parts are at least one
parts : (xs : List ℕ) → (a : List ℕ) × (b : List (List ℕ)) × (slice_split is_newline xs ≡ a ∷ b)
parts [] = ([], [], refl)
parts (x ∷ xs) = elim (is_newline x) as (λ v. (a : List ℕ) × (b : List (List ℕ)) × (cond v ([] ∷ slice_split is_newline xs) (onto_first x (slice_split is_newline xs)) ≡ a ∷ b)) [
  | true ↦ ([], slice_split is_newline xs, refl)
  | false ↦ (x ∷ (parts xs).0, (parts xs).1, ap (onto_first x) (parts xs).2)
]

first_of_parts : (x ys : List ℕ) → lines_of_parts (x ∷ slice_split is_newline ys) ≡ strip_carriage_return x ∷ lines ys
first_of_parts x ys = rw ((parts ys).2) refl

pub lines_first : (text : List ℕ) (n : ℕ) → n ≡ prefix_len (λ b. not (b == 10)) text → n < length text → lines text ≡ strip_carriage_return (take n text) ∷ lines (drop (n + 1) text)
lines_first text n e h =
    let split = slice_split_first is_newline text 0 (omega arith) in
    ap lines_of_parts split ∙ rw e (first_of_parts (take (prefix_len (λ b. not (b == 10)) text) text) (drop (prefix_len (λ b. not (b == 10)) text + 1) text))
