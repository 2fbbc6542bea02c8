-- Columns that a text lacks are blank.
use Rattle.std.proofs.Common.{◌≡◌, ℕ, Bool, true, false, not, ◌+◌, ◌-◌, ◌<◌, ◌≤◌, List, [], ◌∷◌, ◌++◌, length, take, drop, replicate, min, length-take, zero, suc, arith, refl, sym, ap, ◌∙◌, cond, nat_eq}
use Rattle.std.proofs.lemmas.List.{take-replicate, drop-replicate}
use Rattle.std.specs.Prelude.{◌==◌, slice_index_or}
use Rattle.std.specs.List.{prefix_len}
use Rattle.ctss_types.specs.Line.{trimmed, before_rest}
use Rattle.fap_model.specs.Cards.{until_blank, starred, symbol_columns, symbol_text, operation_columns, field_of}

abbrev is_dark : ℕ → Bool
is_dark b = not (b == 32)

cons_taken : (x k : ℕ) (l : List ℕ) → take (1 + k) (x ∷ l) ≡ x ∷ take k l
cons_taken x k l = let e : 1 + k ≡ suc k = omega arith in rw e refl

-- blanks behind a text change nothing of what stands up to a blank
dark_seen : (xs : List ℕ) (m n : ℕ) → until_blank (take n (xs ++ replicate m 32)) ≡ until_blank (take n xs)
dark_seen xs m zero = refl
dark_seen [] zero (suc n) = refl
dark_seen [] (suc m) (suc n) = refl
dark_seen (x ∷ xs) m (suc n) =
    elim (x == 32) as (λ b. take (cond (not b) (1 + prefix_len is_dark (take n (xs ++ replicate m 32))) 0) (x ∷ take n (xs ++ replicate m 32))
    ≡ take (cond (not b) (1 + prefix_len is_dark (take n xs)) 0) (x ∷ take n xs)) [
      | true ↦ refl
      | false ↦ cons_taken x _ _ ∙ ap (λ (l : List ℕ). x ∷ l) (dark_seen xs m n) ∙ sym (cons_taken x _ _)
    ]

trimmed_blanks : (m n : ℕ) → trimmed (take n (replicate m 32)) ≡ []
trimmed_blanks m zero = refl
trimmed_blanks zero (suc n) = refl
trimmed_blanks (suc m) (suc n) = ap (before_rest 32) (trimmed_blanks m n)

trimmed_seen : (xs : List ℕ) (m n : ℕ) → trimmed (take n (xs ++ replicate m 32)) ≡ trimmed (take n xs)
trimmed_seen xs m zero = refl
trimmed_seen [] m (suc n) = trimmed_blanks m (suc n)
trimmed_seen (x ∷ xs) m (suc n) = ap (before_rest x) (trimmed_seen xs m n)

pub columns_padded : (n m : ℕ) (xs : List ℕ) → n ≤ m → take n (xs ++ replicate m 32) ≡ take n xs ++ replicate (n - length (take n xs)) 32
columns_padded zero m xs h = refl
columns_padded (suc n) m [] h = let e : suc n - 0 ≡ suc n = omega arith in rw e (take-replicate (suc n) m 32 h)
columns_padded (suc n) m (x ∷ xs) h =
    let e : suc n - suc (length (take n xs)) ≡ n - length (take n xs) = omega arith in
    rw e (ap (λ (l : List ℕ). x ∷ l) (columns_padded n m xs (omega arith)))

pub symbol_seen : (text a part : List ℕ) → a ≡ take 6 text → part ≡ trimmed a → part ≡ symbol_text text
symbol_seen text a part e f = f ∙ ap trimmed e ∙ sym (trimmed_seen text 6 6)

pub operation_seen : (text a b part : List ℕ) → a ≡ drop 7 text → b ≡ take 8 a → part ≡ until_blank b → part ≡ operation_columns text
operation_seen text a b part d e f =
    f ∙ ap (λ (l : List ℕ). until_blank l) e ∙ ap (λ (l : List ℕ). until_blank (take 8 l)) d ∙ sym (dark_seen (drop 7 text) 8 8)

pub field_seen : (text a b part : List ℕ) → a ≡ drop 15 text → b ≡ take 57 a → part ≡ until_blank b → part ≡ field_of text
field_seen text a b part d e f =
    f ∙ ap (λ (l : List ℕ). until_blank l) e ∙ ap (λ (l : List ℕ). until_blank (take 57 l)) d ∙ sym (dark_seen (drop 15 text) 57 57)

pub starred_last : (xs : List ℕ) → 0 < length xs → starred xs ≡ nat_eq (slice_index_or xs (length xs - 1) 0) 42
starred_last [] h = absurd (omega arith)
starred_last (x ∷ []) h = refl
starred_last (x ∷ y ∷ xs) h =
    let e : suc (suc (length xs)) - 1 ≡ suc (length xs) = omega arith in
    let f : suc (length xs) - 1 ≡ length xs = omega arith in
    starred_last (y ∷ xs) (omega arith) ∙ rw (e, f) refl

pub blanks_six : (xs : List ℕ) (n : ℕ) → xs ++ drop n (replicate 6 32) ≡ xs ++ replicate (6 - n) 32
blanks_six xs n = ap (λ (l : List ℕ). xs ++ l) (drop-replicate n 6 32)

pub blanks_eight : (xs : List ℕ) (n : ℕ) → xs ++ drop n (replicate 8 32) ≡ xs ++ replicate (8 - n) 32
blanks_eight xs n = ap (λ (l : List ℕ). xs ++ l) (drop-replicate n 8 32)

pub symbol_columns_seen : (text a out : List ℕ) → a ≡ take 6 text → out ≡ a ++ drop (length a) (replicate 6 32) → out ≡ symbol_columns text
symbol_columns_seen text a out e f =
    f ∙ blanks_six a (length a) ∙ ap (λ (l : List ℕ). l ++ replicate (6 - length l) 32) e ∙ sym (columns_padded 6 6 text (omega arith))

pub at_most : (n m : ℕ) (xs ys : List ℕ) → xs ≡ take n ys → m ≤ length xs → m ≤ n
at_most n m xs ys e h =
    let size : length xs ≡ min n (length ys) = ap (λ (l : List ℕ). length l) e ∙ length-take n ys in
    omega arith
