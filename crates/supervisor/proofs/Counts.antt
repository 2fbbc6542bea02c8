-- A line has at most half as many words as characters.
use Rattle.std.proofs.Common.{◌≡◌, ℕ, suc, ◌+◌, ◌*◌, ◌≤◌, Bool, true, false, not, cond, nat_eq, List, [], ◌∷◌, filter, length, refl, ap, arith}
use Rattle.std.specs.Prelude.{◌==◌}
use Rattle.std.specs.List.{slice_split, onto_first}
use Rattle.ctss_types.specs.Words.{words_of}

abbrev is_blank : ℕ → Bool
is_blank b = b == 32

abbrev holds : List ℕ → Bool
holds part = not (nat_eq (length part) 0)

-- whether the first part has a character
abbrev first_dark : List (List ℕ) → ℕ
first_dark [] = 0
first_dark ([] ∷ parts) = 0
first_dark ((x ∷ part) ∷ parts) = 1

at_most_one : (parts : List (List ℕ)) → first_dark parts ≤ 1
at_most_one [] = omega arith
at_most_one ([] ∷ parts) = omega arith
at_most_one ((x ∷ part) ∷ parts) = omega arith

holds_some : (x : ℕ) (part : List ℕ) → holds (x ∷ part) ≡ true
holds_some x part = by_test (nat_eq (suc (length part)) 0) refl
  where
    by_test : (b : Bool) → nat_eq (suc (length part)) 0 ≡ b → not b ≡ true
    by_test true e = absurd (grind (arith, e))
    by_test false e = refl

count_some : (x : ℕ) (part : List ℕ) (parts : List (List ℕ)) → length (filter holds ((x ∷ part) ∷ parts)) ≡ suc (length (filter holds parts))
count_some x part parts = ap (λ (b : Bool). length (cond b ((x ∷ part) ∷ filter holds parts) (filter holds parts))) (holds_some x part)

part_more : (n x : ℕ) (b : Bool) (parts : List (List ℕ)) → 2 * length (filter holds parts) ≤ n + first_dark parts
    → 2 * length (filter holds (cond b ([] ∷ parts) (onto_first x parts))) ≤ suc n + first_dark (cond b ([] ∷ parts) (onto_first x parts))
part_more n x true parts h = let k = at_most_one parts in omega (arith, h, k)
part_more n x false [] h = let k = count_some x [] [] in omega (arith, h, k)
part_more n x false ([] ∷ parts) h = let k = count_some x [] parts in omega (arith, h, k)
part_more n x false ((y ∷ part) ∷ parts) h = let k = count_some x (y ∷ part) parts in let m = count_some y part parts in omega (arith, h, k, m)

parts_of : (text : List ℕ) → 2 * length (filter holds (slice_split is_blank text)) ≤ length text + first_dark (slice_split is_blank text)
parts_of [] = omega arith
parts_of (x ∷ text) = part_more (length text) x (is_blank x) (slice_split is_blank text) (parts_of text)

pub few_words : (text : List ℕ) → length text ≤ 84 → length (words_of text) ≤ 42
few_words text h = let k = parts_of text in let m = at_most_one (slice_split is_blank text) in omega (arith, h, k, m)
