-- The first field of a text.
use Rattle.std.proofs.Common.{◌≡◌, ℕ, Bool, true, false, not, ◌+◌, ◌≤◌, List, [], ◌∷◌, length, take, drop, suc, arith, refl, if◌then◌else◌, nat_eq, ap, ◌∙◌, sym, cond, filter, length-take, subst}
use Rattle.std.specs.Prelude.{◌==◌}
use Rattle.std.specs.List.{prefix_len, slice_split, onto_first}
use Rattle.std.proofs.lemmas.Bool.Decides.{nat_tests}
use Rattle.ctss_types.specs.Words.{words_of}

abbrev is_blank : ℕ → Bool
is_blank b = b == 32

abbrev is_dark : ℕ → Bool
is_dark b = not (b == 32)

abbrev holds : List ℕ → Bool
holds part = not (nat_eq (length part) 0)

-- the parts behind the first
abbrev parts_after : List ℕ → List (List ℕ)
parts_after [] = []
parts_after (y ∷ ys) = slice_split is_blank ys

one_more : (n : ℕ) → 1 + n ≡ suc n
one_more n = omega arith

skip_case : (x : ℕ) (xs : List ℕ) (b : Bool) → is_blank x ≡ b → words_of xs ≡ words_of (drop (prefix_len is_blank xs) xs) →
    words_of (x ∷ xs) ≡ words_of (drop (prefix_len is_blank (x ∷ xs)) (x ∷ xs))
skip_case x xs true e ih = rw (e, one_more) ih
skip_case x xs false e ih = rw (e, e) refl

skip : (text : List ℕ) → words_of text ≡ words_of (drop (prefix_len is_blank text) text)
skip [] = refl
skip (x ∷ xs) = skip_case x xs (is_blank x) refl (skip xs)

split_is : (xs : List ℕ) → slice_split is_blank xs ≡ take (prefix_len is_dark xs) xs ∷ parts_after (drop (prefix_len is_dark xs) xs)
split_is [] = refl
split_is (x ∷ xs) = elim (is_blank x) as (λ b. cond b ([] ∷ slice_split is_blank xs) (onto_first x (slice_split is_blank xs))
    ≡ take (cond (not b) (1 + prefix_len is_dark xs) 0) (x ∷ xs) ∷ parts_after (drop (cond (not b) (1 + prefix_len is_dark xs) 0) (x ∷ xs))) [
      | true ↦ refl
      | false ↦ rw (one_more, split_is xs) refl
    ]

kept_case : (x : ℕ) (xs : List ℕ) (b : Bool) → is_blank x ≡ b → filter holds (parts_after (drop (prefix_len is_dark xs) xs)) ≡ words_of (drop (prefix_len is_dark xs) xs) →
    filter holds (parts_after (drop (prefix_len is_dark (x ∷ xs)) (x ∷ xs))) ≡ words_of (drop (prefix_len is_dark (x ∷ xs)) (x ∷ xs))
kept_case x xs true e ih = rw (e, e) refl
kept_case x xs false e ih = rw (e, one_more) ih

kept_after : (xs : List ℕ) → filter holds (parts_after (drop (prefix_len is_dark xs) xs)) ≡ words_of (drop (prefix_len is_dark xs) xs)
kept_after [] = refl
kept_after (x ∷ xs) = kept_case x xs (is_blank x) refl (kept_after xs)

stops_case : (x : ℕ) (xs : List ℕ) (b : Bool) → is_blank x ≡ b → (prefix_len is_dark (drop (prefix_len is_blank xs) xs) ≡ 0 → drop (prefix_len is_blank xs) xs ≡ []) →
    prefix_len is_dark (drop (prefix_len is_blank (x ∷ xs)) (x ∷ xs)) ≡ 0 → drop (prefix_len is_blank (x ∷ xs)) (x ∷ xs) ≡ []
stops_case x xs true e ih = rw (e, one_more) ih
stops_case x xs false e ih = rw (e, e) (λ h. absurd (omega arith))

stops : (text : List ℕ) → prefix_len is_dark (drop (prefix_len is_blank text) text) ≡ 0 → drop (prefix_len is_blank text) text ≡ []
stops [] h = refl
stops (x ∷ xs) h = stops_case x xs (is_blank x) refl (stops xs) h

within : (p : ℕ → Bool) (xs : List ℕ) → prefix_len p xs ≤ length xs
within p [] = omega arith
within p (x ∷ xs) = elim (p x) as (λ b. cond b (1 + prefix_len p xs) 0 ≤ suc (length xs)) [ true ↦ omega (arith, within p xs) | false ↦ omega arith ]

part_case : (rest : List ℕ) (b : Bool) → nat_eq (length (take (prefix_len is_dark rest) rest)) 0 ≡ b → (prefix_len is_dark rest ≡ 0 → rest ≡ []) →
    words_of rest ≡ (if nat_eq (length (take (prefix_len is_dark rest) rest)) 0 then [] else take (prefix_len is_dark rest) rest ∷ words_of (drop (prefix_len is_dark rest) rest))
part_case rest true e h =
    let none : prefix_len is_dark rest ≡ 0 = grind (arith, nat_tests, length-take, within is_dark rest) in
    let empty : rest ≡ [] = h none in
    let P : List ℕ → Type 0 = λ r. words_of r ≡ (if nat_eq (length (take (prefix_len is_dark r) r)) 0 then [] else take (prefix_len is_dark r) r ∷ words_of (drop (prefix_len is_dark r) r)) in
    subst P (sym empty) refl
part_case rest false e h = ap (filter holds) (split_is rest) ∙ rw (e, kept_after rest) refl

pub words_first : (text : List ℕ) (a b : ℕ) → a ≡ prefix_len (λ b. b == 32) text → b ≡ prefix_len (λ b. not (b == 32)) (drop a text) →
    words_of text ≡ (if nat_eq (length (take b (drop a text))) 0 then [] else take b (drop a text) ∷ words_of (drop b (drop a text)))
words_first text a b p q =
    let at : b ≡ prefix_len is_dark (drop (prefix_len is_blank text) text) = rw (← p) q in
    let rest : List ℕ = drop (prefix_len is_blank text) text in
    rw (at, p) (skip text ∙ part_case (drop (prefix_len is_blank text) text) _ refl (stops text))
