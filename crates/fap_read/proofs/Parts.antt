-- The first term of a text.
use Rattle.std.proofs.Common.{◌≡◌, ℕ, Bool, true, false, not, ◌+◌, ◌<◌, List, [], ◌∷◌, length, take, drop, get_or, suc, arith, refl, sym, ◌∙◌, nat_eq, filter, take_all}
use Rattle.std.proofs.lemmas.Bool.Decides.{nat_tests}
use Rattle.std.proofs.lemmas.List.Splits.{slice_split_first}
use Rattle.std.specs.List.{prefix_len, slice_split}
use Rattle.fap_model.specs.Terms.{is_sign}
use Rattle.fap_read.specs.Peeled.{parts_from, sign_byte}

abbrev no_sign : ℕ → Bool
no_sign b = not (is_sign b)

whole_split_case : (x : ℕ) (xs : List ℕ) (b : Bool) → is_sign x ≡ b → (prefix_len no_sign xs ≡ length xs → slice_split is_sign xs ≡ xs ∷ []) →
    prefix_len no_sign (x ∷ xs) ≡ length (x ∷ xs) → slice_split is_sign (x ∷ xs) ≡ (x ∷ xs) ∷ []
whole_split_case x xs true e ih = rw e (λ h. absurd (omega arith))
whole_split_case x xs false e ih = rw e (λ h. let same : prefix_len no_sign xs ≡ length xs = omega arith in rw (ih same) refl)

whole_split : (xs : List ℕ) → prefix_len no_sign xs ≡ length xs → slice_split is_sign xs ≡ xs ∷ []
whole_split [] h = refl
whole_split (x ∷ xs) h = whole_split_case x xs (is_sign x) refl (whole_split xs) h

whole_signs_case : (x : ℕ) (xs : List ℕ) (b : Bool) → is_sign x ≡ b → (prefix_len no_sign xs ≡ length xs → filter is_sign xs ≡ []) →
    prefix_len no_sign (x ∷ xs) ≡ length (x ∷ xs) → filter is_sign (x ∷ xs) ≡ []
whole_signs_case x xs true e ih = rw e (λ h. absurd (omega arith))
whole_signs_case x xs false e ih = rw e (λ h. let same : prefix_len no_sign xs ≡ length xs = omega arith in ih same)

whole_signs : (xs : List ℕ) → prefix_len no_sign xs ≡ length xs → filter is_sign xs ≡ []
whole_signs [] h = refl
whole_signs (x ∷ xs) h = whole_signs_case x xs (is_sign x) refl (whole_signs xs) h

-- a text without signs is one part
pub parts_last : (sign : ℕ) (text : List ℕ) (n : ℕ) → n ≡ prefix_len (λ b. not (is_sign b)) text → n ≡ length text →
    parts_from sign text ≡ (sign, take n text) ∷ []
parts_last sign text n e f =
    let all : prefix_len no_sign text ≡ length text = sym e ∙ f in
    rw (whole_signs text all, whole_split text all, take_all n text (omega arith)) refl

-- the first sign, and those behind it
AtSign : List ℕ → Type 0
AtSign xs =
    (is_sign (get_or xs (prefix_len no_sign xs) 0) ≡ true)
    × (filter is_sign xs ≡ get_or xs (prefix_len no_sign xs) 0 ∷ filter is_sign (drop (prefix_len no_sign xs + 1) xs))

at_sign_case : (x : ℕ) (xs : List ℕ) (b : Bool) → is_sign x ≡ b → (prefix_len no_sign xs < length xs → AtSign xs) → prefix_len no_sign (x ∷ xs) < length (x ∷ xs) → AtSign (x ∷ xs)
unfolding AtSign
at_sign_case x xs true e ih = rw (e, e) (λ h. (refl, refl))
at_sign_case x xs false e ih =
    let more : 1 + prefix_len no_sign xs ≡ suc (prefix_len no_sign xs) = omega arith in
    let next : suc (prefix_len no_sign xs) + 1 ≡ suc (prefix_len no_sign xs + 1) = omega arith in
    rw (e, more, next) (λ h. ih (omega arith))

at_sign : (xs : List ℕ) → prefix_len no_sign xs < length xs → AtSign xs
at_sign [] h = absurd (omega arith)
at_sign (x ∷ xs) h = at_sign_case x xs (is_sign x) refl (at_sign xs) h

sign_is : (b : ℕ) → is_sign b ≡ true → sign_byte (nat_eq b 45) ≡ b
sign_is b h = grind (arith, nat_tests)

pub parts_first : (sign : ℕ) (text : List ℕ) (n : ℕ) (minus : Bool) → n ≡ prefix_len (λ b. not (is_sign b)) text → n < length text → minus ≡ nat_eq (get_or text n 0) 45 →
    parts_from sign text ≡ (sign, take n text) ∷ parts_from (sign_byte minus) (drop (n + 1) text)
unfolding AtSign
parts_first sign text n minus e h m =
    let within : prefix_len no_sign text < length text = omega arith in
    let at = at_sign text within in
    let split = slice_split_first is_sign text 0 within in
    rw (m, e, sign_is _ at.0, at.1, split) refl
