-- The first item of a field.
use Rattle.std.proofs.Common.{◌≡◌, ℕ, Bool, true, false, not, ◌+◌, ◌<◌, List, [], ◌∷◌, length, take, drop, arith, refl, sym, ◌∙◌, take_all}
use Rattle.std.proofs.lemmas.List.Splits.{slice_split_first, length-slice_split}
use Rattle.std.specs.Prelude.{◌==◌}
use Rattle.std.specs.List.{prefix_len, slice_split, count_by}
use Rattle.fap_model.specs.Terms.{items_of}

abbrev is_comma : ℕ → Bool
is_comma b = b == 44

whole_case : (x : ℕ) (xs : List ℕ) (b : Bool) → is_comma x ≡ b → (prefix_len (λ b. not (b == 44)) xs ≡ length xs → slice_split is_comma xs ≡ xs ∷ []) →
    prefix_len (λ b. not (b == 44)) (x ∷ xs) ≡ length (x ∷ xs) → slice_split is_comma (x ∷ xs) ≡ (x ∷ xs) ∷ []
whole_case x xs true e ih = rw e (λ h. absurd (omega arith))
whole_case x xs false e ih = rw e (λ h. let same : prefix_len (λ b. not (b == 44)) xs ≡ length xs = omega arith in rw (ih same) refl)

whole : (xs : List ℕ) → prefix_len (λ b. not (b == 44)) xs ≡ length xs → slice_split is_comma xs ≡ xs ∷ []
whole [] h = refl
whole (x ∷ xs) h = whole_case x xs (is_comma x) refl (whole xs) h

pub items_last : (text : List ℕ) (n : ℕ) → n ≡ prefix_len (λ b. not (b == 44)) text → n ≡ length text → items_of text ≡ take n text ∷ []
items_last text n e f = whole text (sym e ∙ f) ∙ rw (take_all n text (omega arith)) refl

pub items_first : (text : List ℕ) (n : ℕ) → n ≡ prefix_len (λ b. not (b == 44)) text → n < length text → items_of text ≡ take n text ∷ items_of (drop (n + 1) text)
items_first text n e h = rw e (slice_split_first is_comma text 0 (omega arith))

pub item_total : (text : List ℕ) (n : ℕ) → n ≡ count_by (λ b. b == 44) text → n + 1 ≡ length (items_of text)
item_total text n e = rw e (sym (length-slice_split is_comma text))
