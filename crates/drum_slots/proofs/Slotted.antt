-- Slots stay sound as copies come and go.
use Rattle.std.specs.Prelude.{Bool, true, false, Option, None, Some, slice_index_or, slice_set, replicate}
use Rattle.std.proofs.Common.{◌≡◌, ◌≢◌, inl, inr, ℕ, zero, suc, ◌+◌, ◌<◌, ◌≤◌, List, [], ◌∷◌, length, refl, sym, ◌∙◌, ap, subst, arith, get_or-set_same, get_or-set_other, length-set}
use Rattle.std.proofs.lemmas.List.{length-replicate}
use Rattle.std.proofs.lemmas.Bool.{cases_eq}
use Rattle.drum_slots.specs.Slots.{IsSlots, slot_of, first_free, count_free, count_kept}

-- where a record is free, the least free one is a record
pub first_free_below : (bs : List Bool) → 0 < count_free bs → first_free bs < length bs
first_free_below [] some = absurd (omega arith)
first_free_below (true ∷ bs) some = omega arith
first_free_below (false ∷ bs) some = let h : 0 < count_free bs = omega arith in omega (arith, first_free_below bs h)

-- and it is free
pub first_free_is : (bs : List Bool) → 0 < count_free bs → slice_index_or bs (first_free bs) true ≡ true
first_free_is [] some = refl
first_free_is (true ∷ bs) some = refl
first_free_is (false ∷ bs) some = first_free_is bs (omega arith)

-- no more blocks are kept than there are places
pub kept_le : (slots : List (Option ℕ)) → count_kept slots ≤ length slots
kept_le [] = omega arith
kept_le (None ∷ slots) = omega (arith, kept_le slots)
kept_le (Some r ∷ slots) = omega (arith, kept_le slots)

-- where a place is empty, fewer are kept
pub kept_below : (slots : List (Option ℕ)) (k : ℕ) → k < length slots → slot_of slots k ≡ None → count_kept slots < length slots
kept_below [] k within none = absurd (omega arith)
kept_below (None ∷ slots) k within none = omega (arith, kept_le slots)
kept_below (Some r ∷ slots) zero within none = cc
kept_below (Some r ∷ slots) (suc k) within none = let less : k < length slots = omega arith in omega (arith, kept_below slots k less none)

-- one more is kept once an empty place has a record
pub kept-set_some : (slots : List (Option ℕ)) (k r : ℕ) → k < length slots → slot_of slots k ≡ None → count_kept (slice_set slots k (Some r)) ≡ count_kept slots + 1
kept-set_some [] k r within none = absurd (omega arith)
kept-set_some (None ∷ slots) zero r within none = omega arith
kept-set_some (Some q ∷ slots) zero r within none = cc
kept-set_some (None ∷ slots) (suc k) r within none = kept-set_some slots k r (omega arith) none
kept-set_some (Some q ∷ slots) (suc k) r within none = omega (arith, kept-set_some slots k r (omega arith) none)

-- one less is kept once a place has none
kept-set_none : (slots : List (Option ℕ)) (k r : ℕ) → slot_of slots k ≡ Some r → count_kept slots ≡ count_kept (slice_set slots k None) + 1
kept-set_none [] k r is = cc
kept-set_none (None ∷ slots) zero r is = cc
kept-set_none (Some q ∷ slots) zero r is = omega arith
kept-set_none (None ∷ slots) (suc k) r is = kept-set_none slots k r is
kept-set_none (Some q ∷ slots) (suc k) r is = omega (arith, kept-set_none slots k r is)

-- one less is free once a free record is taken
free-set_false : (bs : List Bool) (r : ℕ) → r < length bs → slice_index_or bs r true ≡ true → count_free bs ≡ count_free (slice_set bs r false) + 1
free-set_false [] r within is = absurd (omega arith)
free-set_false (true ∷ bs) zero within is = omega arith
free-set_false (false ∷ bs) zero within is = cc
free-set_false (true ∷ bs) (suc r) within is = omega (arith, free-set_false bs r (omega arith) is)
free-set_false (false ∷ bs) (suc r) within is = omega (arith, free-set_false bs r (omega arith) is)

-- one more is free once a record is given back
free-set_true : (bs : List Bool) (r : ℕ) → slice_index_or bs r true ≡ false → count_free (slice_set bs r true) ≡ count_free bs + 1
free-set_true [] r is = cc
free-set_true (true ∷ bs) zero is = cc
free-set_true (false ∷ bs) zero is = omega arith
free-set_true (true ∷ bs) (suc r) is = omega (arith, free-set_true bs r is)
free-set_true (false ∷ bs) (suc r) is = omega (arith, free-set_true bs r is)

-- a place with a record is a place of the table
pub slot_below : (slots : List (Option ℕ)) (k r : ℕ) → slot_of slots k ≡ Some r → k < length slots
slot_below [] k r is = cc
slot_below (s ∷ slots) zero r is = omega arith
slot_below (s ∷ slots) (suc k) r is = omega (arith, slot_below slots k r is)

-- what is not free is one of the records
pub not_free_below : (bs : List Bool) (r : ℕ) → slice_index_or bs r true ≡ false → r < length bs
not_free_below [] r is = cc
not_free_below (b ∷ bs) zero is = omega arith
not_free_below (b ∷ bs) (suc r) is = omega (arith, not_free_below bs r is)

-- at first no place has a record
pub none_kept : (n k : ℕ) → slot_of (replicate n None) k ≡ None
none_kept zero k = refl
none_kept (suc n) zero = refl
none_kept (suc n) (suc k) = none_kept n k

-- so none is kept
kept-replicate : (n : ℕ) → count_kept (replicate n None) ≡ 0
kept-replicate zero = refl
kept-replicate (suc n) = kept-replicate n

-- and all are free
free-replicate : (n : ℕ) → count_free (replicate n true) ≡ n
free-replicate zero = refl
free-replicate (suc n) = omega (arith, free-replicate n)

-- slots are sound at first
pub sound_new : (copies records : ℕ) → copies ≤ records → IsSlots (replicate copies None) (replicate records true)
sound_new copies records fits = record {
  held = λ k r is. let none = none_kept copies k in cc;
  distinct = λ j k r is also. let none = none_kept copies k in cc;
  count = simp length-replicate (omega (arith, kept-replicate copies, free-replicate records));
  room = simp length-replicate (fits);
}

-- they stay so when a block is kept in a free record
pub sound_keep : (slots : List (Option ℕ)) (free : List Bool) (k r : ℕ) → IsSlots slots free → k < length slots → slot_of slots k ≡ None
    → r < length free → slice_index_or free r true ≡ true → IsSlots (slice_set slots k (Some r)) (slice_set free r false)
sound_keep slots free k r s within none inside is_free = record {
  held = λ j q is. elim (cases_eq q r) [
    | inl same ↦ subst (λ (n : ℕ). slice_index_or (slice_set free r false) n true ≡ false) (sym same) (get_or-set_same free r false true inside)
    | inr other ↦ elim (cases_eq j k) [
      | inl here ↦ let now = get_or-set_same slots k (Some r) None within in absurd (other (some_same q r (sym (subst (λ (n : ℕ). slot_of (slice_set slots k (Some r)) n ≡ Some q) here is) ∙ now)))
      | inr there ↦ get_or-set_other free r q false true other ∙ s.held j q (sym (get_or-set_other slots k j (Some r) None there) ∙ is)
    ]
  ];
  distinct = λ i j q is also. elim (cases_eq i k) [
    | inl here ↦ elim (cases_eq j k) [
      | inl too ↦ here ∙ sym too
      | inr there ↦ absurd (clash j q (sym (subst (λ (n : ℕ). slot_of (slice_set slots k (Some r)) n ≡ Some q) here is) ∙ get_or-set_same slots k (Some r) None within) (sym (get_or-set_other slots k j (Some r) None there) ∙ also))
    ]
    | inr there ↦ elim (cases_eq j k) [
      | inl here ↦ absurd (clash i q (sym (subst (λ (n : ℕ). slot_of (slice_set slots k (Some r)) n ≡ Some q) here also) ∙ get_or-set_same slots k (Some r) None within) (sym (get_or-set_other slots k i (Some r) None there) ∙ is))
      | inr too ↦ s.distinct i j q (sym (get_or-set_other slots k i (Some r) None there) ∙ is) (sym (get_or-set_other slots k j (Some r) None too) ∙ also)
    ]
  ];
  count = simp length-set (omega (arith, s.count, kept-set_some slots k r within none, free-set_false free r inside is_free));
  room = simp length-set (s.room);
}
  where
    some_same : (a b : ℕ) → Some a ≡ Some b → a ≡ b
    some_same a b e = cc

    clash : (j q : ℕ) → Some q ≡ Some r → slot_of slots j ≡ Some q → ⊥
    clash j q e is = let taken = s.held j q is in let same = some_same q r e in let P : ℕ → Type 0 = λ n. slice_index_or free n true ≡ false in let no = subst P same taken in cc

-- and when a block's record is given back
pub sound_release : (slots : List (Option ℕ)) (free : List Bool) (k r : ℕ) → IsSlots slots free → slot_of slots k ≡ Some r
    → IsSlots (slice_set slots k None) (slice_set free r true)
sound_release slots free k r s is = record {
  held = λ j q also.
      let kept = still j q also in
      let other : q ≢ r = λ same. not_here j q also (s.distinct j k q kept (is ∙ ap (λ (n : ℕ). Some n) (sym same))) in
      get_or-set_other free r q true true other ∙ s.held j q kept;
  distinct = λ i j q one two. s.distinct i j q (still i q one) (still j q two);
  count = simp length-set (omega (arith, s.count, kept-set_none slots k r is, free-set_true free r (s.held k r is)));
  room = simp length-set (s.room);
}
  where
    not_here : (j q : ℕ) → slot_of (slice_set slots k None) j ≡ Some q → j ≡ k → ⊥
    not_here j q also here =
        let gone = get_or-set_same slots k None None (slot_below slots k r is) in
        let P : ℕ → Type 0 = λ n. slot_of (slice_set slots k None) n ≡ Some q in
        let now = subst P here also in cc

    still : (j q : ℕ) → slot_of (slice_set slots k None) j ≡ Some q → slot_of slots j ≡ Some q
    still j q also = sym (get_or-set_other slots k j None None (not_here j q also)) ∙ also

-- no copy lies in a free record
pub avoids : (slots : List (Option ℕ)) (free : List Bool) (r : ℕ) → IsSlots slots free → slice_index_or free r true ≡ true
    → (j q : ℕ) → slot_of slots j ≡ Some q → q ≢ r
avoids slots free r s is_free j q is same =
    let P : ℕ → Type 0 = λ n. slice_index_or free n true ≡ false in
    let taken = subst P same (s.held j q is) in cc
