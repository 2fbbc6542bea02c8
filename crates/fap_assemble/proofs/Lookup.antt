-- Symbols among the first of a table, and literals by their order.
use Rattle.std.proofs.Common.{◌≡◌, ℕ, zero, suc, ◌+◌, ◌<◌, ◌≤◌, Bool, true, false, cond, List, [], ◌∷◌, ◌++◌, length, take, position, Option, Some, None, is_some, true≢false, refl, sym, ap, ◌∙◌, arith, nat_eq, nat_lt}
use Rattle.std.proofs.lemmas.Bool.Decides.{nat_tests}
use Rattle.std.specs.List.{position_or_len, list_any}
use Rattle.std.specs.Map.{keys_of, lookup}
use Rattle.fap_model.specs.Places.{value_in}
use Rattle.fap_model.specs.Decks.{with_literal, index_from}
use Rattle.indexmap.specs.IndexSet.{insert_key}
use Rattle.indexmap.specs.IndexMap.{insert_entry}
use Rattle.fap_assemble.specs.Tables.{defined}

before : (ℕ → Bool) → List (ℕ × ℕ) → ℕ
before test es = position_or_len test (keys_of es)

near_case : (test : ℕ → Bool) (e : ℕ × ℕ) (es : List (ℕ × ℕ)) (n : ℕ) (b : Bool) → test e.0 ≡ b
    → (position_or_len test (keys_of es) < n → lookup test (take n es) ≡ lookup test es)
    → position_or_len test (keys_of (e ∷ es)) < suc n → lookup test (take (suc n) (e ∷ es)) ≡ lookup test (e ∷ es)
near_case test e es n true t ih = rw t (λ h. refl)
near_case test e es n false t ih = rw t (λ h. ih (omega arith))

near : (test : ℕ → Bool) (es : List (ℕ × ℕ)) (n : ℕ) → position_or_len test (keys_of es) < n → lookup test (take n es) ≡ lookup test es
near test [] zero h = refl
near test [] (suc n) h = refl
near test (e ∷ es) zero h = absurd (omega arith)
near test (e ∷ es) (suc n) h = near_case test e es n (test e.0) refl (near test es n) h

far_case : (test : ℕ → Bool) (e : ℕ × ℕ) (es : List (ℕ × ℕ)) (n : ℕ) (b : Bool) → test e.0 ≡ b
    → (n ≤ position_or_len test (keys_of es) → lookup test (take n es) ≡ None)
    → suc n ≤ position_or_len test (keys_of (e ∷ es)) → lookup test (take (suc n) (e ∷ es)) ≡ None
far_case test e es n true t ih = rw t (λ h. absurd (omega arith))
far_case test e es n false t ih = rw t (λ h. ih (omega arith))

far : (test : ℕ → Bool) (es : List (ℕ × ℕ)) (n : ℕ) → n ≤ position_or_len test (keys_of es) → lookup test (take n es) ≡ None
far test es zero h = refl
far test [] (suc n) h = refl
far test (e ∷ es) (suc n) h = far_case test e es n (test e.0) refl (far test es n) h

some_position : (p n i : ℕ) → Some i ≡ cond (nat_lt p n) (Some p) None → p ≡ i
some_position p n i h = grind (arith, nat_tests)

pub found_value : (es : List (ℕ × ℕ)) (name index value visible : ℕ) → position (nat_eq name) (keys_of es) ≡ Some index → lookup (nat_eq name) es ≡ Some value
    → index < visible → value_in (take visible es) name ≡ Some value
found_value es name index value visible p l lt =
    let at : position_or_len (nat_eq name) (keys_of es) ≡ index = some_position _ _ _ (sym p) in
    near (nat_eq name) es visible (omega arith) ∙ l

pub late_value : (es : List (ℕ × ℕ)) (name index visible : ℕ) → position (nat_eq name) (keys_of es) ≡ Some index → visible ≤ index → value_in (take visible es) name ≡ None
late_value es name index visible p le =
    let at : position_or_len (nat_eq name) (keys_of es) ≡ index = some_position _ _ _ (sym p) in
    far (nat_eq name) es visible (omega arith)

none_lookup_case : (test : ℕ → Bool) (e : ℕ × ℕ) (es : List (ℕ × ℕ)) (n : ℕ) (b : Bool) → test e.0 ≡ b
    → (lookup test es ≡ None → lookup test (take n es) ≡ None) → lookup test (e ∷ es) ≡ None → lookup test (take (suc n) (e ∷ es)) ≡ None
none_lookup_case test e es n true t ih = rw t (λ h. absurd (some_none h))
  where
    some_none : Some e.1 ≡ None → ⊥
    some_none h = cc
none_lookup_case test e es n false t ih = rw t (λ h. ih h)

none_lookup : (test : ℕ → Bool) (es : List (ℕ × ℕ)) (n : ℕ) → lookup test es ≡ None → lookup test (take n es) ≡ None
none_lookup test es zero h = refl
none_lookup test [] (suc n) h = refl
none_lookup test (e ∷ es) (suc n) h = none_lookup_case test e es n (test e.0) refl (none_lookup test es n) h

pub no_value : (es : List (ℕ × ℕ)) (name visible : ℕ) → lookup (nat_eq name) es ≡ None → value_in (take visible es) name ≡ None
no_value es name visible h = none_lookup (nat_eq name) es visible h

-- a new symbol goes last
new_case : (e : ℕ × ℕ) (es : List (ℕ × ℕ)) (name v : ℕ) (b : Bool) → nat_eq name e.0 ≡ b
    → (lookup (nat_eq name) es ≡ None → insert_entry nat_eq es name v ≡ es ++ (name, v) ∷ [])
    → lookup (nat_eq name) (e ∷ es) ≡ None → insert_entry nat_eq (e ∷ es) name v ≡ (e ∷ es) ++ (name, v) ∷ []
new_case e es name v true t ih = rw t (λ h. absurd (some_none h))
  where
    some_none : Some e.1 ≡ None → ⊥
    some_none h = cc
new_case e es name v false t ih = rw t (λ h. ap (λ (r : List (ℕ × ℕ)). e ∷ r) (ih h))

new_last : (es : List (ℕ × ℕ)) (name v : ℕ) → lookup (nat_eq name) es ≡ None → insert_entry nat_eq es name v ≡ es ++ (name, v) ∷ []
new_last [] name v h = refl
new_last (e ∷ es) name v h = new_case e es name v (nat_eq name e.0) refl (new_last es name v) h

pub defined_new : (es new : List (ℕ × ℕ)) (name v : ℕ) → lookup (nat_eq name) es ≡ None → new ≡ insert_entry nat_eq es name v → new ≡ defined es name v
defined_new es new name v h e = e ∙ new_last es name v h ∙ rw h refl

pub defined_old : (es : List (ℕ × ℕ)) (name v : ℕ) → is_some (lookup (nat_eq name) es) ≡ true → es ≡ defined es name v
defined_old es name v h = by (lookup (nat_eq name) es) refl
  where
    by : (r : Option ℕ) → lookup (nat_eq name) es ≡ r → es ≡ defined es name v
    by None e = absurd (true≢false (sym h ∙ ap is_some e))
    by (Some x) e = rw e refl

-- literals

pub same_test : (x w : ℕ) → nat_eq x w ≡ nat_eq w x
same_test x w = grind (arith, nat_tests)

same_any : (xs : List ℕ) (w : ℕ) → list_any (λ x. nat_eq x w) xs ≡ list_any (nat_eq w) xs
same_any [] w = refl
same_any (x ∷ xs) w = rw (same_test x w, same_any xs w) refl

pub literal_added : (old new : List ℕ) (w : ℕ) → new ≡ insert_key nat_eq old w → new ≡ with_literal old (Some w)
literal_added old new w h = h ∙ rw (same_any old w) refl

index_case : (x : ℕ) (xs : List ℕ) (n w : ℕ) (b : Bool) → nat_eq w x ≡ b
    → index_from (suc n) xs w ≡ suc n + position_or_len (nat_eq w) xs → index_from n (x ∷ xs) w ≡ n + position_or_len (nat_eq w) (x ∷ xs)
index_case x xs n w true t ih = rw (same_test x w, t) (omega arith)
index_case x xs n w false t ih = rw (same_test x w, t) (omega (arith, ih))

index_is : (n : ℕ) (xs : List ℕ) (w : ℕ) → index_from n xs w ≡ n + position_or_len (nat_eq w) xs
index_is n [] w = omega arith
index_is n (x ∷ xs) w = index_case x xs n w (nat_eq w x) refl (index_is (suc n) xs w)

pub index_found : (xs : List ℕ) (w index : ℕ) → position (nat_eq w) xs ≡ Some index → index ≡ index_from 0 xs w
index_found xs w index h =
    let at : position_or_len (nat_eq w) xs ≡ index = some_position _ _ _ (sym h) in
    omega (arith, index_is 0 xs w)

within_case : (x : ℕ) (xs : List ℕ) (w : ℕ) (b : Bool) → nat_eq w x ≡ b → position_or_len (nat_eq w) xs ≤ length xs → position_or_len (nat_eq w) (x ∷ xs) ≤ length (x ∷ xs)
within_case x xs w true t ih = rw t (omega arith)
within_case x xs w false t ih = rw t (omega (arith, ih))

within : (xs : List ℕ) (w : ℕ) → position_or_len (nat_eq w) xs ≤ length xs
within [] w = omega arith
within (x ∷ xs) w = within_case x xs w (nat_eq w x) refl (within xs w)

pub index_missing : (xs : List ℕ) (w : ℕ) → position (nat_eq w) xs ≡ None → length xs ≡ index_from 0 xs w
index_missing xs w h =
    let all : length xs ≤ position_or_len (nat_eq w) xs = grind (arith, nat_tests) in
    omega (arith, index_is 0 xs w, within xs w)

pub index_within : (xs : List ℕ) (w : ℕ) → index_from 0 xs w ≤ length xs
index_within xs w = omega (arith, index_is 0 xs w, within xs w)
