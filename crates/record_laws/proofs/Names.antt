-- Names that differ in a list of files: with one more, with fewer, and with other names.
use Rattle.std.proofs.Common.{◌≡◌, ℕ, Bool, true, false, not, ◌&&◌, ◌||◌, nat_eq, List, [], ◌∷◌, ◌++◌, map, filter, cond}
use Rattle.std.proofs.Common.{Some, None, ◌⊎◌, inl, inr, refl, sym, ap, subst, ◌∙◌, arith}
use Rattle.std.specs.Prelude.{find}
use Rattle.std.specs.List.{list_any}
use Rattle.std.proofs.lemmas.Bool.{and_parts, and_from, or_parts, or_from, eqb-true, not-true, not_from_false}
use Rattle.std.proofs.lemmas.Bool.Decides.{nat_tests}
use Rattle.std.proofs.lemmas.List.Folds.{list_any-append}
use Rattle.ctss_types.specs.Names.{NamePair}
use Rattle.ctss_types.specs.declared.file.FileBody.{FileBody}
use Rattle.file_model.specs.Files.{same_name, is_named, changed_if, with_change, with_new, file_named}
use Rattle.text_model.specs.Reading.{names_differ}

-- elements that pass

-- where none is found, none passes
none_found : {X : Type 0} (p : X → Bool) (xs : List X) → find p xs ≡ None → list_any p xs ≡ false
none_found p [] h = refl
none_found {X = X} p (x ∷ xs) h = by_test (p x) (none_found p xs) h
  where
    by_test : (b : Bool) → (find p xs ≡ None → list_any p xs ≡ false) → cond b (Some x) (find p xs) ≡ None
        → (b || list_any p xs) ≡ false
    by_test true rest e = cc
    by_test false rest e = rest e

-- where none passes, none of fewer passes
none_of_fewer : {X : Type 0} (p q : X → Bool) (xs : List X) → list_any p xs ≡ false → list_any p (filter q xs) ≡ false
none_of_fewer p q [] h = refl
none_of_fewer p q (x ∷ xs) h =
    let parts = or_parts (p x) (list_any p xs) h in
    by_test (q x) parts.0 (none_of_fewer p q xs parts.1)
  where
    by_test : (b : Bool) → p x ≡ false → list_any p (filter q xs) ≡ false
        → list_any p (cond b (x ∷ filter q xs) (filter q xs)) ≡ false
    by_test true here rest = or_from (p x) (list_any p (filter q xs)) here rest
    by_test false here rest = rest

-- where no element passes either test, no changed one passes the first, if it doesn't by its change
none_of_changed : {X : Type 0} (p q : X → Bool) (g : X → X) (xs : List X)
    → ((x : X) → q x ≡ false → p x ≡ false → p (g x) ≡ false) → list_any q xs ≡ false → list_any p xs ≡ false
    → list_any p (map g xs) ≡ false
none_of_changed p q g [] k other none = refl
none_of_changed p q g (x ∷ xs) k other none =
    let others = or_parts (q x) (list_any q xs) other in
    let nones = or_parts (p x) (list_any p xs) none in
    or_from (p (g x)) (list_any p (map g xs)) (k x others.0 nones.0) (none_of_changed p q g xs k others.1 nones.1)

-- pairs of names

-- the file has these names
abbrev has_name : NamePair → FileBody → Bool
has_name name f = same_name name f.name

-- a test for the same names turned round
name_turned : (a b : NamePair) → same_name a b ≡ same_name b a
name_turned a b =
    let first : nat_eq a.first b.first ≡ nat_eq b.first a.first = grind (arith, nat_tests) in
    let second : nat_eq a.second b.second ≡ nat_eq b.second a.second = grind (arith, nat_tests) in
    λ i. first i && second i

-- pairs that pass the test are the same
name_same : (a b : NamePair) → same_name a b ≡ true → a ≡ b
name_same a b h =
    let parts = and_parts (nat_eq a.first b.first) (nat_eq a.second b.second) h in
    let first : a.first ≡ b.first = eqb-true a.first b.first parts.0 in
    let second : a.second ≡ b.second = eqb-true a.second b.second parts.1 in
    λ i. record { first = first i; second = second i }

-- the same in a list of files
none_turned : (name : NamePair) (files : List FileBody)
    → list_any (is_named name) files ≡ list_any (has_name name) files
none_turned name [] = refl
none_turned name (f ∷ fs) = λ i. name_turned f.name name i || none_turned name fs i

-- no file of this name is there
none_named : (name : NamePair) (files : List FileBody) → file_named name files ≡ None
    → list_any (has_name name) files ≡ false
none_named name files h = sym (none_turned name files) ∙ none_found (is_named name) files h

-- names that differ

-- of the first of these names there is none behind it
abbrev differs_from : NamePair → List FileBody → Bool
differs_from name files = not (list_any (has_name name) files)

-- fewer files
pub fewer_differ : (q : FileBody → Bool) (files : List FileBody) → names_differ files ≡ true
    → names_differ (filter q files) ≡ true
fewer_differ q [] h = refl
fewer_differ q (f ∷ fs) h =
    let parts = and_parts (differs_from f.name fs) (names_differ fs) h in
    by_test (q f) (none_of_fewer (has_name f.name) q fs (not-true _ parts.0)) (fewer_differ q fs parts.1)
  where
    by_test : (b : Bool) → list_any (has_name f.name) (filter q fs) ≡ false → names_differ (filter q fs) ≡ true
        → names_differ (cond b (f ∷ filter q fs) (filter q fs)) ≡ true
    by_test true none rest =
        and_from (differs_from f.name (filter q fs)) (names_differ (filter q fs)) (not_from_false _ none) rest
    by_test false none rest = rest

-- one file more, of other names than each
one_more_differs : (files : List FileBody) (f : FileBody) → names_differ files ≡ true
    → list_any (has_name f.name) files ≡ false → names_differ (files ++ f ∷ []) ≡ true
one_more_differs [] f h none = refl
one_more_differs (g ∷ gs) f h none =
    let parts = and_parts (differs_from g.name gs) (names_differ gs) h in
    let others = or_parts (same_name f.name g.name) (list_any (has_name f.name) gs) none in
    let last : list_any (has_name g.name) (f ∷ []) ≡ false =
    or_from (same_name g.name f.name) false (name_turned g.name f.name ∙ others.0) refl in
    let all : list_any (has_name g.name) (gs ++ f ∷ []) ≡ false =
    list_any-append (has_name g.name) gs (f ∷ [])
    ∙ or_from (list_any (has_name g.name) gs) (list_any (has_name g.name) (f ∷ [])) (not-true _ parts.0) last in
    and_from (differs_from g.name (gs ++ f ∷ [])) (names_differ (gs ++ f ∷ [])) (not_from_false _ all)
    (one_more_differs gs f parts.1 others.1)

-- a new file
pub new_differs : (name : NamePair) (words : List ℕ) (files : List FileBody) → file_named name files ≡ None
    → names_differ files ≡ true → names_differ (with_new name words files) ≡ true
new_differs name words files none h =
    one_more_differs files (record { name = name; mode = 1; words = words }) h (none_named name files none)

-- a change that keeps names keeps the test of one name
named_as_before : (name : NamePair) (g : FileBody → FileBody) (files : List FileBody)
    → ((f : FileBody) → (g f).name ≡ f.name)
    → list_any (has_name name) (map g files) ≡ list_any (has_name name) files
named_as_before name g [] same = refl
named_as_before name g (f ∷ fs) same = λ i. same_name name (same f i) || named_as_before name g fs same i

-- a change that keeps names keeps them different
same_differ : (g : FileBody → FileBody) (files : List FileBody) → ((f : FileBody) → (g f).name ≡ f.name)
    → names_differ (map g files) ≡ names_differ files
same_differ g [] same = refl
same_differ g (f ∷ fs) same =
    ap (λ (name : NamePair). differs_from name (map g fs) && names_differ (map g fs)) (same f)
    ∙ (λ i. not (named_as_before f.name g fs same i) && same_differ g fs same i)

-- a change of the file of a name keeps each file's name, if it does that file's
name_stays : (name : NamePair) (change : FileBody → FileBody)
    → ((f : FileBody) → f.name ≡ name → (change f).name ≡ f.name)
    → (f : FileBody) → (changed_if name change f).name ≡ f.name
name_stays name change same f = by_test (is_named name f) refl
  where
    by_test : (b : Bool) → is_named name f ≡ b → (cond b (change f) f).name ≡ f.name
    by_test true e = same f (name_same f.name name e)
    by_test false e = refl

-- such a change keeps them different
pub changed_differ : (name : NamePair) (change : FileBody → FileBody) (files : List FileBody)
    → ((f : FileBody) → f.name ≡ name → (change f).name ≡ f.name)
    → names_differ files ≡ true → names_differ (with_change name change files) ≡ true
changed_differ name change files same h = same_differ (changed_if name change) files (name_stays name change same) ∙ h

-- another name

-- a file of another name
abbrev pub named_to : NamePair → FileBody → FileBody
named_to to f = record f { name = to }

module _ (name to : NamePair) where
  -- a file after the rename
  abbrev renames : FileBody → FileBody
  renames f = changed_if name (named_to to) f

  -- a file is not named so after a rename to another name
  other_than : (n : NamePair) → same_name n to ≡ false → (f : FileBody) → has_name n f ≡ false
      → has_name n (renames f) ≡ false
  other_than n apart f none = by_test (is_named name f)
    where
      by_test : (b : Bool) → has_name n (cond b (named_to to f) f) ≡ false
      by_test true = apart
      by_test false = none

  -- a file of another name stays
  stays_other : (f : FileBody) → has_name name f ≡ false → has_name to f ≡ false → has_name to (renames f) ≡ false
  stays_other f other none = by_test (is_named name f) (name_turned f.name name ∙ other)
    where
      by_test : (b : Bool) → b ≡ false → has_name to (cond b (named_to to f) f) ≡ false
      by_test true e = cc
      by_test false e = none

  -- a rename to a name that none has keeps them different
  renamed_differ : (files : List FileBody) → list_any (has_name to) files ≡ false → names_differ files ≡ true
      → names_differ (map renames files) ≡ true
  renamed_differ [] none h = refl
  renamed_differ (f ∷ fs) none h =
      let parts = and_parts (differs_from f.name fs) (names_differ fs) h in
      let nones = or_parts (has_name to f) (list_any (has_name to) fs) none in
      and_from (differs_from (renames f).name (map renames fs)) (names_differ (map renames fs))
      (by_test (is_named name f) refl (not-true _ parts.0) nones.0 nones.1)
      (renamed_differ fs nones.1 parts.1)
    where
      by_test : (b : Bool) → is_named name f ≡ b → list_any (has_name f.name) fs ≡ false → has_name to f ≡ false
          → list_any (has_name to) fs ≡ false
          → differs_from (cond b (named_to to f) f).name (map renames fs) ≡ true
      by_test true e apart other rest =
          let none_left : list_any (has_name name) fs ≡ false =
          subst (λ (n : NamePair). list_any (has_name n) fs ≡ false) (name_same f.name name e) apart in
          not_from_false _ (none_of_changed (has_name to) (has_name name) renames fs stays_other none_left rest)
      by_test false e apart other rest =
          not_from_false _
          (none_of_changed (has_name f.name) (has_name f.name) renames fs
          (λ g also none_yet. other_than f.name (name_turned f.name to ∙ other) g none_yet) apart apart)

  -- a rename to its own name, or to one that none has
  pub renames_differ : (files : List FileBody) → (same_name name to ≡ true) ⊎ (file_named to files ≡ None)
      → names_differ files ≡ true → names_differ (with_change name (named_to to) files) ≡ true
  renames_differ files (inl e) h =
      changed_differ name (named_to to) files (λ f own. sym (own ∙ name_same name to e)) h
  renames_differ files (inr e) h = renamed_differ files (none_named to files e) h
