-- The number of a name is that of its first, and names in front of a table are found first.
use Rattle.std.proofs.Common.{◌≡◌, ℕ, suc, ◌+◌, Bool, true, false, ◌||◌, List, [], ◌∷◌, ◌++◌, length, Option, Some, None, is_none, is_some, refl, sym, ap, ◌∙◌, arith, nat_eq, if◌then◌else◌, true≢false}
use Rattle.std.proofs.lemmas.Bool.Decides.{nat_tests}
use Rattle.fap_model.specs.Places.{value_in}
use Rattle.fap_model.specs.Decks.{index_from}
use Rattle.link_model.specs.Weights.{is_among, with_externs}
use Rattle.fap_assemble.specs.Tables.{defined}
use Rattle.fap_assemble.specs.Rosters.{numbers_with, numbers_of, number_from, number_in}
use Rattle.fap_assemble.proofs.Lookup.{same_test}

-- a name more has the number of those before it

more_with : (table : List (ℕ × ℕ)) (n : ℕ) (names : List ℕ) (name : ℕ)
    → numbers_with table n (names ++ name ∷ []) ≡ defined (numbers_with table n names) name (n + length names)
more_with table n [] name = let here : n + 0 ≡ n = omega arith in rw here refl
more_with table n (x ∷ names) name =
    let next : n + length (x ∷ names) ≡ suc n + length names = omega arith in
    rw next (more_with (defined table x n) (suc n) names name)

pub numbers_more : (names : List ℕ) (name : ℕ) → numbers_of (names ++ name ∷ []) ≡ defined (numbers_of names) name (length names)
numbers_more names name = let here : 0 + length names ≡ length names = omega arith in more_with [] 0 names name ∙ ap (defined (numbers_of names) name) here

-- and the number that is found is the first one's

abbrev or_number : Option ℕ → ℕ → List ℕ → ℕ → Option ℕ
or_number None n names name = number_from n names name
or_number (Some v) n names name = Some v

last_value : (table : List (ℕ × ℕ)) (x n name : ℕ) → value_in (table ++ (x, n) ∷ []) name
    ≡ (or_number (value_in table name) n (x ∷ []) name)
last_value [] x n name = rw (same_test x name) (by (nat_eq name x))
  where
    by : (b : Bool) → (if b then Some n else None) ≡ (if b || false then Some (if b then n else suc n) else None)
    by true = refl
    by false = refl
last_value (e ∷ table) x n name = by (nat_eq name e.0) (last_value table x n name)
  where
    by : (b : Bool) → value_in (table ++ (x, n) ∷ []) name ≡ or_number (value_in table name) n (x ∷ []) name → (if b then Some e.1 else value_in (table ++ (x, n) ∷ []) name) ≡ or_number (if b then Some e.1 else value_in table name) n (x ∷ []) name
    by true ih = refl
    by false ih = ih

defined_value : (table : List (ℕ × ℕ)) (x n name : ℕ) (names : List ℕ)
    → or_number (value_in (defined table x n) name) (suc n) names name ≡ or_number (value_in table name) n (x ∷ names) name
defined_value table x n name names = by (value_in table name) refl (nat_eq x name) refl (is_none (value_in table x)) refl
  where
    none_of : (v : ℕ) → Some v ≡ None → ⊥
    none_of v h = cc

    by : (found : Option ℕ) → value_in table name ≡ found → (b : Bool) → nat_eq x name ≡ b → (new : Bool) → is_none (value_in table x) ≡ new
        → or_number (value_in (if new then table ++ (x, n) ∷ [] else table) name) (suc n) names name ≡ or_number found n (x ∷ names) name
    by (Some v) f b t true e = rw (last_value table x n name, f) refl
    by (Some v) f b t false e = rw f refl
    by None f true t true e = rw (last_value table x n name, f, t) refl
    by None f true t false e =
        let same : x ≡ name = grind (arith, nat_tests) in
        absurd (true≢false (sym (ap (λ (o : Option ℕ). is_none o) (ap (λ (m : ℕ). value_in table m) same ∙ f)) ∙ e))
    by None f false t true e = rw (last_value table x n name, f, t) refl
    by None f false t false e = rw (f, t) refl

found_with : (table : List (ℕ × ℕ)) (n : ℕ) (names : List ℕ) (name : ℕ)
    → value_in (numbers_with table n names) name ≡ or_number (value_in table name) n names name
found_with table n [] name = by (value_in table name)
  where
    by : (o : Option ℕ) → o ≡ or_number o n [] name
    by None = refl
    by (Some v) = refl
found_with table n (x ∷ names) name = found_with (defined table x n) (suc n) names name ∙ defined_value table x n name names

pub number_found : (names : List ℕ) (name : ℕ) → value_in (numbers_of names) name ≡ number_in names name
number_found names name = found_with [] 0 names name

pub among_is : (names : List ℕ) (name : ℕ) → is_some (number_in names name) ≡ is_among names name
among_is names name = by (is_among names name)
  where
    by : (b : Bool) → is_some (if b then Some (index_from 0 names name) else None) ≡ b
    by true = refl
    by false = refl

-- externs

pub extern_value : (externs : List ℕ) (table : List (ℕ × ℕ)) (name : ℕ)
    → value_in (with_externs externs table) name ≡ (if is_among externs name then Some 0 else value_in table name)
extern_value [] table name = refl
extern_value (x ∷ externs) table name = rw (same_test x name) (by (nat_eq name x) (extern_value externs table name))
  where
    by : (b : Bool) → value_in (with_externs externs table) name ≡ (if is_among externs name then Some 0 else value_in table name) → (if b then Some 0 else value_in (with_externs externs table) name)
        ≡ (if b || is_among externs name then Some 0 else value_in table name)
    by true ih = refl
    by false ih = ih

pub number_some : (table : List (ℕ × ℕ)) (names : List ℕ) (name n : ℕ) → table ≡ numbers_of names → value_in table name ≡ Some n → Some n ≡ number_in names name
number_some table names name n t h = sym (sym (number_found names name) ∙ ap (λ (es : List (ℕ × ℕ)). value_in es name) (sym t) ∙ h)

pub number_none : (table : List (ℕ × ℕ)) (names : List ℕ) (name : ℕ) → table ≡ numbers_of names → value_in table name ≡ None → None ≡ number_in names name
number_none table names name t h = sym (sym (number_found names name) ∙ ap (λ (es : List (ℕ × ℕ)). value_in es name) (sym t) ∙ h)

pub numbers_grown : (old new : List (ℕ × ℕ)) (names more : List ℕ) (name n : ℕ) → old ≡ numbers_of names → new ≡ defined old name n → n ≡ length names
    → more ≡ names ++ name ∷ [] → new ≡ numbers_of more
numbers_grown old new names more name n o d l m = d ∙ ap (λ (es : List (ℕ × ℕ)). defined es name n) o ∙ ap (defined (numbers_of names) name) l ∙ sym (numbers_more names name) ∙ ap numbers_of (sym m)
