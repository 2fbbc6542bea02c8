-- Names of files: when two are the same, and the file of a name in a list.
use Rattle.std.proofs.Common.{◌≡◌, ℕ, zero, suc, ◌<◌, Bool, true, false, not, cond, List, [], ◌∷◌, length, map, filter, take, get_or, Some, None, refl, sym, ap, ap₂, ◌∙◌, arith}
use Rattle.std.proofs.lemmas.Bool.Decides.{nat_tests}
use Rattle.std.specs.List.{AllByRecursion}
use Rattle.std.proofs.lemmas.Map.Keys.{IsDistinct-head, IsDistinct-tail}
use Rattle.ctss_types.specs.Names.{NamePair}
use Rattle.ctss_types.specs.contracts.name.FileNamePartialEq.TheImpl.{eq-value}
use Rattle.ctss_types.specs.declared.file.FileBody.{FileBody}
use Rattle.file_model.specs.Files.{same_name, is_named, file_named, with_change, changed_if}
use Rattle.file_map.specs.Directory.{NamesDiffer}

abbrev pub name_eq : NamePair → NamePair → Bool
name_eq = (eq-value).it

pub name_eq-is : (a b : NamePair) → name_eq a b ≡ same_name a b
name_eq-is a b = refl

pub same_comm : (a b : NamePair) → same_name a b ≡ same_name b a
same_comm a b = grind (arith, nat_tests)

pub same_here : (a : NamePair) → same_name a a ≡ true
same_here a = grind (arith, nat_tests)

pub same_is : (a b : NamePair) → same_name a b ≡ true → a ≡ b
same_is a b h =
    let p : a.first ≡ b.first = grind (arith, nat_tests) in
    let q : a.second ≡ b.second = grind (arith, nat_tests) in
    λ i. record { first = p i; second = q i }

-- a list without the name

pub no_file : (f : FileBody) → Some f ≡ None → ⊥
no_file f h = cc

module _ (name : NamePair) where
  -- a list that has no file of the name: its head has another name, and its tail has none
  abbrev pub IsWithout : List FileBody → Type 0
  IsWithout files = file_named name files ≡ None

  head_case : (f : FileBody) (fs : List FileBody) (b : Bool) → is_named name f ≡ b → IsWithout (f ∷ fs) → (is_named name f ≡ false) × IsWithout fs
  head_case f fs true t = rw t (λ h. absurd (no_file f h))
  head_case f fs false t = rw t (λ h. (refl, h))

  pub without_head : (f : FileBody) (fs : List FileBody) → IsWithout (f ∷ fs) → (is_named name f ≡ false) × IsWithout fs
  without_head f fs = head_case f fs (is_named name f) refl

  pub unchanged : (change : FileBody → FileBody) (fs : List FileBody) → IsWithout fs → with_change name change fs ≡ fs
  unchanged change [] h = refl
  unchanged change (f ∷ fs) h =
      let p = without_head f fs h in
      ap₂ (λ (x : FileBody) (xs : List FileBody). x ∷ xs) (ap (λ b. cond b (change f) f) p.0) (unchanged change fs p.1)

  same_if : (b : Bool) (f : FileBody) → cond b f f ≡ f
  same_if true f = refl
  same_if false f = refl

  pub same_change : (fs : List FileBody) → with_change name (λ f. f) fs ≡ fs
  same_change [] = refl
  same_change (f ∷ fs) = ap₂ (λ (x : FileBody) (xs : List FileBody). x ∷ xs) (same_if (is_named name f) f) (same_change fs)

  -- the name that a file has already
  module _ (to : NamePair) (same : to ≡ name) where
    own_case : (f : FileBody) (b : Bool) → is_named name f ≡ b → changed_if name (λ g. record g { name = to }) f ≡ f
    own_case f true t = rw t (ap (λ n. record f { name = n }) (same ∙ sym (same_is f.name name t)))
    own_case f false t = rw t refl

    pub own_name : (fs : List FileBody) → with_change name (λ g. record g { name = to }) fs ≡ fs
    own_name [] = refl
    own_name (f ∷ fs) = ap₂ (λ (x : FileBody) (xs : List FileBody). x ∷ xs) (own_case f (is_named name f) refl) (own_name fs)

  pub all_kept : (fs : List FileBody) → IsWithout fs → filter (λ f. not (is_named name f)) fs ≡ fs
  all_kept [] h = refl
  all_kept (f ∷ fs) h =
      let p = without_head f fs h in
      ap₂ (λ (b : Bool) (xs : List FileBody). cond (not b) (f ∷ xs) xs) p.0 (all_kept fs p.1)

-- in a list in which names differ, a file's name isn't there before it
all_at : (P : NamePair → Type 0) (fs : List FileBody) (i : ℕ) (d : FileBody) → AllByRecursion P (map (λ (f : FileBody). f.name) fs) → i < length fs → P (get_or fs i d).name
all_at P [] i d all h = absurd (omega arith)
all_at P (f ∷ fs) zero d all h = all.0
all_at P (f ∷ fs) (suc i) d all h = all_at P fs i d all.1 (omega arith)

pub not_before : (fs : List FileBody) (i : ℕ) (d : FileBody) → NamesDiffer fs → i < length fs → file_named (get_or fs i d).name (take i fs) ≡ None
not_before [] i d differ h = absurd (omega arith)
not_before (f ∷ fs) zero d differ h = refl
not_before (f ∷ fs) (suc i) d differ h =
    let names : List NamePair = map (λ (g : FileBody). g.name) fs in
    let other : same_name f.name (get_or fs i d).name ≡ false
    = all_at (λ n. same_name f.name n ≡ false) fs i d (IsDistinct-head same_name f.name names differ) (omega arith) in
    rw other (not_before fs i d (IsDistinct-tail same_name f.name names differ) (omega arith))

pub not_yet : (fs before : List FileBody) (i : ℕ) (item : FileBody) → NamesDiffer fs → i < length fs → item ≡ get_or fs i item → before ≡ take i fs
    → file_named item.name before ≡ None
not_yet fs before i item differ h is taken = ap₂ (λ (x : FileBody) (xs : List FileBody). file_named x.name xs) is taken ∙ not_before fs i item differ h
