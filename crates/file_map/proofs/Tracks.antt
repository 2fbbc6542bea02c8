-- Tracks of files.
use Rattle.std.proofs.Common.{◌≡◌, ℕ, ◌+◌, ◌≤◌, Bool, true, false, not, List, [], ◌∷◌, map, filter, length, sum, Some, None, nat_eq, refl, sym, ap, ap₂, subst, ◌∙◌, arith}
use Rattle.std.specs.Map.{values_of}
use Rattle.std.specs.List.{AllByRecursion}
use Rattle.std.proofs.lemmas.List.Sums.{sum_by-cons}
use Rattle.std.proofs.lemmas.Map.Keys.{IsDistinct-head, IsDistinct-tail}
use Rattle.ctss_types.specs.Names.{NamePair}
use Rattle.ctss_types.specs.declared.file.FileBody.{FileBody}
use Rattle.file_model.specs.Files.{same_name, is_named, file_named, with_change, lasting, tracks_of, tracks_of_words}
use Rattle.file_map.specs.Directory.{NamesDiffer}
use Rattle.file_map.specs.Table.{body_of, files_of}
use Rattle.file_map.specs.declared.table.StoredFile.{StoredFile}
use Rattle.file_map.proofs.Names.{same_comm, same_is, IsWithout, unchanged, all_kept}
use Rattle.file_map.proofs.Entries.{Entry}

-- the tracks of one file
abbrev pub tracks_for : FileBody → ℕ
tracks_for f = tracks_of_words (length f.words)

pub tracks-cons : (f : FileBody) (fs : List FileBody) → tracks_of (f ∷ fs) ≡ tracks_for f + tracks_of fs
tracks-cons f fs = sum_by-cons (λ n. n) (tracks_for f) (map tracks_for fs)

-- the tracks of files without their names
abbrev pub tracks_in : List StoredFile → ℕ
tracks_in files = sum (map (λ (f : StoredFile). tracks_of_words (length f.words.items)) files)

pub tracks_in-cons : (f : StoredFile) (fs : List StoredFile) → tracks_in (f ∷ fs) ≡ tracks_of_words (length f.words.items) + tracks_in fs
tracks_in-cons f fs = sum_by-cons (λ n. n) (tracks_of_words (length f.words.items)) (map (λ (f : StoredFile). tracks_of_words (length f.words.items)) fs)

pub tracks_in-values : (es : List Entry) → tracks_in (values_of es) ≡ tracks_of (files_of es)
tracks_in-values [] = refl
tracks_in-values (e ∷ es) =
    tracks_in-cons e.1 (values_of es) ∙ ap (λ n. tracks_of_words (length e.1.words.items) + n) (tracks_in-values es) ∙ sym (tracks-cons (body_of e) (files_of es))

-- sums

head_counts : (a h r : ℕ) → a ≡ h + r → h ≤ a
head_counts a h r e = omega arith

rest_counts : (a h r n : ℕ) → a ≡ h + r → n ≤ r → n ≤ a
rest_counts a h r n e le = omega arith

head_changes : (a b h k r : ℕ) → a ≡ k + r → b ≡ h + r → a + h ≡ b + k
head_changes a b h k r e f = omega arith

rest_changes : (a b g h k r s : ℕ) → a ≡ g + r → b ≡ g + s → r + h ≡ s + k → a + h ≡ b + k
rest_changes a b g h k r s e f i = omega arith

head_goes : (b h r : ℕ) → b ≡ h + r → r + h ≡ b
head_goes b h r e = omega arith

rest_goes : (a b g h r s : ℕ) → a ≡ g + r → b ≡ g + s → r + h ≡ s → a + h ≡ b
rest_goes a b g h r s e f i = omega arith

fewer : (a b g r s : ℕ) → a ≡ g + r → b ≡ g + s → r ≤ s → a ≤ b
fewer a b g r s e f i = omega arith

-- the file of a name

module _ (name : NamePair) where
  none_named : (fs : List FileBody) → AllByRecursion (λ k. same_name name k ≡ false) (map (λ (f : FileBody). f.name) fs) → IsWithout name fs
  none_named [] h = refl
  none_named (f ∷ fs) h = rw (same_comm f.name name, h.0) (none_named fs h.1)

  behind : (f : FileBody) (fs : List FileBody) → is_named name f ≡ true → NamesDiffer (f ∷ fs) → IsWithout name fs
  behind f fs t d =
      let names = map (λ (g : FileBody). g.name) fs in
      let all : AllByRecursion (λ k. same_name f.name k ≡ false) names = IsDistinct-head same_name f.name names d in
      none_named fs (subst (λ n. AllByRecursion (λ k. same_name n k ≡ false) names) (same_is f.name name t) all)

  tail_differs : (f : FileBody) (fs : List FileBody) → NamesDiffer (f ∷ fs) → NamesDiffer fs
  tail_differs f fs d = IsDistinct-tail same_name f.name (map (λ (g : FileBody). g.name) fs) d

  within_case : (g : FileBody) (gs : List FileBody) (f : FileBody) (b : Bool) → is_named name g ≡ b
      → (file_named name gs ≡ Some f → tracks_for f ≤ tracks_of gs) → file_named name (g ∷ gs) ≡ Some f → tracks_for f ≤ tracks_of (g ∷ gs)
  within_case g gs f true t ih = rw t (λ h.
      let is : g ≡ f = cc in
      subst (λ (x : FileBody). tracks_for x ≤ tracks_of (g ∷ gs)) is (head_counts _ _ _ (tracks-cons g gs)))
  within_case g gs f false t ih = rw t (λ h. rest_counts _ _ _ _ (tracks-cons g gs) (ih h))

  pub within : (fs : List FileBody) (f : FileBody) → file_named name fs ≡ Some f → tracks_for f ≤ tracks_of fs
  within [] f h = absurd (none_some h)
    where
      none_some : None ≡ Some f → ⊥
      none_some h = cc
  within (g ∷ gs) f h = within_case g gs f (is_named name g) refl (within gs f) h

  module _ (change : FileBody → FileBody) where
    changes_case : (g : FileBody) (gs : List FileBody) (f : FileBody) (b : Bool) → is_named name g ≡ b → NamesDiffer (g ∷ gs)
        → (file_named name gs ≡ Some f → tracks_of (with_change name change gs) + tracks_for f ≡ tracks_of gs + tracks_for (change f))
        → file_named name (g ∷ gs) ≡ Some f → tracks_of (with_change name change (g ∷ gs)) + tracks_for f ≡ tracks_of (g ∷ gs) + tracks_for (change f)
    changes_case g gs f true t d ih = rw t (λ h.
        let is : g ≡ f = cc in
        let rest : with_change name change gs ≡ gs = unchanged name change gs (behind g gs t d) in
        let now : tracks_of (change g ∷ with_change name change gs) ≡ tracks_for (change g) + tracks_of gs
        = tracks-cons (change g) (with_change name change gs) ∙ ap (λ (xs : List FileBody). tracks_for (change g) + tracks_of xs) rest in
        subst (λ (x : FileBody). tracks_of (change g ∷ with_change name change gs) + tracks_for x ≡ tracks_of (g ∷ gs) + tracks_for (change x)) is
        (head_changes _ _ _ _ _ now (tracks-cons g gs)))
    changes_case g gs f false t d ih = rw t (λ h.
        rest_changes _ _ _ _ _ _ _ (tracks-cons g (with_change name change gs)) (tracks-cons g gs) (ih h))

    pub tracks_changed : (fs : List FileBody) (f : FileBody) → NamesDiffer fs → file_named name fs ≡ Some f
        → tracks_of (with_change name change fs) + tracks_for f ≡ tracks_of fs + tracks_for (change f)
    tracks_changed [] f d h = absurd (none_some h)
      where
        none_some : None ≡ Some f → ⊥
        none_some h = cc
    tracks_changed (g ∷ gs) f d h = changes_case g gs f (is_named name g) refl d (tracks_changed gs f (tail_differs g gs d)) h

    -- where no length changes, no tracks do
    same_case : (g : FileBody) (gs : List FileBody) (b : Bool) → is_named name g ≡ b → tracks_for (change g) ≡ tracks_for g
        → tracks_of (with_change name change gs) ≡ tracks_of gs → tracks_of (with_change name change (g ∷ gs)) ≡ tracks_of (g ∷ gs)
    same_case g gs true t s ih = rw t (tracks-cons (change g) (with_change name change gs) ∙ ap₂ ◌+◌ s ih ∙ sym (tracks-cons g gs))
    same_case g gs false t s ih = rw t (tracks-cons g (with_change name change gs) ∙ ap (λ n. tracks_for g + n) ih ∙ sym (tracks-cons g gs))

    pub tracks_stay : ((f : FileBody) → tracks_for (change f) ≡ tracks_for f) → (fs : List FileBody) → tracks_of (with_change name change fs) ≡ tracks_of fs
    tracks_stay s [] = refl
    tracks_stay s (g ∷ gs) = same_case g gs (is_named name g) refl (s g) (tracks_stay s gs)

  goes_case : (g : FileBody) (gs : List FileBody) (f : FileBody) (b : Bool) → is_named name g ≡ b → NamesDiffer (g ∷ gs)
      → (file_named name gs ≡ Some f → tracks_of (filter (λ x. not (is_named name x)) gs) + tracks_for f ≡ tracks_of gs)
      → file_named name (g ∷ gs) ≡ Some f → tracks_of (filter (λ x. not (is_named name x)) (g ∷ gs)) + tracks_for f ≡ tracks_of (g ∷ gs)
  goes_case g gs f true t d ih = rw t (λ h.
      let is : g ≡ f = cc in
      let rest : filter (λ x. not (is_named name x)) gs ≡ gs = all_kept name gs (behind g gs t d) in
      subst (λ (x : FileBody). tracks_of (filter (λ x. not (is_named name x)) gs) + tracks_for x ≡ tracks_of (g ∷ gs)) is
      (ap (λ (xs : List FileBody). tracks_of xs + tracks_for g) rest ∙ head_goes _ _ _ (tracks-cons g gs)))
  goes_case g gs f false t d ih = rw t (λ h.
      rest_goes _ _ _ _ _ _ (tracks-cons g (filter (λ x. not (is_named name x)) gs)) (tracks-cons g gs) (ih h))

  pub tracks_gone : (fs : List FileBody) (f : FileBody) → NamesDiffer fs → file_named name fs ≡ Some f
      → tracks_of (filter (λ x. not (is_named name x)) fs) + tracks_for f ≡ tracks_of fs
  tracks_gone [] f d h = absurd (none_some h)
    where
      none_some : None ≡ Some f → ⊥
      none_some h = cc
  tracks_gone (g ∷ gs) f d h = goes_case g gs f (is_named name g) refl d (tracks_gone gs f (tail_differs g gs d)) h

-- without the files of mode 0
fewer_case : (g : FileBody) (gs : List FileBody) (b : Bool) → nat_eq g.mode 0 ≡ b → tracks_of (lasting gs) ≤ tracks_of gs → tracks_of (lasting (g ∷ gs)) ≤ tracks_of (g ∷ gs)
fewer_case g gs true t ih = rw t (rest_counts _ _ _ _ (tracks-cons g gs) ih)
fewer_case g gs false t ih = rw t (fewer _ _ _ _ _ (tracks-cons g (lasting gs)) (tracks-cons g gs) ih)

pub tracks_lasting : (fs : List FileBody) → tracks_of (lasting fs) ≤ tracks_of fs
tracks_lasting [] = omega arith
tracks_lasting (g ∷ gs) = fewer_case g gs (nat_eq g.mode 0) refl (tracks_lasting gs)
