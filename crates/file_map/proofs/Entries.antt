-- Entries of a table, and the files that they stand for.
use Rattle.std.proofs.Common.{◌≡◌, Bool, true, false, not, cond, List, [], ◌∷◌, ◌++◌, map, filter, Option, Some, None, refl, sym, ap, ap₂, subst, ◌∙◌, nat_eq}
use Rattle.std.specs.Option.{option_map}
use Rattle.std.specs.Map.{lookup, keys_of, set_value, remove_entry}
use Rattle.std.specs.List.{IsDistinct, AllByRecursion}
use Rattle.std.proofs.lemmas.Map.Keys.{IsDistinct-head, IsDistinct-tail}
use Rattle.indexmap.specs.IndexMap.{insert_entry}
use Rattle.ctss_types.specs.Names.{NamePair}
use Rattle.ctss_types.specs.declared.file.FileBody.{FileBody}
use Rattle.file_model.specs.Files.{same_name, is_named, file_named, with_change, lasting}
use Rattle.file_map.specs.Directory.{NamesDiffer}
use Rattle.file_map.specs.Listing.{row_of, listing_of}
use Rattle.file_map.specs.declared.port.ListingRow.{ListingRow}
use Rattle.file_map.specs.Table.{body_of, files_of}
use Rattle.file_map.specs.declared.table.StoredFile.{StoredFile}
use Rattle.file_map.proofs.Names.{same_comm, same_is, IsWithout, unchanged, same_change, all_kept, without_head, no_file}

abbrev pub Entry : Type 0
Entry = NamePair × StoredFile

-- the names of the files are the keys
pub names_are : (es : List Entry) → map (λ (f : FileBody). f.name) (files_of es) ≡ keys_of es
names_are [] = refl
names_are (e ∷ es) = ap (λ (ns : List NamePair). e.0 ∷ ns) (names_are es)

pub names_differ : (es : List Entry) → IsDistinct same_name (keys_of es) → NamesDiffer (files_of es)
names_differ es h = subst (IsDistinct same_name) (sym (names_are es)) h

module _ (name : NamePair) where
  -- looking a name up gives its file
  found_case : (e : Entry) (es : List Entry) (b : Bool) → same_name name e.0 ≡ b
      → file_named name (files_of es) ≡ option_map (λ v. body_of (name, v)) (lookup (same_name name) es)
      → file_named name (files_of (e ∷ es)) ≡ option_map (λ v. body_of (name, v)) (lookup (same_name name) (e ∷ es))
  found_case e es true t ih = rw (same_comm e.0 name, t) (ap (λ n. Some (body_of (n, e.1))) (sym (same_is name e.0 t)))
  found_case e es false t ih = rw (same_comm e.0 name, t) ih

  pub found : (es : List Entry) → file_named name (files_of es) ≡ option_map (λ v. body_of (name, v)) (lookup (same_name name) es)
  found [] = refl
  found (e ∷ es) = found_case e es (same_name name e.0) refl (found es)

  pub found_in : (es : List Entry) (old : List FileBody) (v : StoredFile) → files_of es ≡ old → Some v ≡ lookup (same_name name) es → file_named name old ≡ Some (body_of (name, v))
  found_in es old v is h = ap (file_named name) (sym is) ∙ found es ∙ ap (option_map (λ v. body_of (name, v))) (sym h)

  pub not_in : (es : List Entry) (old : List FileBody) → files_of es ≡ old → file_named name old ≡ None → lookup (same_name name) es ≡ None
  not_in es old is h = by (lookup (same_name name) es) (sym (found es) ∙ ap (file_named name) is ∙ h)
    where
      by : (r : Option StoredFile) → option_map (λ v. body_of (name, v)) r ≡ None → r ≡ None
      by None e = refl
      by (Some v) e = absurd (no_file _ e)

  -- behind its entry there is no other of the name
  apart : (es : List Entry) → AllByRecursion (λ k. same_name name k ≡ false) (keys_of es) → IsWithout name (files_of es)
  apart [] h = refl
  apart (e ∷ es) h = rw (same_comm e.0 name, h.0) (apart es h.1)

  pub behind : (e : Entry) (es : List Entry) → same_name name e.0 ≡ true → IsDistinct same_name (keys_of (e ∷ es)) → IsWithout name (files_of es)
  behind e es t d =
      let all : AllByRecursion (λ k. same_name e.0 k ≡ false) (keys_of es) = IsDistinct-head same_name e.0 (keys_of es) d in
      apart es (subst (λ n. AllByRecursion (λ k. same_name n k ≡ false) (keys_of es)) (sym (same_is name e.0 t)) all)

  -- a new name goes last
  added_case : (v : StoredFile) (e : Entry) (es : List Entry)
      → (IsWithout name (files_of es) → files_of (insert_entry same_name es name v) ≡ files_of es ++ body_of (name, v) ∷ [])
      → (is_named name (body_of e) ≡ false) × IsWithout name (files_of es)
      → files_of (insert_entry same_name (e ∷ es) name v) ≡ files_of (e ∷ es) ++ body_of (name, v) ∷ []
  added_case v e es ih h =
      let other : same_name name e.0 ≡ false = same_comm name e.0 ∙ h.0 in
      rw other (ap (λ (fs : List FileBody). body_of e ∷ fs) (ih h.1))

  pub added : (v : StoredFile) (es : List Entry) → IsWithout name (files_of es) → files_of (insert_entry same_name es name v) ≡ files_of es ++ body_of (name, v) ∷ []
  added v [] h = refl
  added v (e ∷ es) h = added_case v e es (added v es) (without_head name (body_of e) (files_of es) h)

  -- a file changed in its place
  module _ (change : FileBody → FileBody) (v w : StoredFile) (changes : body_of (name, w) ≡ change (body_of (name, v))) where
    set_case : (e : Entry) (es : List Entry) (b : Bool) → same_name name e.0 ≡ b → IsDistinct same_name (keys_of (e ∷ es))
        → (lookup (same_name name) es ≡ Some v → files_of (set_value (same_name name) es w) ≡ with_change name change (files_of es))
        → lookup (same_name name) (e ∷ es) ≡ Some v → files_of (set_value (same_name name) (e ∷ es) w) ≡ with_change name change (files_of (e ∷ es))
    set_case e es true t d ih = rw (same_comm e.0 name, t) (λ h.
        let is : name ≡ e.0 = same_is name e.0 t in
        let had : e.1 ≡ v = cc in
        let head : body_of (e.0, w) ≡ change (body_of e) = ap (λ n. body_of (n, w)) (sym is) ∙ changes ∙ ap₂ (λ n u. change (body_of (n, u))) is (sym had) in
        ap₂ (λ (x : FileBody) (xs : List FileBody). x ∷ xs) head (sym (unchanged name change (files_of es) (behind e es t d))))
    set_case e es false t d ih = rw (same_comm e.0 name, t) (λ h. ap (λ (fs : List FileBody). body_of e ∷ fs) (ih h))

    pub changed : (es : List Entry) → IsDistinct same_name (keys_of es) → lookup (same_name name) es ≡ Some v
        → files_of (set_value (same_name name) es w) ≡ with_change name change (files_of es)
    changed [] d h = refl
    changed (e ∷ es) d h = set_case e es (same_name name e.0) refl d (changed es (IsDistinct-tail same_name e.0 (keys_of es) d)) h

    -- the same of a table, whose files were `old`
    pub written_through : (es after : List Entry) (old : List FileBody) → files_of es ≡ old → IsDistinct same_name (keys_of es) → Some v ≡ lookup (same_name name) es
        → after ≡ set_value (same_name name) es w → files_of after ≡ with_change name change old
    written_through es after old is d h set = ap files_of set ∙ changed es d (sym h) ∙ ap (with_change name change) is

  -- words in other memory are the same words
  pub rewritten : (es after : List Entry) (old : List FileBody) (v w : StoredFile) → body_of (name, w) ≡ body_of (name, v) → files_of es ≡ old
      → IsDistinct same_name (keys_of es) → Some v ≡ lookup (same_name name) es → after ≡ set_value (same_name name) es w → files_of after ≡ old
  rewritten es after old v w same is d h set = written_through (λ f. f) v w same es after old is d h set ∙ same_change name old

  -- with no file of the name nothing is changed
  pub none_changed : (change : FileBody → FileBody) (es : List Entry) (old : List FileBody) → files_of es ≡ old → None ≡ lookup (same_name name) es
      → files_of es ≡ with_change name change old
  none_changed change es old is h =
      let none : IsWithout name (files_of es) = found es ∙ ap (option_map (λ v. body_of (name, v))) (sym h) in
      sym (unchanged name change (files_of es) none) ∙ ap (with_change name change) is

  -- a file taken out
  removed_case : (e : Entry) (es : List Entry) (b : Bool) → same_name name e.0 ≡ b → IsDistinct same_name (keys_of (e ∷ es))
      → files_of (remove_entry (same_name name) es) ≡ filter (λ f. not (is_named name f)) (files_of es)
      → files_of (remove_entry (same_name name) (e ∷ es)) ≡ filter (λ f. not (is_named name f)) (files_of (e ∷ es))
  removed_case e es true t d ih = rw (same_comm e.0 name, t) (sym (all_kept name (files_of es) (behind e es t d)))
  removed_case e es false t d ih = rw (same_comm e.0 name, t) (ap (λ (fs : List FileBody). body_of e ∷ fs) ih)

  pub removed : (es : List Entry) → IsDistinct same_name (keys_of es) → files_of (remove_entry (same_name name) es) ≡ filter (λ f. not (is_named name f)) (files_of es)
  removed [] d = refl
  removed (e ∷ es) d = removed_case e es (same_name name e.0) refl d (removed es (IsDistinct-tail same_name e.0 (keys_of es) d))

-- files of mode 0 taken out
kept_case : (e : Entry) (b : Bool) (es : List Entry) (fs : List FileBody) → files_of es ≡ fs → files_of (cond b (e ∷ es) es) ≡ cond b (body_of e ∷ fs) fs
kept_case e true es fs h = ap (λ (xs : List FileBody). body_of e ∷ xs) h
kept_case e false es fs h = h

pub kept : (es : List Entry) → files_of (filter (λ (e : Entry). not (nat_eq e.1.mode 0)) es) ≡ lasting (files_of es)
kept [] = refl
kept (e ∷ es) = kept_case e (not (nat_eq e.1.mode 0)) (filter (λ (e : Entry). not (nat_eq e.1.mode 0)) es) (lasting (files_of es)) (kept es)

-- a row for each entry
pub rows_are : (es : List Entry) → map (λ (e : Entry). row_of (body_of e)) es ≡ listing_of (files_of es)
rows_are [] = refl
rows_are (e ∷ es) = ap (λ (rows : List ListingRow). row_of (body_of e) ∷ rows) (rows_are es)
