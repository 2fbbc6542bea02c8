-- A file taken out and put back in its place under another name.
use Rattle.std.proofs.Common.{◌≡◌, ℕ, suc, ◌+◌, Bool, true, false, cond, List, [], ◌∷◌, ◌++◌, length, Some, None, refl, sym, ap, ap₂, ◌∙◌, arith, nat_lt, slice_get, insert, remove}
use Rattle.std.specs.Option.{option_map_or}
use Rattle.std.specs.Map.{lookup, keys_of, remove_entry}
use Rattle.std.specs.List.{IsDistinct, position_or_len, position}
use Rattle.std.proofs.lemmas.Map.Keys.{IsDistinct-tail}
use Rattle.std.proofs.lemmas.Bool.Decides.{nat_tests}
use Rattle.indexmap.specs.IndexMap.{move_index, insert_entry}
use Rattle.indexmap.proofs.MapLemmas.{absent_from_lookup, insert_entry-absent}
use Rattle.ctss_types.specs.Names.{NamePair}
use Rattle.ctss_types.specs.declared.file.FileBody.{FileBody}
use Rattle.file_model.specs.Files.{same_name, file_named, with_change}
use Rattle.file_map.specs.Table.{body_of, files_of}
use Rattle.file_map.specs.declared.table.StoredFile.{StoredFile}
use Rattle.file_map.proofs.Names.{same_comm, unchanged}
use Rattle.file_map.proofs.Entries.{Entry, behind, not_in}

one_more : (n : ℕ) → 1 + n ≡ suc n
one_more n = omega arith

-- what stood last, moved to a place
module _ {X : Type 0} (x : X) where
  last_is : (xs : List X) → slice_get (xs ++ x ∷ []) (length xs) ≡ Some x
  last_is [] = refl
  last_is (y ∷ xs) = last_is xs

  without_last : (xs : List X) → remove (xs ++ x ∷ []) (length xs) ≡ xs
  without_last [] = refl
  without_last (y ∷ xs) = ap (λ (l : List X). y ∷ l) (without_last xs)

  pub moved_last : (xs : List X) (at : ℕ) → move_index (xs ++ x ∷ []) (length xs) at ≡ insert xs at x
  moved_last xs at =
      ap (λ o. option_map_or (λ y. insert (remove (xs ++ x ∷ []) (length xs)) at y) o (xs ++ x ∷ [])) (last_is xs)
      ∙ ap (λ l. insert l at x) (without_last xs)

-- a name that isn't there is looked for to the end
module _ (test : NamePair → Bool) where
  end_case : (e : Entry) (es : List Entry) (b : Bool) → test e.0 ≡ b → (lookup test es ≡ None → position_or_len test (keys_of es) ≡ length es)
      → lookup test (e ∷ es) ≡ None → position_or_len test (keys_of (e ∷ es)) ≡ length (e ∷ es)
  end_case e es true t ih = rw t (λ h. absurd (some_none h))
    where
      some_none : Some e.1 ≡ None → ⊥
      some_none h = cc
  end_case e es false t ih = rw t (λ h. one_more _ ∙ ap suc (ih h))

  pub at_end : (es : List Entry) → lookup test es ≡ None → position_or_len test (keys_of es) ≡ length es
  at_end [] h = refl
  at_end (e ∷ es) h = end_case e es (test e.0) refl (at_end es) h

-- a name that isn't there isn't there without another
module _ (name to : NamePair) where
  absent_case : (e : Entry) (es : List Entry) (a b : Bool) → same_name to e.0 ≡ a → same_name name e.0 ≡ b
      → (lookup (same_name to) es ≡ None → lookup (same_name to) (remove_entry (same_name name) es) ≡ None)
      → lookup (same_name to) (e ∷ es) ≡ None → lookup (same_name to) (remove_entry (same_name name) (e ∷ es)) ≡ None
  absent_case e es true b s t ih = rw s (λ h. absurd (some_none h))
    where
      some_none : Some e.1 ≡ None → ⊥
      some_none h = cc
  absent_case e es false true s t ih = rw (s, t) (λ h. h)
  absent_case e es false false s t ih = rw (s, t) (λ h. rw s (ih h))

  still_absent : (es : List Entry) → lookup (same_name to) es ≡ None → lookup (same_name to) (remove_entry (same_name name) es) ≡ None
  still_absent [] h = refl
  still_absent (e ∷ es) h = absent_case e es (same_name to e.0) (same_name name e.0) refl refl (still_absent es) h

  pub absent_after : (es before rest : List Entry) (old : List FileBody) → files_of es ≡ old → file_named to old ≡ None
      → before ≡ es → rest ≡ remove_entry (same_name name) before → lookup (same_name to) rest ≡ None
  absent_after es before rest old is none same gone =
      ap (lookup (same_name to)) (gone ∙ ap (remove_entry (same_name name)) same) ∙ still_absent es (not_in to es old is none)

some_position : (p n i : ℕ) → Some i ≡ cond (nat_lt p n) (Some p) None → p ≡ i
some_position p n i h = grind (arith, nat_tests)

module _ (name to : NamePair) (v : StoredFile) where
  abbrev renaming : FileBody → FileBody
  renaming f = record f { name = to }

  abbrev place : List Entry → ℕ
  place es = position_or_len (same_name name) (keys_of es)

  placed_case : (e : Entry) (es : List Entry) (b : Bool) → same_name name e.0 ≡ b → IsDistinct same_name (keys_of (e ∷ es))
      → (lookup (same_name name) es ≡ Some v → files_of (insert (remove_entry (same_name name) es) (place es) (to, v)) ≡ with_change name renaming (files_of es))
      → lookup (same_name name) (e ∷ es) ≡ Some v
      → files_of (insert (remove_entry (same_name name) (e ∷ es)) (place (e ∷ es)) (to, v)) ≡ with_change name renaming (files_of (e ∷ es))
  placed_case e es true t d ih = rw (same_comm e.0 name, t) (λ h.
      let had : v ≡ e.1 = cc in
      ap₂ (λ (x : FileBody) (xs : List FileBody). x ∷ xs) (ap (λ u. body_of (to, u)) had) (sym (unchanged name renaming (files_of es) (behind name e es t d))))
  placed_case e es false t d ih = rw (same_comm e.0 name, t) (λ h.
      ap (λ n. files_of (insert (e ∷ remove_entry (same_name name) es) n (to, v))) (one_more (place es)) ∙ ap (λ (fs : List FileBody). body_of e ∷ fs) (ih h))

  pub placed : (es : List Entry) → IsDistinct same_name (keys_of es) → lookup (same_name name) es ≡ Some v
      → files_of (insert (remove_entry (same_name name) es) (place es) (to, v)) ≡ with_change name renaming (files_of es)
  placed [] d h = absurd (none_some h)
    where
      none_some : None ≡ Some v → ⊥
      none_some h = cc
  placed (e ∷ es) d h = placed_case e es (same_name name e.0) refl d (placed es (IsDistinct-tail same_name e.0 (keys_of es) d)) h

  pub put_back : (es before rest after : List Entry) (at : ℕ) (old : List FileBody) → files_of es ≡ old → before ≡ es → IsDistinct same_name (keys_of before)
      → Some v ≡ lookup (same_name name) before → Some at ≡ position (same_name name) (keys_of before) → rest ≡ remove_entry (same_name name) before
      → lookup (same_name to) rest ≡ None → after ≡ move_index (insert_entry same_name rest to v) (position_or_len (same_name to) (keys_of rest)) at
      → files_of after ≡ with_change name renaming old
  put_back es before rest after at old is same d h p gone none back =
      let here : place before ≡ at = some_position _ _ _ p in
      let last : insert_entry same_name rest to v ≡ rest ++ (to, v) ∷ [] = insert_entry-absent same_name to v rest (absent_from_lookup (same_name to) rest none) in
      let moved : after ≡ insert rest at (to, v) = back ∙ ap₂ (λ (xs : List Entry) n. move_index xs n at) last (at_end (same_name to) rest none) ∙ moved_last (to, v) rest at in
      ap files_of moved ∙ ap₂ (λ (xs : List Entry) n. files_of (insert xs n (to, v))) gone (sym here) ∙ placed before d (sym h) ∙ ap (λ (xs : List Entry). with_change name renaming (files_of xs)) same ∙ ap (with_change name renaming) is
