-- Modes of files after a change, and what is known of a file that was found.
use Rattle.std.proofs.Common.{◌≡◌, ℕ, ◌≤◌, ◌<◌, ◌^◌, Bool, true, false, cond, not, List, [], ◌∷◌, filter, Some, None, nat_eq, refl, subst, arith}
use Rattle.std.proofs.lemmas.List.Elements.{All-same, All-head, All-tail, All-filter, All-map, All-weaker}
use Rattle.ctss_types.specs.Names.{NamePair}
use Rattle.ctss_types.specs.declared.file.FileBody.{FileBody}
use Rattle.file_model.specs.Files.{is_named, file_named, with_change, changed_if, lasting, tracks_of_words}
use Rattle.file_map.specs.Directory.{HaveModes}

abbrev pub HasMode : FileBody → Type 0
HasMode f = f.mode ≤ 3

pub few_words : (words used quota : ℕ) → tracks_of_words words ≤ used → used ≤ quota → quota < 65536 → words < 2 ^ 32
few_words words used quota h i j = omega arith

module _ (name : NamePair) where
  found_case : (g : FileBody) (gs : List FileBody) (f : FileBody) (b : Bool) → is_named name g ≡ b → HaveModes (g ∷ gs)
      → (file_named name gs ≡ Some f → f.mode ≤ 3) → file_named name (g ∷ gs) ≡ Some f → f.mode ≤ 3
  found_case g gs f true t modes ih = rw t (λ h.
      let is : g ≡ f = cc in
      subst HasMode is (All-head HasMode g gs modes))
  found_case g gs f false t modes ih = rw t (λ h. ih h)

  pub found_mode : (fs : List FileBody) (f : FileBody) → HaveModes fs → file_named name fs ≡ Some f → f.mode ≤ 3
  found_mode [] f modes h = absurd (none_some h)
    where
      none_some : None ≡ Some f → ⊥
      none_some h = cc
  found_mode (g ∷ gs) f modes h = found_case g gs f (is_named name g) refl modes (found_mode gs f (All-tail HasMode g gs modes)) h

  module _ (files after : List FileBody) (modes : HaveModes files) where
    pub modes_changed : (change : FileBody → FileBody) → ((f : FileBody) → f.mode ≤ 3 → (change f).mode ≤ 3) → after ≡ with_change name change files → HaveModes after
    modes_changed change keeps is =
        All-same HasMode after (with_change name change files) is
        (All-map HasMode (changed_if name change) files
        (All-weaker HasMode (λ f. HasMode (changed_if name change f)) (λ f h. either (is_named name f) f h) files modes))
      where
        either : (b : Bool) (f : FileBody) → f.mode ≤ 3 → (cond b (change f) f).mode ≤ 3
        either true f h = keeps f h
        either false f h = h

    pub modes_gone : after ≡ filter (λ f. not (is_named name f)) files → HaveModes after
    modes_gone is = All-same HasMode after _ is (All-filter (λ f. not (is_named name f)) HasMode files modes)

pub modes_lasting : (files after : List FileBody) → HaveModes files → after ≡ lasting files → HaveModes after
modes_lasting files after modes is = All-same HasMode after _ is (All-filter (λ (f : FileBody). not (nat_eq f.mode 0)) HasMode files modes)
