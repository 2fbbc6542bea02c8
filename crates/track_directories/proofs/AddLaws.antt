-- A file that is put behind the others of a directory, with its mode.
use Rattle.std.specs.Prelude.{Bool, true, false, Option, Some, None, Ok, Err, filter, cond}
use Rattle.std.proofs.Common.{◌≡◌, ℕ, ◌+◌, ◌≤◌, ◌<◌, List, [], ◌∷◌, ◌++◌, map, take, drop, length, replicate, get_or, nat_eq, nat_lt, nat_le, refl, sym, ◌∙◌, ap, ap₂, subst, arith, inl, inr}
use Rattle.std.proofs.lemmas.List.{map-append, length-replicate, take-append-drop, take_at, take_more, drop_more, length-append}
use Rattle.std.proofs.lemmas.Bool.{cases_eq}
use Rattle.std.proofs.lemmas.Bool.Decides.{nat_tests}
use Rattle.ctss_types.specs.Names.{NamePair}
use Rattle.ctss_types.specs.declared.file.FileBody.{FileBody}
use Rattle.ctss_types.specs.declared.file.OwnedFile.{OwnedFile}
use Rattle.ctss_types.specs.declared.file.Refusal.TheVariants.{Quota, BadMode}
use Rattle.file_model.specs.Files.{file_named, with_new, with_change, put, put_of, moded, moded_of, tracks_of, tracks_of_words}
use Rattle.file_model.specs.Owned.{files_of}
use Rattle.file_model.proofs.Owned.{files_of_both, files_of_own, files_of_other, tracks_of_both}
use Rattle.track_directories.specs.Directories.{DirectoriesState, KeepsUsers, LeavesRest}
use Rattle.track_directories.specs.Firsts.{AreFirst, CanAdd, IsAdded}
use Rattle.file_map.specs.Directory.{NamesDiffer}
use Rattle.file_map.specs.Known.{blank, known, known_of}
use Rattle.file_map.proofs.Tracks.{tracks-cons}
use Rattle.file_map.proofs.Names.{same_here, without_head, unchanged, not_before}

blank_twice : (fs : List FileBody) → map blank (map blank fs) ≡ map blank fs
blank_twice [] = refl
blank_twice (f ∷ fs) = λ j. record f { words = replicate (length-replicate {A = ℕ} (length f.words) 0 j) 0 } ∷ blank_twice fs j

-- what is known of known files with one more
pub known_more : (t : Bool) (fs : List FileBody) (f : FileBody) → known t (known t fs ++ f ∷ []) ≡ known t (fs ++ f ∷ [])
unfolding known
known_more true fs f = refl
known_more false fs f =
    map-append blank (map blank fs) (f ∷ [])
    ∙ ap (λ (xs : List FileBody). xs ++ blank f ∷ []) (blank_twice fs)
    ∙ sym (map-append blank fs (f ∷ []))

absent_blank : (name : NamePair) (fs : List FileBody) → file_named name fs ≡ None → file_named name (map blank fs) ≡ None
absent_blank name [] h = refl
absent_blank name (f ∷ fs) h = let p = without_head name f fs h in ap (λ (b : Bool). cond b (Some (blank f)) (file_named name (map blank fs))) p.0 ∙ absent_blank name fs p.1

-- known files have the same names
pub absent_known : (t : Bool) (name : NamePair) (fs : List FileBody) → file_named name fs ≡ None → file_named name (known t fs) ≡ None
unfolding known
absent_known true name fs h = h
absent_known false name fs h = absent_blank name fs h

tracks_blank : (fs : List FileBody) → tracks_of (map blank fs) ≡ tracks_of fs
tracks_blank [] = refl
tracks_blank (f ∷ fs) =
    tracks-cons (blank f) (map blank fs)
    ∙ ap₂ (λ (n k : ℕ). tracks_of_words n + k) (length-replicate {A = ℕ} (length f.words) 0) (tracks_blank fs)
    ∙ sym (tracks-cons f fs)

-- and take as many tracks
pub tracks_known : (t : Bool) (fs : List FileBody) (f : FileBody) → tracks_of (known t fs ++ f ∷ []) ≡ tracks_of (fs ++ f ∷ [])
unfolding known
tracks_known true fs f = refl
tracks_known false fs f = tracks_of_both (map blank fs) (f ∷ []) ∙ ap (λ (n : ℕ). n + tracks_of (f ∷ [])) (tracks_blank fs) ∙ sym (tracks_of_both fs (f ∷ []))

module _ (name : NamePair) (fs : List FileBody) (absent : file_named name fs ≡ None) where
  abbrev file_of : ℕ → List ℕ → FileBody
  file_of mode words = record { name = name; mode = mode; words = words }

  put_new : (words : List ℕ) (quota : ℕ) → tracks_of (fs ++ file_of 1 words ∷ []) ≤ quota → put name words quota fs ≡ Ok (with_new name words fs)
  put_new words quota fits =
      ap (λ (o : Option FileBody). put_of o name words quota fs) absent
      ∙ ap (λ (b : Bool). cond b (Ok (with_new name words fs)) (Err Quota)) (let fit : nat_le (tracks_of (fs ++ file_of 1 words ∷ [])) quota ≡ true = grind (arith, nat_tests) in fit)

  named_last : (words : List ℕ) (gs : List FileBody) → file_named name gs ≡ None → file_named name (gs ++ file_of 1 words ∷ []) ≡ Some (file_of 1 words)
  named_last words [] h = ap (λ (b : Bool). cond b (Some (file_of 1 words)) None) (same_here name)
  named_last words (g ∷ gs) h =
      let p = without_head name g gs h in
      ap (λ (b : Bool). cond b (Some g) (file_named name (gs ++ file_of 1 words ∷ []))) p.0 ∙ named_last words gs p.1

  last_changed : (mode : ℕ) (words : List ℕ) → with_change name (λ g. record g { mode = mode }) (fs ++ file_of 1 words ∷ []) ≡ fs ++ file_of mode words ∷ []
  last_changed mode words =
      map-append _ fs (file_of 1 words ∷ [])
      ∙ ap₂ (λ (xs : List FileBody) (b : Bool). xs ++ cond b (file_of mode words) (file_of 1 words) ∷ []) (unchanged name (λ g. record g { mode = mode }) fs absent) (same_here name)

  moded_last : (mode : ℕ) (words : List ℕ) → mode ≤ 3 → moded name mode (fs ++ file_of 1 words ∷ []) ≡ Ok (fs ++ file_of mode words ∷ [])
  moded_last mode words low =
      ap (λ (o : Option FileBody). moded_of o name mode (fs ++ file_of 1 words ∷ [])) (named_last words fs absent)
      ∙ ap (λ (b : Bool). cond b (Err BadMode) (Ok (with_change name (λ g. record g { mode = mode }) (fs ++ file_of 1 words ∷ [])))) (let few : nat_lt 3 mode ≡ false = grind (arith, nat_tests) in few)
      ∙ ap Ok (last_changed mode words)

  moded_known : (t : Bool) (mode : ℕ) (words : List ℕ) → known t fs ≡ fs → mode ≤ 3
      → moded name mode (known t (fs ++ file_of 1 words ∷ [])) ≡ Ok (known t (fs ++ file_of mode words ∷ []))
  unfolding known
  moded_known true mode words is low = moded_last mode words low
  moded_known false mode words is low =
      ap (moded name mode) (map-append blank fs (file_of 1 words ∷ []) ∙ ap (λ (xs : List FileBody). xs ++ file_of 1 (replicate (length words) 0) ∷ []) is)
      ∙ moded_last mode (replicate (length words) 0) low
      ∙ ap Ok (sym (map-append blank fs (file_of mode words ∷ []) ∙ ap (λ (xs : List FileBody). xs ++ file_of mode (replicate (length words) 0) ∷ []) is))

  -- a file that fits is made, with mode 1
  pub put_told : (t : Bool) (words : List ℕ) (quota : ℕ) → tracks_of (with_new name words fs) ≤ quota → known_of t (put name words quota fs) ≡ Ok (known t (with_new name words fs))
  put_told t words quota fits = ap (known_of t) (put_new words quota fits)

  -- which takes as many tracks as with its mode
  pub new_fits : (mode : ℕ) (words : List ℕ) (quota : ℕ) → tracks_of (fs ++ file_of mode words ∷ []) ≤ quota → tracks_of (with_new name words fs) ≤ quota
  new_fits mode words quota fits =
      let a = tracks_of_both fs (file_of mode words ∷ []) in
      let b = tracks_of_both fs (file_of 1 words ∷ []) in
      let p = tracks-cons (file_of mode words) [] in
      let q = tracks-cons (file_of 1 words) [] in
      omega (arith, a, b, p, q, fits)

  -- and gets its mode
  pub mode_told : (t : Bool) (mode : ℕ) (words : List ℕ) → known t fs ≡ fs → mode ≤ 3 → (mid : List FileBody) → mid ≡ known t (with_new name words fs)
      → moded name mode mid ≡ Ok (known t (fs ++ file_of mode words ∷ []))
  mode_told t mode words is low mid left = ap (moded name mode) left ∙ moded_known t mode words is low

-- the files of a user, and one of them in its place
module _ (files : List OwnedFile) (k : ℕ) (f : OwnedFile) (low : k < length files) (is : f ≡ get_or files k f) where
  split : files ≡ take k files ++ f ∷ drop (k + 1) files
  split =
      sym (take-append-drop k files)
      ∙ ap (λ (xs : List OwnedFile). take k files ++ xs) (drop_more files k f low ∙ ap (λ (x : OwnedFile). x ∷ drop (k + 1) files) (sym is))

  pub one_more : take (k + 1) files ≡ take k files ++ f ∷ []
  one_more = take_more files k f low ∙ ap (λ (x : OwnedFile). take k files ++ x ∷ []) (sym is)

  own_first : files_of f.owner (f ∷ drop (k + 1) files) ≡ f.body ∷ files_of f.owner (drop (k + 1) files)
  own_first = ap (λ (b : Bool). map (λ (g : OwnedFile). g.body) (cond b (f ∷ filter (λ (g : OwnedFile). nat_eq g.owner f.owner) (drop (k + 1) files)) (filter (λ (g : OwnedFile). nat_eq g.owner f.owner) (drop (k + 1) files)))) (let same : nat_eq f.owner f.owner ≡ true = grind (arith, nat_tests) in same)

  own_split : files_of f.owner files ≡ files_of f.owner (take k files) ++ f.body ∷ files_of f.owner (drop (k + 1) files)
  own_split = ap (files_of f.owner) split ∙ files_of_both f.owner (take k files) (f ∷ drop (k + 1) files) ∙ ap (λ (xs : List FileBody). files_of f.owner (take k files) ++ xs) own_first

  -- no earlier file of the same owner has its name
  pub not_there : NamesDiffer (files_of f.owner files) → file_named f.body.name (files_of f.owner (take k files)) ≡ None
  not_there differ = new_name (files_of f.owner (take k files)) (files_of f.owner (drop (k + 1) files)) (subst NamesDiffer own_split differ)
    where
      at_end : (xs ys : List FileBody) → get_or (xs ++ f.body ∷ ys) (length xs) f.body ≡ f.body
      at_end [] ys = refl
      at_end (x ∷ xs) ys = at_end xs ys

      new_name : (xs ys : List FileBody) → NamesDiffer (xs ++ f.body ∷ ys) → file_named f.body.name xs ≡ None
      new_name xs ys differ =
          sym (ap₂ (λ (g : FileBody) (gs : List FileBody). file_named g.name gs) (at_end xs ys) (take_at xs (f.body ∷ ys) (length xs) refl))
          ∙ not_before (xs ++ f.body ∷ ys) (length xs) f.body differ (let l = length-append xs (f.body ∷ ys) in omega (arith, l))

  -- and with it they take no more tracks than all
  pub still_fits : tracks_of (files_of f.owner (take k files) ++ f.body ∷ []) ≤ tracks_of (files_of f.owner files)
  still_fits =
      let xs = files_of f.owner (take k files) in
      let ys = files_of f.owner (drop (k + 1) files) in
      let a = tracks_of_both xs (f.body ∷ []) in
      let b = tracks_of_both xs (f.body ∷ ys) in
      let e = ap tracks_of own_split in
      let p = tracks-cons f.body [] in
      let q = tracks-cons f.body ys in
      omega (arith, a, b, e, p, q)

pub known_nil : (t : Bool) → known t [] ≡ []
unfolding known
known_nil true = refl
known_nil false = refl

-- the next file of a list whose first k files were put into directories that had none
module _ (files : List OwnedFile) (k : ℕ) (f : OwnedFile) (low : k < length files) (is : f ≡ get_or files k f) (old now : DirectoriesState)
    (own : (u : ℕ) → 1 ≤ u → now.own u ≡ known old.tells (files_of u (take k files))) where
  pub can_add : AreFirst files old → KeepsUsers old now → CanAdd f now
  can_add first users =
      let owner : (1 ≤ f.owner) × (f.owner ≤ old.count) = subst (λ (x : OwnedFile). (1 ≤ x.owner) × (x.owner ≤ old.count)) (sym is) (first.owners k f low) in
      let before = files_of f.owner (take k files) in
      let mine = own f.owner owner.0 in
      record {
        owner = (owner.0, subst (λ (n : ℕ). f.owner ≤ n) (sym users.count) owner.1);
        mode = subst (λ (x : OwnedFile). x.body.mode ≤ 3) (sym is) (first.modes k f low);
        absent = ap (file_named f.body.name) mine ∙ absent_known old.tells f.body.name before (not_there files k f low is (first.names f.owner));
        fits =
            (let e = ap (λ (fs : List FileBody). tracks_of (fs ++ f.body ∷ [])) mine ∙ tracks_known old.tells before f.body in
            let a = still_fits files k f low is in
            let b = first.tracks f.owner owner.0 owner.1 in
            let m = users.may f.owner in
            omega (arith, e, a, b, m));
      }

  -- then the first k + 1 are there
  pub one_added : (new : DirectoriesState) → now.tells ≡ old.tells → LeavesRest f.owner now new → IsAdded f now new
      → (u : ℕ) → 1 ≤ u → new.own u ≡ known old.tells (files_of u (take (k + 1) files))
  one_added new tells rest added u some = elim (cases_eq u f.owner) [
    | inl same ↦
        ap new.own same
        ∙ added
        ∙ ap₂ (λ (t : Bool) (fs : List FileBody). known t (fs ++ f.body ∷ [])) tells (own f.owner (subst (λ (n : ℕ). 1 ≤ n) same some))
        ∙ known_more old.tells (files_of f.owner (take k files)) f.body
        ∙ ap (known old.tells) (sym (files_of_own f.owner (take k files) f (let here : nat_eq f.owner f.owner ≡ true = grind (arith, nat_tests) in here)))
        ∙ ap₂ (λ (n : ℕ) (fs : List OwnedFile). known old.tells (files_of n fs)) (sym same) (sym (one_more files k f low is))
    | inr other ↦
        rest.others u some other
        ∙ own u some
        ∙ ap (known old.tells) (sym (files_of_other u (take k files) f (let there : nat_eq f.owner u ≡ false = grind (arith, nat_tests) in there)) ∙ ap (files_of u) (sym (one_more files k f low is)))
  ]
