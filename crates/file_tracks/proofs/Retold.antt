-- A file that has another name or another mode.
use Rattle.std.specs.Prelude.{Bool, true, false, Option, Some, None, Ok, Err, Vec, not, ◌&&◌, is_some, nat_eq, nat_le, nat_lt, if◌then◌else◌}
use Rattle.std.specs.declared.alloc.Global.{Global}
use Rattle.std.specs.List.{All, IsDistinct, AllByRecursion}
use Rattle.std.proofs.Common.{◌≡◌, ◌≢◌, ℕ, zero, suc, ◌<◌, ◌≤◌, List, [], ◌∷◌, map, set, length, get_or, refl, sym, ◌∙◌, ap, subst, arith}
use Rattle.std.proofs.lemmas.Bool.Decides.{nat_tests}
use Rattle.std.proofs.lemmas.List.{get_or-map, length-map}
use Rattle.std.proofs.lemmas.List.Elements.{All-set, All-get_or}
use Rattle.std.proofs.lemmas.Map.Keys.{IsDistinct-head, IsDistinct-tail, IsDistinct-cons}
use Rattle.ctss_types.specs.Names.{NamePair}
use Rattle.ctss_types.specs.declared.file.FileBody.{FileBody}
use Rattle.ctss_types.specs.declared.file.Refusal.TheVariants.{ReadOnly, NameUsed, BadMode}
use Rattle.file_model.specs.Files.{same_name, is_named, file_named, with_change, tracks_of_words, renamed, renamed_of, moded, moded_of}
use Rattle.file_map.proofs.Names.{same_comm, without_head}
use Rattle.track_store.specs.Words.{record_at}
use Rattle.file_tracks.specs.Places.{count_in}
use Rattle.file_tracks.specs.Stored.{body_on, files_on, occurs, HasTracks, HasMode, IsWhole, IsDirectory}
use Rattle.file_tracks.specs.declared.table.Filed.{Filed}
use Rattle.file_tracks.proofs.Told.{told_map}
use Rattle.file_tracks.proofs.Tables.{occurs-set, used-set, names_differ, change_at}
use Rattle.file_tracks.proofs.Found.{is_found}

-- a file that stands on the same tracks
module _ (fs : List Filed) (i : ℕ) (f g : Filed) (low : i < length fs) (is : f ≡ get_or fs i f) (tracks : g.tracks ≡ f.tracks) (words : g.words ≡ f.words) where
  tracks_at : g.tracks ≡ (get_or fs i f).tracks
  tracks_at = tracks ∙ ap (λ (x : Filed). x.tracks) is

  pub same_places : (t : ℕ) → occurs t (set fs i g) ≡ occurs t fs
  same_places t = let a = occurs-set t fs i g f low in let b = ap (λ (v : Vec ℕ Global). count_in t v.items) tracks_at in omega (arith, a, b)

  retold : (contents : List (List ℕ)) → All (IsWhole contents) fs → All (IsWhole contents) (set fs i g)
  retold contents all =
      All-set (IsWhole contents) fs i g
      (subst (λ (v : Vec ℕ Global). (t : ℕ) → 1 ≤ count_in t v.items → length (record_at contents t) ≡ 432) (sym tracks_at) (All-get_or (IsWhole contents) fs i f low all)) all

  pub still_works : (o : Option (List (List ℕ))) (taken : List Bool) (quota used : ℕ) → IsDirectory o taken quota used fs → g.mode ≤ 3
      → IsDistinct same_name (map (λ (x : Filed). x.name) (set fs i g)) → IsDirectory o taken quota used (set fs i g)
  still_works o taken quota used h mode differ =
      let has : length f.tracks.items ≡ tracks_of_words f.words = subst HasTracks (sym is) (All-get_or HasTracks fs i f low h.tracked) in
      let had : HasTracks g = ap (λ (v : Vec ℕ Global). length v.items) tracks ∙ has ∙ ap tracks_of_words (sym words) in
      record {
        once = λ t. (let a = h.once t in let b = same_places t in omega (arith, a, b));
        few = h.few;
        room = h.room;
        counted = (let a = h.counted in let s = used-set fs i g f low in let b = ap (λ (v : Vec ℕ Global). length v.items) tracks_at in omega (arith, a, s, b));
        tracked = All-set HasTracks fs i g had h.tracked;
        modes = All-set HasMode fs i g mode h.modes;
        differ = differ;
        whole = told_map o (λ contents. All (IsWhole contents) fs) (λ contents. All (IsWhole contents) (set fs i g)) retold h.whole;
      }

files-set : (contents : List (List ℕ)) (fs : List Filed) (i : ℕ) (g : Filed) → files_on contents (set fs i g) ≡ set (files_on contents fs) i (body_on contents g)
files-set contents [] zero g = refl
files-set contents [] (suc i) g = refl
files-set contents (f ∷ fs) zero g = refl
files-set contents (f ∷ fs) (suc i) g = ap (λ (xs : List FileBody). body_on contents f ∷ xs) (files-set contents fs i g)

-- in the list of files it is a change of the file of the name
pub retold_file : (contents : List (List ℕ)) (fs : List Filed) (i : ℕ) (f g : Filed) (name : NamePair) (change : FileBody → FileBody) → i < length fs → f ≡ get_or fs i f
    → IsDistinct same_name (map (λ (x : Filed). x.name) fs) → file_named name (files_on contents fs) ≡ Some (body_on contents (get_or fs i f)) → change (body_on contents f) ≡ body_on contents g
    → files_on contents (set fs i g) ≡ with_change name change (files_on contents fs)
retold_file contents fs i f g name change low is differ found changes =
    let at : get_or (files_on contents fs) i (body_on contents f) ≡ body_on contents (get_or fs i f) = get_or-map (body_on contents) fs i f (body_on contents f) low in
    let inside : i < length (files_on contents fs) = (let l = length-map fs (body_on contents) in omega (arith, l, low)) in
    let named : is_named name (get_or (files_on contents fs) i (body_on contents f)) ≡ true = ap (is_named name) at ∙ is_found name (files_on contents fs) (body_on contents (get_or fs i f)) found in
    files-set contents fs i g
    ∙ ap (set (files_on contents fs) i) (sym changes ∙ ap (λ (x : Filed). change (body_on contents x)) is ∙ ap change (sym at))
    ∙ sym (change_at name change (files_on contents fs) i (body_on contents f) inside (names_differ contents fs differ) named)

-- names

names-set : (fs : List Filed) (i : ℕ) (g : Filed) → map (λ (x : Filed). x.name) (set fs i g) ≡ set (map (λ (x : Filed). x.name) fs) i g.name
names-set [] zero g = refl
names-set [] (suc i) g = refl
names-set (f ∷ fs) zero g = refl
names-set (f ∷ fs) (suc i) g = ap (λ (ns : List NamePair). f.name ∷ ns) (names-set fs i g)

flipped : (to : NamePair) (ns : List NamePair) → AllByRecursion (λ n. same_name n to ≡ false) ns → AllByRecursion (λ n. same_name to n ≡ false) ns
flipped to [] h = tt
flipped to (n ∷ ns) h = (same_comm to n ∙ h.0, flipped to ns h.1)

set_one : (P : NamePair → Type 0) (ns : List NamePair) (i : ℕ) (to : NamePair) → AllByRecursion P ns → P to → AllByRecursion P (set ns i to)
set_one P [] zero to all h = all
set_one P [] (suc i) to all h = all
set_one P (n ∷ ns) zero to all h = (h, all.1)
set_one P (n ∷ ns) (suc i) to all h = (all.0, set_one P ns i to all.1 h)

other_name : (ns : List NamePair) (i : ℕ) (to : NamePair) → IsDistinct same_name ns → AllByRecursion (λ n. same_name n to ≡ false) ns → IsDistinct same_name (set ns i to)
other_name [] zero to differ absent = differ
other_name [] (suc i) to differ absent = differ
other_name (n ∷ ns) zero to differ absent = IsDistinct-cons same_name to ns (flipped to ns absent.1) (IsDistinct-tail same_name n ns differ)
other_name (n ∷ ns) (suc i) to differ absent =
    IsDistinct-cons same_name n (set ns i to) (set_one (λ m. same_name n m ≡ false) ns i to (IsDistinct-head same_name n ns differ) absent.0)
    (other_name ns i to (IsDistinct-tail same_name n ns differ) absent.1)

none_has : (to : NamePair) (fs : List Filed) → file_named to (files_on [] fs) ≡ None → AllByRecursion (λ n. same_name n to ≡ false) (map (λ (x : Filed). x.name) fs)
none_has to [] h = tt
none_has to (f ∷ fs) h = let out = without_head to (body_on [] f) (files_on [] fs) h in (out.0, none_has to fs out.1)

pub renamed_differ : (fs : List Filed) (i : ℕ) (g : Filed) → IsDistinct same_name (map (λ (x : Filed). x.name) fs) → file_named g.name (files_on [] fs) ≡ None
    → IsDistinct same_name (map (λ (x : Filed). x.name) (set fs i g))
renamed_differ fs i g differ absent =
    subst (λ (ns : List NamePair). IsDistinct same_name ns) (sym (names-set fs i g)) (other_name (map (λ (x : Filed). x.name) fs) i g.name differ (none_has g.name fs absent))

-- definitions

pub renamed_used : (name to : NamePair) (files : List FileBody) (f : FileBody) → file_named name files ≡ Some f → f.mode < 2 → same_name to name ≡ false → is_some (file_named to files) ≡ true
    → renamed name to files ≡ Err NameUsed
renamed_used name to files f found low other used =
    let differs : same_name name to ≡ false = same_comm name to ∙ other in
    ap (λ (o : Option FileBody). renamed_of o name to files) found
    ∙ (λ j. if free f.mode low j then Err ReadOnly else (if not (differs j) && used j then Err NameUsed else Ok (with_change name (λ (g : FileBody). record g { name = to }) files)))
  where
    free : (m : ℕ) → m < 2 → nat_le 2 m ≡ false
    free m h = grind (arith, nat_tests)

pub moded_done : (name : NamePair) (mode : ℕ) (files : List FileBody) (f : FileBody) → file_named name files ≡ Some f → f.mode ≢ 3 → mode ≤ 3
    → moded name mode files ≡ Ok (with_change name (λ (g : FileBody). record g { mode = mode }) files)
moded_done name mode files f found other low =
    ap (λ (o : Option FileBody). moded_of o name mode files) found
    ∙ (λ j. if no f.mode other j then Err ReadOnly else (if small mode low j then Err BadMode else Ok (with_change name (λ (g : FileBody). record g { mode = mode }) files)))
  where
    no : (m : ℕ) → m ≢ 3 → nat_eq m 3 ≡ false
    no m h = grind (arith, nat_tests)

    small : (m : ℕ) → m ≤ 3 → nat_lt 3 m ≡ false
    small m h = grind (arith, nat_tests)

pub not_some : {X : Type 0} (o : Option X) → is_some o ≡ false → o ≡ None
not_some None h = refl
not_some (Some x) h = cc
