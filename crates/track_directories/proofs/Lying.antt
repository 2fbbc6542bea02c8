-- All files lie on tracks of their own.
use Rattle.std.specs.Prelude.{Bool, true, Option, Some, None, drop}
use Rattle.std.specs.List.{All}
use Rattle.std.proofs.Common.{◌≡◌, ℕ, suc, ◌+◌, ◌-◌, ◌<◌, ◌≤◌, List, [], ◌∷◌, ◌++◌, map, take, length, get_or, refl, sym, ◌∙◌, ap, subst, arith, true≢false}
use Rattle.std.proofs.lemmas.List.{take_all}
use Rattle.faults.specs.Faults.{WhereTold}
use Rattle.std.proofs.lemmas.List.Elements.{All-head, All-tail}
use Rattle.ctss_types.specs.declared.file.FileBody.{FileBody}
use Rattle.track_directories.specs.Directories.{lists_from}
use Rattle.file_model.specs.Files.{tracks_of_words}
use Rattle.track_store.specs.Words.{tracks_joined}
use Rattle.file_tracks.specs.Stored.{occurs, body_on, files_on, HasTracks, IsWhole}
use Rattle.file_tracks.specs.Seen.{tells_of, files_seen}
use Rattle.file_tracks.specs.Directories.{total, IsOne, AreDirectories}
use Rattle.file_tracks.specs.Lying.{LiesOn, EachLiesOn, count_all, all_files, LieOn}
use Rattle.file_tracks.specs.declared.table.Filed.{Filed}
use Rattle.file_tracks.specs.declared.table.TrackTable.{TrackTable}
use Rattle.file_tracks.proofs.Replaced.{bit_le}
use Rattle.file_tracks.proofs.Tables.{content-length}

abbrev tracks_in : List Filed → List (List ℕ)
tracks_in fs = map (λ (f : Filed). f.tracks.items) fs

-- the tracks of all files, those of users first
abbrev all_tracks : List TrackTable → List Filed → List (List ℕ)
all_tracks [] common = tracks_in common
all_tracks (d ∷ ds) common = tracks_in d.files.items ++ all_tracks ds common

count_one : (t : ℕ) (fs : List Filed) → count_all t (tracks_in fs) ≡ occurs t fs
count_one t [] = refl
count_one t (f ∷ fs) = let k = count_one t fs in omega (arith, k)

count_both : (t : ℕ) (xs ys : List (List ℕ)) → count_all t (xs ++ ys) ≡ count_all t xs + count_all t ys
count_both t [] ys = omega arith
count_both t (x ∷ xs) ys = let k = count_both t xs ys in omega (arith, k)

count_each : (t : ℕ) (ds : List TrackTable) (common : List Filed) → count_all t (all_tracks ds common) ≡ total t ds + occurs t common
count_each t [] common = let k = count_one t common in omega (arith, k)
count_each t (d ∷ ds) common =
    let a = count_both t (tracks_in d.files.items) (all_tracks ds common) in
    let b = count_one t d.files.items in
    let k = count_each t ds common in
    omega (arith, a, b, k)

module _ (contents : List (List ℕ)) where
  -- the words of a file are as many as it says
  one_lies : (f : Filed) → HasTracks f → IsWhole contents f → LiesOn contents (body_on contents f) f.tracks.items
  one_lies f has whole =
      let l = content-length contents f has whole in
      record {
        many = has ∙ ap tracks_of_words (sym l);
        words = ap (λ (n : ℕ). take n (tracks_joined contents f.tracks.items)) (sym l);
      }

  each_one : (fs : List Filed) → All HasTracks fs → All (IsWhole contents) fs → EachLiesOn contents (files_on contents fs) (tracks_in fs)
  each_one [] has whole = tt
  each_one (f ∷ fs) has whole = (
    one_lies f (All-head HasTracks f fs has) (All-head (IsWhole contents) f fs whole),
    each_one fs (All-tail HasTracks f fs has) (All-tail (IsWhole contents) f fs whole),
  )

  each_both : (fs gs : List FileBody) (xs ys : List (List ℕ)) → EachLiesOn contents fs xs → EachLiesOn contents gs ys → EachLiesOn contents (fs ++ gs) (xs ++ ys)
  each_both [] gs [] ys h k = k
  each_both [] gs (x ∷ xs) ys h k = absurd h
  each_both (f ∷ fs) gs [] ys h k = absurd h
  each_both (f ∷ fs) gs (x ∷ xs) ys h k = (h.0, each_both fs gs xs ys h.1 k)

  abbrev pub files_in : TrackTable → List FileBody
  files_in d = files_on contents d.files.items

  one_table : (d : TrackTable) → IsOne (Some contents) d → EachLiesOn contents (files_in d) (tracks_in d.files.items)
  one_table d h = each_one d.files.items h.tracked h.whole

  each_lies : (ds : List TrackTable) (common : TrackTable) → ((j : ℕ) (e : TrackTable) → j < length ds → IsOne (Some contents) (get_or ds j e)) → IsOne (Some contents) common
      → EachLiesOn contents (all_files (map files_in ds) (files_in common)) (all_tracks ds common.files.items)
  each_lies [] common h k = one_table common k
  each_lies (d ∷ ds) common h k =
      each_both (files_in d) (all_files (map files_in ds) (files_in common)) (tracks_in d.files.items) (all_tracks ds common.files.items)
      (one_table d (h 0 d (omega arith))) (each_lies ds common (λ j e low. h (suc j) e (omega (arith, low))) k)

  pub they_lie : (taken : List Bool) (common : TrackTable) (own : List TrackTable) → AreDirectories (Some contents) taken (common ∷ own) → LieOn contents (map files_in own) (files_in common)
  they_lie taken common own all = record {
    tracks = all_tracks own common.files.items;
    each = each_lies own common (λ j e low. all.each (suc j) e (omega (arith, low))) (all.each 0 common (omega arith));
    once = λ t. (let a = count_each t own common.files.items in let b = all.once t in let c = bit_le taken t in omega (arith, a, b, c));
  }

-- what was read lies so, where the disk tells
pub lists_lie : (o : Option (List (List ℕ))) (taken : List Bool) (common : TrackTable) (own : List TrackTable) → AreDirectories o taken (common ∷ own)
    → (xs : List (List FileBody)) (y : List FileBody) → WhereTold o (λ contents. xs ≡ map (files_in contents) own) → WhereTold o (λ contents. y ≡ files_in contents common)
    → WhereTold o (λ contents. LieOn contents xs y)
lists_lie None taken common own all xs y h k = tt
lists_lie (Some contents) taken common own all xs y h k =
    subst (λ (zs : List (List FileBody)). LieOn contents zs y) (sym h) (subst (λ (z : List FileBody). LieOn contents (map (files_in contents) own) z) (sym k) (they_lie contents taken common own all))

-- and is what is seen
pub lists_seen : (o : Option (List (List ℕ))) (own : List TrackTable) (xs : List (List FileBody)) → tells_of o ≡ true → WhereTold o (λ contents. xs ≡ map (files_in contents) own)
    → xs ≡ map (λ (t : TrackTable). files_seen o t.files.items) own
unfolding tells_of files_seen
lists_seen None own xs told h = absurd (true≢false (sym told))
lists_seen (Some contents) own xs told h = h

pub list_seen : (o : Option (List (List ℕ))) (d : TrackTable) (y : List FileBody) → tells_of o ≡ true → WhereTold o (λ contents. y ≡ files_in contents d) → y ≡ files_seen o d.files.items
unfolding tells_of files_seen
list_seen None d y told h = absurd (true≢false (sym told))
list_seen (Some contents) d y told h = h

-- the first table, and the others
pub tables_split : (xs : List TrackTable) (d : TrackTable) → 1 ≤ length xs → d ≡ get_or xs 0 d → xs ≡ d ∷ take (length xs - 1) (drop 1 xs)
tables_split [] d some is = absurd (omega arith)
tables_split (x ∷ xs) d some is = λ i. sym is i ∷ sym (take_all (length (x ∷ xs) - 1) xs (omega arith)) i

-- the lists of users, that of user 1 first
pub lists_are : (f : TrackTable → List FileBody) (common : TrackTable) (own : List TrackTable)
    → map f own ≡ lists_from 1 (length (common ∷ own) - 1) (λ u. get_or (map f (common ∷ own)) u [])
lists_are f common own = from 1 own (λ u. get_or (map f (common ∷ own)) u []) (λ j. ap (λ (n : ℕ). get_or (map f (common ∷ own)) n []) (let z : 1 + j ≡ suc j = omega arith in z)) ∙ ap (λ (n : ℕ). lists_from 1 n (λ u. get_or (map f (common ∷ own)) u [])) (let n : length own ≡ length (common ∷ own) - 1 = omega arith in n)
  where
    from : (u : ℕ) (ds : List TrackTable) (show : ℕ → List FileBody) → ((j : ℕ) → show (u + j) ≡ get_or (map f ds) j []) → map f ds ≡ lists_from u (length ds) show
    from u [] show h = refl
    from u (d ∷ ds) show h =
        λ i. (sym (h 0) ∙ ap show (let z : u + 0 ≡ u = omega arith in z)) i ∷ from (suc u) ds show (λ j. ap show (let z : suc u + j ≡ u + suc j = omega arith in z) ∙ h (suc j)) i
