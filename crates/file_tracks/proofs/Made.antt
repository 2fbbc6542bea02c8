-- A file that is made behind the others.
use Rattle.std.specs.Prelude.{Bool, false, Option, None, Ok, Err, Vec, take}
use Rattle.std.specs.declared.alloc.Global.{Global}
use Rattle.std.specs.List.{All, IsDistinct, AllByRecursion}
use Rattle.std.proofs.Common.{◌≡◌, ℕ, ◌+◌, ◌*◌, ◌<◌, ◌≤◌, List, [], ◌∷◌, ◌++◌, map, length, refl, sym, ◌∙◌, ap, arith, lit≤}
use Rattle.std.proofs.lemmas.List.Elements.{All-push}
use Rattle.std.proofs.lemmas.Map.Keys.{IsDistinct-head, IsDistinct-tail, IsDistinct-cons}
use Rattle.faults.specs.Faults.{WhereTold}
use Rattle.ctss_types.specs.Names.{NamePair}
use Rattle.ctss_types.specs.declared.file.FileBody.{FileBody}
use Rattle.ctss_types.specs.declared.file.Refusal.TheVariants.{Quota}
use Rattle.file_model.specs.Files.{same_name, file_named, if_they_fit, with_new, tracks_of, tracks_of_words}
use Rattle.file_map.proofs.Names.{without_head}
use Rattle.file_map.proofs.Operations.{fits, over}
use Rattle.file_map.proofs.Tracks.{tracks-cons}
use Rattle.track_store.specs.Tracks.{count_taken}
use Rattle.track_store.proofs.Taken.{taken_below}
use Rattle.track_store.specs.Words.{record_at, tracks_joined, with_words}
use Rattle.file_tracks.specs.Places.{count_in, bit}
use Rattle.file_tracks.specs.Stored.{body_on, files_on, occurs, used_by, HasTracks, HasMode, IsWhole, MayBe, IsDirectory, StandBeside, LeavesOthers}
use Rattle.file_tracks.specs.declared.table.Filed.{Filed}
use Rattle.file_tracks.proofs.Told.{told_all, told_map, told_both}
use Rattle.file_tracks.proofs.Joined.{set_all, joined_same, other_row, whole_rows}
use Rattle.file_tracks.proofs.Rows.{told_words, both_words, may_words}
use Rattle.file_tracks.proofs.Tables.{files_same, occurs_at, occurs-append, tracks_are}
use Rattle.file_tracks.proofs.Replaced.{bit_le, bit_taken}

pub used-append : (fs gs : List Filed) → used_by (fs ++ gs) ≡ used_by fs + used_by gs
used-append [] gs = omega arith
used-append (f ∷ fs) gs = let k = used-append fs gs in omega (arith, k)

files-push : (contents : List (List ℕ)) (fs : List Filed) (g : Filed) → files_on contents (fs ++ g ∷ []) ≡ files_on contents fs ++ body_on contents g ∷ []
files-push contents [] g = refl
files-push contents (f ∷ fs) g = ap (λ (xs : List FileBody). body_on contents f ∷ xs) (files-push contents fs g)

tracks-push : (fs : List FileBody) (b : FileBody) → tracks_of (fs ++ b ∷ []) ≡ tracks_of fs + tracks_of_words (length b.words)
tracks-push [] b = let e = tracks-cons b [] in let z : tracks_of [] ≡ 0 = refl in omega (arith, e, z)
tracks-push (f ∷ fs) b =
    let k = tracks-push fs b in
    let e = tracks-cons f (fs ++ b ∷ []) in
    let d = tracks-cons f fs in
    omega (arith, k, e, d)

-- a name that isn't there
all_push : (P : NamePair → Type 0) (fs : List Filed) (g : Filed) → AllByRecursion P (map (λ (f : Filed). f.name) fs) → P g.name → AllByRecursion P (map (λ (f : Filed). f.name) (fs ++ g ∷ []))
all_push P [] g all h = (h, tt)
all_push P (f ∷ fs) g all h = (all.0, all_push P fs g all.1 h)

names_push : (fs : List Filed) (g : Filed) → IsDistinct same_name (map (λ (f : Filed). f.name) fs) → file_named g.name (files_on [] fs) ≡ None → IsDistinct same_name (map (λ (f : Filed). f.name) (fs ++ g ∷ []))
names_push [] g differ absent = IsDistinct-cons same_name g.name [] tt differ
names_push (f ∷ fs) g differ absent =
    let names = map (λ (f : Filed). f.name) fs in
    let out = without_head g.name (body_on [] f) (files_on [] fs) absent in
    IsDistinct-cons same_name f.name (map (λ (f : Filed). f.name) (fs ++ g ∷ []))
    (all_push (λ n. same_name f.name n ≡ false) fs g (IsDistinct-head same_name f.name names differ) out.0)
    (names_push fs g (IsDistinct-tail same_name f.name names differ) out.1)

module _ (contents : List (List ℕ)) (taken taken' : List Bool) (fs : List Filed) (g : Filed) (padded : List ℕ)
    (once : (t : ℕ) → occurs t fs ≤ bit taken t) (bits : (t : ℕ) → count_in t g.tracks.items + bit taken t ≡ bit taken' t)
    (reach : length taken' ≤ length contents) (long : length padded ≡ 432 * length g.tracks.items) where
  abbrev pub after : List (List ℕ)
  after = set_all contents g.tracks.items padded

  new_once : (t : ℕ) → count_in t g.tracks.items ≤ 1
  new_once t = let a = bits t in let b = bit_le taken' t in omega (arith, a, b)

  new_within : (t : ℕ) → 1 ≤ count_in t g.tracks.items → t < length contents
  new_within t some =
      let a = bits t in
      let b = taken_below taken' t (bit_taken taken' t (omega (arith, a, some))) in
      omega (arith, b, reach)

  -- a track of another file isn't among the new ones
  not_new : (t : ℕ) → 1 ≤ occurs t fs → count_in t g.tracks.items ≡ 0
  not_new t some = let a = bits t in let b = bit_le taken' t in let c = once t in omega (arith, a, b, c, some)

  new_words : tracks_joined after g.tracks.items ≡ padded
  new_words = joined_same contents g.tracks.items padded new_once new_within long

  pub made_elsewhere : (others : ℕ → ℕ) → ((t : ℕ) → others t + occurs t fs ≡ bit taken t) → (t : ℕ) → 1 ≤ others t → record_at after t ≡ record_at contents t
  made_elsewhere others beside t some =
      other_row contents g.tracks.items padded t (let a = bits t in let b = bit_le taken' t in let c = beside t in omega (arith, a, b, c, some))

  pub made_files : files_on after (fs ++ g ∷ []) ≡ files_on contents fs ++ record { name = g.name; mode = g.mode; words = take g.words padded } ∷ []
  made_files =
      files-push after fs g
      ∙ (λ j. files_same contents after fs (λ t some. other_row contents g.tracks.items padded t (not_new t some)) j ++ record { name = g.name; mode = g.mode; words = take g.words (new_words j) } ∷ [])

  pub made_whole : All (IsWhole contents) fs → All (IsWhole after) (fs ++ g ∷ [])
  made_whole all =
      All-push (IsWhole after) fs g
      (λ i d low t some.
      ap length (other_row contents g.tracks.items padded t (not_new t (let o = occurs_at t fs i d low in omega (arith, o, some)))) ∙ all i d low t some)
      (λ t some. whole_rows contents g.tracks.items padded new_once new_within long t some)

module _ (o : Option (List (List ℕ))) (taken taken' : List Bool) (quota used now n : ℕ) (fs : List Filed) (v : Vec ℕ Global) (ws padded : List ℕ) (name : NamePair)
    (h : IsDirectory o taken quota used fs) (reaches : WhereTold o (λ contents. length taken ≤ length contents))
    (bits : (t : ℕ) → count_in t v.items + bit taken t ≡ bit taken' t) (many : length taken' ≡ length taken)
    (len : length v.items ≡ n) (tracks : n ≡ tracks_of_words (length ws)) (plen : length padded ≡ 432 * n) (cut : take (length ws) padded ≡ ws)
    (sum : now ≡ used + n) (few : now ≤ quota) (counts : count_taken taken' ≡ count_taken taken + n)
    (absent : (contents : List (List ℕ)) → file_named name (files_on contents fs) ≡ None) where
  abbrev pub made : Filed
  made = record { name = name; mode = 1; words = length ws; tracks = v }

  reach_le : (contents : List (List ℕ)) → length taken ≤ length contents → length taken' ≤ length contents
  reach_le contents e = omega (arith, e, many)

  long : length padded ≡ 432 * length v.items
  long = plen ∙ ap (λ (k : ℕ). 432 * k) (sym len)

  pub made_works : IsDirectory (with_words o v.items padded) taken' quota now (fs ++ made ∷ [])
  made_works = record {
    once = λ t. (let a = h.once t in let b = bits t in let s = occurs-append t fs (made ∷ []) in omega (arith, a, b, s));
    few = few;
    room = (let r = h.room in omega (arith, r, counts, sum, many));
    counted = (let a = h.counted in let s = used-append fs (made ∷ []) in omega (arith, a, s, len, sum));
    tracked = All-push HasTracks fs made h.tracked (len ∙ tracks);
    modes = All-push HasMode fs made h.modes (lit≤ tt);
    differ = names_push fs made h.differ (absent []);
    whole =
        told_words o v.items padded (λ contents. All (IsWhole contents) (fs ++ made ∷ []))
        (told_both o _ _ _ (λ contents e all. made_whole contents taken taken' fs made padded h.once bits (reach_le contents e) long all) reaches h.whole);
  }

  pub made_others : (others : ℕ → ℕ) → StandBeside others taken fs → LeavesOthers o (with_words o v.items padded) taken taken' fs (fs ++ made ∷ []) others
  made_others others beside = record {
    beside = λ t. (let a = beside t in let e = bits t in let s = occurs-append t fs (made ∷ []) in omega (arith, a, e, s));
    held =
        both_words o v.items padded (λ was now. (t : ℕ) → 1 ≤ others t → record_at now t ≡ record_at was t)
        (told_map o _ _ (λ contents e. made_elsewhere contents taken taken' fs made padded h.once bits (reach_le contents e) long others beside) reaches);
  }

  -- whatever contents the disk had, it may have others now that hold the new words
  pub made_any : (was : List (List ℕ)) → MayBe o was → length taken ≤ length was → All (IsWhole was) fs
      → (after : List (List ℕ)) × (MayBe (with_words o v.items padded) after × (All (IsWhole after) (fs ++ made ∷ []) × (if_they_fit quota (with_new name ws (files_on was fs)) ≡ Ok (files_on after (fs ++ made ∷ [])))))
  made_any was may reach whole =
      let new : List (List ℕ) = set_all was v.items padded in
      let all : All (IsWhole new) (fs ++ made ∷ []) = made_whole was taken taken' fs made padded h.once bits (reach_le was reach) long whole in
      let is : files_on new (fs ++ made ∷ []) ≡ with_new name ws (files_on was fs) =
      made_files was taken taken' fs made padded h.once bits (reach_le was reach) long
      ∙ ap (λ (zs : List ℕ). with_new name zs (files_on was fs)) cut in (
        new,
        (
          may_words o v.items padded padded was may (told_all o _ (λ r. refl)),
          (
            all,
            fits quota (with_new name ws (files_on was fs)) (files_on new (fs ++ made ∷ [])) now is
                (record { count = made_works.counted ∙ sym (tracks_are new (fs ++ made ∷ []) made_works.tracked all); most = few }),
          ),
        ),
      )

-- words that would pass the quota
pub made_passes : (o : Option (List (List ℕ))) (taken : List Bool) (quota used n : ℕ) (fs : List Filed) (ws : List ℕ) (name : NamePair) → IsDirectory o taken quota used fs → n ≡ tracks_of_words (length ws) → quota < used + n
    → (contents : List (List ℕ)) → All (IsWhole contents) fs → if_they_fit quota (with_new name ws (files_on contents fs)) ≡ Err Quota
made_passes o taken quota used n fs ws name h tracks lt contents whole =
    let b : FileBody = record { name = name; mode = 1; words = ws } in
    let e = tracks-push (files_on contents fs) b in
    let t = tracks_are contents fs h.tracked whole in
    let c = h.counted in
    over quota (with_new name ws (files_on contents fs)) (omega (arith, e, t, c, tracks, lt))
