-- What a call that puts words into a file may count on, and leaves.
use Rattle.std.specs.Prelude.{Bool, false, Option, Some, Ok, Err, Vec, take, nat_le}
use Rattle.std.specs.declared.alloc.Global.{Global}
use Rattle.std.specs.List.{All, IsDistinct}
use Rattle.std.proofs.Common.{◌≡◌, ℕ, ◌+◌, ◌*◌, ◌<◌, ◌≤◌, List, set, length, get_or, refl, sym, ◌∙◌, ap, subst, arith}
use Rattle.std.proofs.lemmas.Bool.Decides.{nat_tests}
use Rattle.std.proofs.lemmas.List.Elements.{All-set, All-get_or}
use Rattle.faults.specs.Faults.{WhereTold}
use Rattle.ctss_types.specs.Names.{NamePair}
use Rattle.ctss_types.specs.declared.file.FileBody.{FileBody}
use Rattle.ctss_types.specs.declared.file.Refusal.TheVariants.{Quota}
use Rattle.file_model.specs.Files.{same_name, file_named, put, with_change, tracks_of_words}
use Rattle.file_map.specs.Directory.{IsCounted}
use Rattle.file_map.proofs.Operations.{put_done, put_over}
use Rattle.file_map.proofs.Counts.{too_many}
use Rattle.track_store.specs.Tracks.{count_taken}
use Rattle.track_store.specs.Words.{record_at, with_words}
use Rattle.file_tracks.specs.Places.{count_in, bit}
use Rattle.file_tracks.specs.Stored.{content, body_on, files_on, HasTracks, HasMode, IsWhole, MayBe, IsDirectory, StandBeside, LeavesOthers}
use Rattle.file_tracks.specs.Written.{CanRetake}
use Rattle.file_tracks.specs.declared.table.Filed.{Filed}
use Rattle.file_tracks.proofs.Told.{told_all, told_map, told_both}
use Rattle.file_tracks.proofs.Joined.{set_all}
use Rattle.file_tracks.proofs.Rows.{told_words, both_words, may_words}
use Rattle.file_tracks.proofs.Tables.{used_at, used-set, occurs_at, occurs-set, tracks_are, content-length, names_differ, names_set}
use Rattle.file_tracks.proofs.Found.{is_found}
use Rattle.file_tracks.proofs.Replaced.{Swaps, whole_still, elsewhere, replaced}

module _ (contents : Option (List (List ℕ))) (taken : List Bool) (quota used : ℕ) (fs : List Filed) (h : IsDirectory contents taken quota used fs) where
  pub within_used : (i : ℕ) (d : Filed) → i < length fs → length (get_or fs i d).tracks.items ≤ used
  within_used i d low = let a = used_at fs i d low in let b = h.counted in omega (arith, a, b)

  pub old_bits : (i : ℕ) (d : Filed) → i < length fs → (t : ℕ) → count_in t (get_or fs i d).tracks.items ≤ bit taken t
  old_bits i d low t = let a = occurs_at t fs i d low in let b = h.once t in omega (arith, a, b)

  -- the tracks of a file hold its words, and are no more than the quota
  pub words_on : (i : ℕ) (f : Filed) → i < length fs → f ≡ get_or fs i f → (f.words ≤ 432 * length f.tracks.items) × (length f.tracks.items ≤ quota)
  words_on i f low is =
      let has : HasTracks f = subst HasTracks (sym is) (All-get_or HasTracks fs i f low h.tracked) in
      let a = within_used i f low in
      let b = ap (λ (x : Filed). length x.tracks.items) is in
      let few = h.few in
      (omega (arith, has), omega (arith, a, b, few))

  pub can_retake : (i : ℕ) (d : Filed) → i < length fs → (now after : ℕ) → now + length (get_or fs i d).tracks.items ≡ used + after → now ≤ quota → CanRetake taken (get_or fs i d).tracks.items after
  can_retake i d low now after e few = record { bits = old_bits i d low; free = (let a = h.room in omega (arith, a, e, few)) }

-- other words for the file at a place, in other tracks
module _ (o : Option (List (List ℕ))) (taken taken' : List Bool) (quota used now n : ℕ) (fs : List Filed) (i : ℕ) (f : Filed) (v : Vec ℕ Global) (ws padded : List ℕ)
    (h : IsDirectory o taken quota used fs) (low : i < length fs) (is : f ≡ get_or fs i f) (reaches : WhereTold o (λ contents. length taken ≤ length contents))
    (swaps : (t : ℕ) → count_in t v.items + bit taken t ≡ count_in t f.tracks.items + bit taken' t) (many : length taken' ≡ length taken)
    (len : length v.items ≡ n) (tracks : n ≡ tracks_of_words (length ws)) (plen : length padded ≡ 432 * n) (cut : take (length ws) padded ≡ ws)
    (sum : now + length f.tracks.items ≡ used + n) (fits : now ≤ quota) (counts : count_taken taken' + length f.tracks.items ≡ count_taken taken + n) where
  abbrev pub g : Filed
  g = record { name = f.name; mode = f.mode; words = length ws; tracks = v }

  swaps_at : Swaps taken taken' (get_or fs i f).tracks.items v.items
  swaps_at = record { bits = λ t. swaps t ∙ ap (λ (x : Filed). count_in t x.tracks.items + bit taken' t) is }

  many_le : (contents : List (List ℕ)) → length taken ≤ length contents → length taken' ≤ length contents
  many_le contents e = omega (arith, e, many)

  long : length padded ≡ 432 * length v.items
  long = plen ∙ ap (λ (k : ℕ). 432 * k) (sym len)

  pub put_works : IsDirectory (with_words o v.items padded) taken' quota now (set fs i g)
  put_works = record {
    once = λ t. let a = h.once t in let e = swaps_at.bits t in let s = occurs-set t fs i g f low in let p = occurs_at t fs i f low in omega (arith, a, e, s, p);
    few = fits;
    room = (let r = h.room in omega (arith, r, counts, sum, many));
    counted = (let a = h.counted in let s = used-set fs i g f low in let l = ap (λ (x : Filed). length x.tracks.items) is in omega (arith, a, s, l, len, sum));
    tracked = All-set HasTracks fs i g (len ∙ tracks) h.tracked;
    modes = All-set HasMode fs i g (subst HasMode (sym is) (All-get_or HasMode fs i f low h.modes)) h.modes;
    differ = subst (λ (ns : List NamePair). IsDistinct same_name ns) (sym (names_set fs i g f low (ap (λ (x : Filed). x.name) is))) h.differ;
    whole =
        told_words o v.items padded (λ contents. All (IsWhole contents) (set fs i g))
        (told_both o _ _ _ (λ contents e all. whole_still contents taken taken' fs i f g padded low h.once swaps_at (many_le contents e) long all) reaches h.whole);
  }

  pub put_others : (others : ℕ → ℕ) → StandBeside others taken fs → LeavesOthers o (with_words o v.items padded) taken taken' fs (set fs i g) others
  put_others others beside = record {
    beside = λ t. let a = beside t in let e = swaps_at.bits t in let s = occurs-set t fs i g f low in omega (arith, a, e, s);
    held =
        both_words o v.items padded (λ was now. (t : ℕ) → 1 ≤ others t → record_at now t ≡ record_at was t)
        (told_map o _ _ (λ contents e. elsewhere contents taken taken' fs i f g padded low h.once swaps_at (many_le contents e) long others beside) reaches);
  }

  module _ (name : NamePair) (found : (contents : List (List ℕ)) (d : Filed) → file_named name (files_on contents fs) ≡ Some (body_on contents (get_or fs i d))) (free : f.mode < 2) where
    found_is : (contents : List (List ℕ)) → file_named name (files_on contents fs) ≡ Some (body_on contents f)
    found_is contents = found contents f ∙ ap (λ (x : Filed). Some (body_on contents x)) (sym is)

    not_kept : false ≡ nat_le 2 f.mode
    not_kept = test f.mode free
      where
        test : (m : ℕ) → m < 2 → false ≡ nat_le 2 m
        test m k = grind (arith, nat_tests)

    -- whatever contents the disk had, it may have others now that hold the new words
    pub put_any : (was : List (List ℕ)) → MayBe o was → length taken ≤ length was → All (IsWhole was) fs
        → (after : List (List ℕ)) × (MayBe (with_words o v.items padded) after × (All (IsWhole after) (set fs i g) × (put name ws quota (files_on was fs) ≡ Ok (files_on after (set fs i g)))))
    put_any was may few whole =
        let now' : List (List ℕ) = set_all was v.items padded in
        let all : All (IsWhole now') (set fs i g) = whole_still was taken taken' fs i f g padded low h.once swaps_at (many_le was few) long whole in
        let after : files_on now' (set fs i g) ≡ with_change name (λ (x : FileBody). record x { words = ws }) (files_on was fs) =
        replaced was taken taken' fs i f g padded low h.once swaps_at (many_le was few) long name (names_differ was fs h.differ)
        (is_found name (files_on was fs) (body_on was (get_or fs i f)) (found was f)) (ap (λ (x : Filed). x.name) is) (ap (λ (x : Filed). x.mode) is)
        ∙ ap (λ (zs : List ℕ). with_change name (λ (x : FileBody). record x { words = zs }) (files_on was fs)) cut in (
          now',
          (
            may_words o v.items padded padded was may (told_all o _ (λ r. refl)),
            (
              all,
              put_done name ws quota (files_on was fs) (body_on was f) (found_is was) not_kept (files_on now' (set fs i g)) now after
                  (record { count = put_works.counted ∙ sym (tracks_are now' (set fs i g) put_works.tracked all); most = fits }),
            ),
          ),
        )

-- words that would pass the quota
pub put_passes : (o : Option (List (List ℕ))) (taken : List Bool) (quota used n : ℕ) (fs : List Filed) (i : ℕ) (f : Filed) (ws : List ℕ) (name : NamePair) → IsDirectory o taken quota used fs → i < length fs → f ≡ get_or fs i f
    → ((contents : List (List ℕ)) (d : Filed) → file_named name (files_on contents fs) ≡ Some (body_on contents (get_or fs i d))) → f.mode < 2 → n ≡ tracks_of_words (length ws) → quota + length f.tracks.items < used + n
    → (contents : List (List ℕ)) → All (IsWhole contents) fs → put name ws quota (files_on contents fs) ≡ Err Quota
put_passes o taken quota used n fs i f ws name h low is found free tracks lt contents whole =
    let here : file_named name (files_on contents fs) ≡ Some (body_on contents f) = found contents f ∙ ap (λ (x : Filed). Some (body_on contents x)) (sym is) in
    let counted : IsCounted (files_on contents fs) quota used = record { count = h.counted ∙ sym (tracks_are contents fs h.tracked whole); most = h.few } in
    let tf : HasTracks f = subst HasTracks (sym is) (All-get_or HasTracks fs i f low h.tracked) in
    let wf : IsWhole contents f = subst (IsWhole contents) (sym is) (All-get_or (IsWhole contents) fs i f low whole) in
    let s : length f.tracks.items ≡ tracks_of_words (length (content contents f)) = tf ∙ ap tracks_of_words (sym (content-length contents f tf wf)) in
    put_over name ws quota (files_on contents fs) (body_on contents f) here (test f.mode free)
    (too_many name (files_on contents fs) quota used counted (λ (x : FileBody). record x { words = ws }) (body_on contents f) (length f.tracks.items) n (names_differ contents fs h.differ) here s tracks lt)
  where
    test : (m : ℕ) → m < 2 → false ≡ nat_le 2 m
    test m k = grind (arith, nat_tests)
