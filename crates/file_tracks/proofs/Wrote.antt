-- What a call that writes words into a file leaves.
use Rattle.std.specs.Prelude.{Bool, false, Option, Some, None, Ok, Err, Vec, take, drop, max, nat_le}
use Rattle.std.specs.declared.alloc.Global.{Global}
use Rattle.std.specs.List.{All, IsDistinct}
use Rattle.std.proofs.Common.{◌≡◌, ℕ, ◌+◌, ◌-◌, ◌*◌, ◌/◌, ◌<◌, ◌≤◌, List, set, length, get_or, refl, sym, ◌∙◌, ap, subst, arith, inl, inr}
use Rattle.std.proofs.lemmas.Bool.{cases_eq}
use Rattle.std.proofs.lemmas.Bool.Decides.{nat_tests}
use Rattle.std.proofs.lemmas.List.{get_or-map, length-map}
use Rattle.std.proofs.lemmas.List.Elements.{All-set, All-get_or}
use Rattle.faults.specs.Faults.{WhereTold}
use Rattle.ctss_types.specs.Names.{NamePair}
use Rattle.ctss_types.specs.declared.file.FileBody.{FileBody}
use Rattle.ctss_types.specs.declared.file.Refusal.TheVariants.{Quota}
use Rattle.file_model.specs.Files.{same_name, is_named, file_named, written, overwritten, with_change, tracks_of_words}
use Rattle.file_map.specs.Directory.{IsCounted}
use Rattle.file_map.proofs.Operations.{written_done, written_over, length-overwritten}
use Rattle.file_map.proofs.Counts.{too_many}
use Rattle.track_store.specs.Tracks.{count_taken}
use Rattle.track_store.proofs.Taken.{taken_below}
use Rattle.track_store.specs.Words.{record_at, with_words}
use Rattle.file_tracks.specs.Places.{count_in, bit}
use Rattle.file_tracks.specs.Written.{held}
use Rattle.file_tracks.specs.Stored.{content, body_on, files_on, used_by, HasTracks, HasMode, IsWhole, MayBe, IsDirectory, StandBeside, LeavesOthers}
use Rattle.file_tracks.specs.declared.table.Filed.{Filed}
use Rattle.file_tracks.proofs.Told.{told_map, told_both}
use Rattle.file_tracks.proofs.Joined.{set_all, other_row, whole_rows}
use Rattle.file_tracks.proofs.Rows.{told_words, both_words, may_words}
use Rattle.file_tracks.proofs.Tables.{used-set, occurs_at, occurs-set, tracks_are, content-length, names_differ, names_set, change_at}
use Rattle.file_tracks.proofs.Found.{is_found}
use Rattle.file_tracks.proofs.Replaced.{Swaps, bit_le, bit_taken}
use Rattle.file_tracks.proofs.Changes.{changed_elsewhere, changed_whole, changed_file, count_take, count_drop}
use Rattle.file_tracks.proofs.Writes.{written_content, in_part, b_once, b_within, b_long, patch_long}

module _ (o : Option (List (List ℕ))) (taken taken' : List Bool) (quota used now n : ℕ) (fs : List Filed) (i : ℕ) (f : Filed) (v : Vec ℕ Global) (ws patch : List ℕ) (place from to : ℕ)
    (h : IsDirectory o taken quota used fs) (low : i < length fs) (is : f ≡ get_or fs i f) (reaches : WhereTold o (λ contents. length taken ≤ length contents))
    (swaps : (t : ℕ) → count_in t v.items + bit taken t ≡ count_in t f.tracks.items + bit taken' t) (many : length taken' ≡ length taken)
    (len : length v.items ≡ n) (tracks : n ≡ tracks_of_words (max f.words (place + length ws)))
    (front : take (length f.tracks.items) v.items ≡ f.tracks.items)
    (below : place ≤ f.words) (first : from ≡ place / 432) (last : to ≡ (place + length ws + 431) / 432)
    (long : length patch ≡ 432 * (to - from))
    (told : WhereTold o (λ contents. patch ≡ overwritten (place - 432 * from) ws (held contents f.tracks.items from to)))
    (sum : now + length f.tracks.items ≡ used + n) (fits : now ≤ quota) (counts : count_taken taken' + length f.tracks.items ≡ count_taken taken + n) where
  abbrev pub g : Filed
  g = record { name = f.name; mode = f.mode; words = max f.words (place + length ws); tracks = v }

  abbrev pub b : List ℕ
  b = take (to - from) (drop from v.items)

  swaps_at : Swaps taken taken' (get_or fs i f).tracks.items v.items
  swaps_at = record { bits = λ t. swaps t ∙ ap (λ (x : Filed). count_in t x.tracks.items + bit taken' t) is }

  has : length f.tracks.items ≡ tracks_of_words f.words
  has = subst HasTracks (sym is) (All-get_or HasTracks fs i f low h.tracked)

  new_len : length v.items ≡ tracks_of_words (max f.words (place + length ws))
  new_len = len ∙ tracks

  new_once : (t : ℕ) → count_in t v.items ≤ bit taken' t
  new_once t = let a = h.once t in let p = occurs_at t fs i f low in let e = swaps_at.bits t in omega (arith, a, p, e)

  new_one : (t : ℕ) → count_in t v.items ≤ 1
  new_one t = let a = new_once t in let p = bit_le taken' t in omega (arith, a, p)

  -- for records that are told
  module _ (contents : List (List ℕ)) (reach : length taken ≤ length contents) (whole : All (IsWhole contents) fs)
      (patch_is : patch ≡ overwritten (place - 432 * from) ws (held contents f.tracks.items from to)) where
    abbrev contents' : List (List ℕ)
    contents' = set_all contents b patch

    new_within : (t : ℕ) → 1 ≤ count_in t v.items → t < length contents
    new_within t some =
        let a = new_once t in
        let p = taken_below taken' t (bit_taken taken' t (omega (arith, a, some))) in
        omega (arith, p, many, reach)

    whole_f : IsWhole contents f
    whole_f = subst (IsWhole contents) (sym is) (All-get_or (IsWhole contents) fs i f low whole)

    same : (t : ℕ) → count_in t v.items ≡ 0 → record_at contents' t ≡ record_at contents t
    same t none = other_row contents b patch t (let p = count_take t (to - from) (drop from v.items) in let q = count_drop t from v.items in omega (arith, p, q, none))

    words_are : content contents' g ≡ overwritten place ws (content contents f)
    words_are = written_content contents f.tracks.items v.items ws patch f.words place from to whole_f new_one new_within front has new_len below first last long patch_is

    whole_g : IsWhole contents' g
    whole_g t some = elim (cases_eq (count_in t b) 0) [
      | inl none ↦
          let p = in_part contents f.tracks.items v.items ws patch f.words place from to whole_f new_one new_within front has new_len below first last long patch_is t in
          ap length (other_row contents b patch t none) ∙ whole_f t (omega (arith, p, none, some))
      | inr there ↦
          whole_rows contents b patch
          (b_once contents f.tracks.items v.items ws patch f.words place from to whole_f new_one new_within front has new_len below first last long patch_is)
          (b_within contents f.tracks.items v.items ws patch f.words place from to whole_f new_one new_within front has new_len below first last long patch_is)
          (long ∙ ap (λ (k : ℕ). 432 * k) (sym (b_long contents f.tracks.items v.items ws patch f.words place from to whole_f new_one new_within front has new_len below first last long patch_is)))
          t (omega (arith, there))
    ]

    pub all_whole : All (IsWhole contents') (set fs i g)
    all_whole = changed_whole contents contents' taken taken' fs i f g low h.once swaps_at same whole whole_g

    pub elsewhere_too : (others : ℕ → ℕ) → StandBeside others taken fs → (t : ℕ) → 1 ≤ others t → record_at contents' t ≡ record_at contents t
    elsewhere_too others beside = changed_elsewhere contents contents' taken taken' fs i f g low h.once swaps_at same others beside

    pub file_is : (name : NamePair) → file_named name (files_on contents fs) ≡ Some (body_on contents (get_or fs i f)) →
        files_on contents' (set fs i g) ≡ with_change name (λ (x : FileBody). record x { words = overwritten place ws x.words }) (files_on contents fs)
    file_is name found =
        let named = is_found name (files_on contents fs) (body_on contents (get_or fs i f)) found in
        let at : get_or (files_on contents fs) i (body_on contents f) ≡ body_on contents (get_or fs i f) = get_or-map (body_on contents) fs i f (body_on contents f) low in
        let inside : i < length (files_on contents fs) = let l = length-map fs (body_on contents) in omega (arith, l, low) in
        changed_file contents contents' taken taken' fs i f g low h.once swaps_at same name (overwritten place ws (content contents f)) (names_differ contents fs h.differ) named (ap (λ (x : Filed). x.name) is) (ap (λ (x : Filed). x.mode) is) words_are
        ∙ ap (λ (x : Filed). set (files_on contents fs) i (record (body_on contents (get_or fs i f)) { words = overwritten place ws (content contents x) })) is
        ∙ ap (λ (x : FileBody). set (files_on contents fs) i (record x { words = overwritten place ws x.words })) (sym at)
        ∙ sym (change_at name (λ (x : FileBody). record x { words = overwritten place ws x.words }) (files_on contents fs) i (body_on contents f) inside (names_differ contents fs h.differ) (ap (is_named name) at ∙ named))

  counted_now : now ≡ used_by (set fs i g)
  counted_now = let a = h.counted in let s = used-set fs i g f low in let l = ap (λ (x : Filed). length x.tracks.items) is in omega (arith, a, s, l, len, sum)

  tracked_now : All HasTracks (set fs i g)
  tracked_now = All-set HasTracks fs i g new_len h.tracked

  facts : WhereTold o (λ contents. (length taken ≤ length contents) × (All (IsWhole contents) fs × (patch ≡ overwritten (place - 432 * from) ws (held contents f.tracks.items from to))))
  facts = told_both o _ _ _ (λ contents e x. (e, x)) reaches (told_both o _ _ _ (λ contents a t. (a, t)) h.whole told)

  pub write_works : IsDirectory (with_words o b patch) taken' quota now (set fs i g)
  write_works = record {
    once = λ t. let a = h.once t in let e = swaps_at.bits t in let s = occurs-set t fs i g f low in let p = occurs_at t fs i f low in omega (arith, a, e, s, p);
    few = fits;
    room = (let r = h.room in omega (arith, r, counts, sum, many));
    counted = counted_now;
    tracked = tracked_now;
    modes = All-set HasMode fs i g (subst HasMode (sym is) (All-get_or HasMode fs i f low h.modes)) h.modes;
    differ = subst (λ (ns : List NamePair). IsDistinct same_name ns) (sym (names_set fs i g f low (ap (λ (x : Filed). x.name) is))) h.differ;
    whole = told_words o b patch (λ contents. All (IsWhole contents) (set fs i g)) (told_map o _ _ (λ contents x. all_whole contents x.0 x.1.0 x.1.1) facts);
  }

  pub write_others : (others : ℕ → ℕ) → StandBeside others taken fs → LeavesOthers o (with_words o b patch) taken taken' fs (set fs i g) others
  write_others others beside = record {
    beside = λ t. let a = beside t in let e = swaps_at.bits t in let s = occurs-set t fs i g f low in omega (arith, a, e, s);
    held =
        both_words o b patch (λ was after. (t : ℕ) → 1 ≤ others t → record_at after t ≡ record_at was t)
        (told_map o _ _ (λ contents x. elsewhere_too contents x.0 x.1.0 x.1.1 others beside) facts);
  }

  -- with told records the call is done
  pub write_is_done : (name : NamePair) → ((contents : List (List ℕ)) (d : Filed) → file_named name (files_on contents fs) ≡ Some (body_on contents (get_or fs i d))) → f.mode < 2
      → (contents : List (List ℕ)) → length taken ≤ length contents → All (IsWhole contents) fs → patch ≡ overwritten (place - 432 * from) ws (held contents f.tracks.items from to)
      → written name place ws quota (files_on contents fs) ≡ Ok (files_on (set_all contents b patch) (set fs i g))
  write_is_done name found free contents reach whole patch_is =
      let here : file_named name (files_on contents fs) ≡ Some (body_on contents f) = found contents f ∙ ap (λ (x : Filed). Some (body_on contents x)) (sym is) in
      let wf : IsWhole contents f = subst (IsWhole contents) (sym is) (All-get_or (IsWhole contents) fs i f low whole) in
      let words : length (content contents f) ≡ f.words = content-length contents f has wf in
      written_done name ws quota (files_on contents fs) (body_on contents f) here (test f.mode free) place (omega (arith, words, below)) (files_on (set_all contents b patch) (set fs i g)) now
      (file_is contents reach whole patch_is name (found contents f))
      (record { count = counted_now ∙ sym (tracks_are (set_all contents b patch) (set fs i g) tracked_now (all_whole contents reach whole patch_is)); most = fits })
    where
      test : (m : ℕ) → m < 2 → false ≡ nat_le 2 m
      test m k = grind (arith, nat_tests)

-- whatever contents the disk had, it may have others now that hold the new words
module _ (o : Option (List (List ℕ))) (taken taken' : List Bool) (quota used now n : ℕ) (fs : List Filed) (i : ℕ) (f : Filed) (v : Vec ℕ Global) (ws patch : List ℕ) (place from to : ℕ)
    (h : IsDirectory o taken quota used fs) (low : i < length fs) (is : f ≡ get_or fs i f)
    (swaps : (t : ℕ) → count_in t v.items + bit taken t ≡ count_in t f.tracks.items + bit taken' t) (many : length taken' ≡ length taken)
    (len : length v.items ≡ n) (tracks : n ≡ tracks_of_words (max f.words (place + length ws)))
    (front : take (length f.tracks.items) v.items ≡ f.tracks.items)
    (below : place ≤ f.words) (first : from ≡ place / 432) (last : to ≡ (place + length ws + 431) / 432)
    (told : WhereTold o (λ contents. patch ≡ overwritten (place - 432 * from) ws (held contents f.tracks.items from to)))
    (sum : now + length f.tracks.items ≡ used + n) (fits : now ≤ quota) (counts : count_taken taken' + length f.tracks.items ≡ count_taken taken + n)
    (name : NamePair) (found : (contents : List (List ℕ)) (d : Filed) → file_named name (files_on contents fs) ≡ Some (body_on contents (get_or fs i d))) (free : f.mode < 2)
    (was : List (List ℕ)) (may : MayBe o was) (few : length taken ≤ length was) (whole : All (IsWhole was) fs) where
  abbrev pub gg : Filed
  gg = record { name = f.name; mode = f.mode; words = max f.words (place + length ws); tracks = v }

  abbrev pub bb : List ℕ
  bb = take (to - from) (drop from v.items)

  -- what would have been written, had the disk told these contents
  abbrev pub pp : List ℕ
  pp = overwritten (place - 432 * from) ws (held was f.tracks.items from to)

  long_p : length pp ≡ 432 * (to - from)
  long_p =
      let wf : IsWhole was f = subst (IsWhole was) (sym is) (All-get_or (IsWhole was) fs i f low whole) in
      patch_long was f.tracks.items ws place from to wf first last

  d : IsDirectory (Some was) taken quota used fs
  d = record { once = h.once; few = h.few; room = h.room; counted = h.counted; tracked = h.tracked; modes = h.modes; differ = h.differ; whole = whole }

  pub write_any : (after : List (List ℕ)) × (MayBe (with_words o bb patch) after × (All (IsWhole after) (set fs i gg) × (written name place ws quota (files_on was fs) ≡ Ok (files_on after (set fs i gg)))))
  write_any = (
    set_all was bb pp,
    (
      may_words o bb patch pp was may (laid_p o may told),
      (
        all_whole (Some was) taken taken' quota used now n fs i f v ws pp place from to d low is few swaps many len tracks front below first last long_p refl sum fits counts was few whole refl,
        write_is_done (Some was) taken taken' quota used now n fs i f v ws pp place from to d low is few swaps many len tracks front below first last long_p refl sum fits counts name found free was few whole refl,
      ),
    ),
  )
    where
      laid_p : (q : Option (List (List ℕ))) → MayBe q was → WhereTold q (λ contents. patch ≡ overwritten (place - 432 * from) ws (held contents f.tracks.items from to)) → WhereTold q (λ r. patch ≡ pp)
      laid_p None m e = tt
      laid_p (Some r) m e = e ∙ ap (λ (contents : List (List ℕ)). overwritten (place - 432 * from) ws (held contents f.tracks.items from to)) m

-- words that would pass the quota
pub write_passes : (o : Option (List (List ℕ))) (taken : List Bool) (quota used n : ℕ) (fs : List Filed) (i : ℕ) (f : Filed) (ws : List ℕ) (place : ℕ) (name : NamePair) → IsDirectory o taken quota used fs → i < length fs → f ≡ get_or fs i f
    → ((contents : List (List ℕ)) (d : Filed) → file_named name (files_on contents fs) ≡ Some (body_on contents (get_or fs i d))) → f.mode < 2 → place ≤ f.words → n ≡ tracks_of_words (max f.words (place + length ws)) → quota + length f.tracks.items < used + n
    → (contents : List (List ℕ)) → All (IsWhole contents) fs → written name place ws quota (files_on contents fs) ≡ Err Quota
write_passes o taken quota used n fs i f ws place name h low is found free below tracks lt contents whole =
    let here : file_named name (files_on contents fs) ≡ Some (body_on contents f) = found contents f ∙ ap (λ (x : Filed). Some (body_on contents x)) (sym is) in
    let counted : IsCounted (files_on contents fs) quota used = record { count = h.counted ∙ sym (tracks_are contents fs h.tracked whole); most = h.few } in
    let tf : HasTracks f = subst HasTracks (sym is) (All-get_or HasTracks fs i f low h.tracked) in
    let wf : IsWhole contents f = subst (IsWhole contents) (sym is) (All-get_or (IsWhole contents) fs i f low whole) in
    let words : length (content contents f) ≡ f.words = content-length contents f tf wf in
    let inside : place ≤ length (content contents f) = omega (arith, words, below) in
    let s : length f.tracks.items ≡ tracks_of_words (length (content contents f)) = tf ∙ ap tracks_of_words (sym words) in
    let t : n ≡ tracks_of_words (length (overwritten place ws (content contents f))) =
    tracks ∙ ap tracks_of_words (ap (λ (k : ℕ). max k (place + length ws)) (sym words) ∙ sym (length-overwritten place ws (content contents f) inside)) in
    written_over name ws quota (files_on contents fs) (body_on contents f) here (test f.mode free) place inside
    (too_many name (files_on contents fs) quota used counted (λ (x : FileBody). record x { words = overwritten place ws x.words }) (body_on contents f) (length f.tracks.items) n (names_differ contents fs h.differ) here s t lt)
  where
    test : (m : ℕ) → m < 2 → false ≡ nat_le 2 m
    test m k = grind (arith, nat_tests)
