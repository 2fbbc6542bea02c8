-- A file that has other tracks with other words in them.
use Rattle.std.specs.Prelude.{Bool, true, false, take, if◌then◌else◌}
use Rattle.std.proofs.Common.{◌≡◌, ℕ, ◌+◌, ◌*◌, ◌<◌, ◌≤◌, List, set, length, get_or, refl, sym, ◌∙◌, ap, subst, arith, length-set, get_or-set_same, get_or-set_other, inl, inr}
use Rattle.std.proofs.lemmas.Bool.{cases_eq}
use Rattle.std.proofs.lemmas.List.{get_or-map, length-map}
use Rattle.std.proofs.lemmas.List.Elements.{All-from_get_or, All-get_or}
use Rattle.std.specs.List.{All}
use Rattle.ctss_types.specs.Names.{NamePair}
use Rattle.ctss_types.specs.declared.file.FileBody.{FileBody}
use Rattle.file_model.specs.Files.{is_named, with_change}
use Rattle.file_map.specs.Directory.{NamesDiffer}
use Rattle.track_store.specs.Tracks.{is_taken}
use Rattle.track_store.proofs.Taken.{taken_below}
use Rattle.track_store.specs.Words.{record_at, tracks_joined}
use Rattle.file_tracks.specs.Places.{count_in, bit}
use Rattle.file_tracks.specs.Stored.{body_on, files_on, occurs, IsWhole}
use Rattle.file_tracks.specs.declared.table.Filed.{Filed}
use Rattle.file_tracks.proofs.Joined.{set_all, joined_same, other_row, whole_rows}
use Rattle.file_tracks.proofs.Tables.{files_set, change_at, occurs_at, occurs_two}

pub bit_le : (taken : List Bool) (t : ℕ) → bit taken t ≤ 1
bit_le taken t = by_bit (is_taken taken t)
  where
    by_bit : (b : Bool) → (if b then 1 else 0) ≤ 1
    by_bit true = omega arith
    by_bit false = omega arith

pub bit_taken : (taken : List Bool) (t : ℕ) → 1 ≤ bit taken t → is_taken taken t ≡ true
bit_taken taken t = by_bit (is_taken taken t)
  where
    by_bit : (b : Bool) → 1 ≤ (if b then 1 else 0) → b ≡ true
    by_bit true h = refl
    by_bit false h = absurd (omega arith)

-- what the tracks of a file and of the disk become
pub record Swaps (taken taken' : List Bool) (old new : List ℕ) : Type 0 where
  pub bits : (t : ℕ) → count_in t new + bit taken t ≡ count_in t old + bit taken' t

module _ (contents : List (List ℕ)) (taken taken' : List Bool) (fs : List Filed) (i : ℕ) (d g : Filed) (padded : List ℕ)
    (inside : i < length fs)
    (once : (t : ℕ) → occurs t fs ≤ bit taken t)
    (swaps : Swaps taken taken' (get_or fs i d).tracks.items g.tracks.items)
    (many : length taken' ≤ length contents)
    (len : length padded ≡ 432 * length g.tracks.items) where
  abbrev contents' : List (List ℕ)
  contents' = set_all contents g.tracks.items padded

  at_most : (t : ℕ) → occurs t fs ≤ 1
  at_most t = let a = once t in let b = bit_le taken t in omega (arith, a, b)

  pub new_once : (t : ℕ) → count_in t g.tracks.items ≤ bit taken' t
  new_once t = let a = once t in let b = occurs_at t fs i d inside in let e = swaps.bits t in omega (arith, a, b, e)

  new_one : (t : ℕ) → count_in t g.tracks.items ≤ 1
  new_one t = let a = new_once t in let b = bit_le taken' t in omega (arith, a, b)

  new_within : (t : ℕ) → 1 ≤ count_in t g.tracks.items → t < length contents
  new_within t some =
      let a = new_once t in
      let b = taken_below taken' t (bit_taken taken' t (omega (arith, a, some))) in
      omega (arith, b, many)

  -- a track of another file isn't among the new ones
  not_new : (t : ℕ) → 1 ≤ occurs t fs → count_in t (get_or fs i d).tracks.items ≡ 0 → count_in t g.tracks.items ≡ 0
  not_new t some none =
      let a = once t in let b = bit_le taken t in let c = bit_le taken' t in let e = swaps.bits t in omega (arith, a, b, c, e, some, none)

  pub new_words : tracks_joined contents' g.tracks.items ≡ padded
  new_words = joined_same contents g.tracks.items padded new_one new_within len

  pub files_are : files_on contents' (set fs i g) ≡ set (files_on contents fs) i (body_on contents' g)
  files_are = files_set contents contents' fs i g d inside at_most (λ t some none. other_row contents g.tracks.items padded t (not_new t some none))

  -- tracks that stand elsewhere keep their words
  pub elsewhere : (others : ℕ → ℕ) → ((t : ℕ) → others t + occurs t fs ≡ bit taken t) → (t : ℕ) → 1 ≤ others t → record_at contents' t ≡ record_at contents t
  elsewhere others beside t some =
      other_row contents g.tracks.items padded t
      (let a = beside t in let b = bit_le taken t in let c = bit_le taken' t in let e = swaps.bits t in let o = occurs_at t fs i d inside in omega (arith, a, b, c, e, o, some))

  module _ (name : NamePair) (differ : NamesDiffer (files_on contents fs)) (named : is_named name (body_on contents (get_or fs i d)) ≡ true)
      (same_name : g.name ≡ (get_or fs i d).name) (same_mode : g.mode ≡ (get_or fs i d).mode) where
    -- the file's words are the new ones, and no other file has changed
    pub replaced : files_on contents' (set fs i g) ≡ with_change name (λ f. record f { words = take g.words padded }) (files_on contents fs)
    replaced =
        let at : get_or (files_on contents fs) i (body_on contents d) ≡ body_on contents (get_or fs i d) = get_or-map (body_on contents) fs i d (body_on contents d) inside in
        let here : i < length (files_on contents fs) = let l = length-map fs (body_on contents) in omega (arith, l, inside) in
        files_are
        ∙ ap (set (files_on contents fs) i) (λ j. record { name = same_name j; mode = same_mode j; words = take g.words (new_words j) })
        ∙ ap (λ (f : FileBody). set (files_on contents fs) i (record f { words = take g.words padded })) (sym at)
        ∙ sym (change_at name (λ f. record f { words = take g.words padded }) (files_on contents fs) i (body_on contents d) here differ (ap (is_named name) at ∙ named))

  -- every track of a file is whole
  pub whole_still : All (IsWhole contents) fs → All (IsWhole contents') (set fs i g)
  whole_still all =
      All-from_get_or (IsWhole contents') (set fs i g) d (λ j low. elim (cases_eq j i) [
        | inl same ↦
            subst (λ (f : Filed). IsWhole contents' f) (sym (ap (λ (n : ℕ). get_or (set fs i g) n d) same ∙ get_or-set_same fs i g d inside))
            (λ t some. whole_rows contents g.tracks.items padded new_one new_within len t some)
        | inr other ↦
            let within : j < length fs = let l = length-set fs i g in omega (arith, l, low) in
            let was : IsWhole contents (get_or fs j d) = All-get_or (IsWhole contents) fs j d within all in
            subst (λ (f : Filed). IsWhole contents' f) (sym (get_or-set_other fs i j g d other))
            (λ t some.
            let two = occurs_two t fs i j d inside within other in
            let most = at_most t in
            let here = occurs_at t fs j d within in
            ap length (other_row contents g.tracks.items padded t (not_new t (omega (arith, here, some)) (omega (arith, two, most, some)))) ∙ was t some)
      ])
