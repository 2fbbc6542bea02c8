-- A file that has some tracks more, and other words in some of its tracks.
use Rattle.std.specs.Prelude.{Bool, true, take, drop}
use Rattle.std.specs.List.{All}
use Rattle.std.proofs.Common.{◌≡◌, ℕ, ◌+◌, ◌<◌, ◌≤◌, List, set, length, get_or, sym, ◌∙◌, ap, subst, arith, length-set, get_or-set_same, get_or-set_other, inl, inr}
use Rattle.std.proofs.lemmas.Bool.{cases_eq}
use Rattle.std.proofs.lemmas.List.{take-append-drop}
use Rattle.std.proofs.lemmas.List.Elements.{All-from_get_or, All-get_or}
use Rattle.ctss_types.specs.Names.{NamePair}
use Rattle.file_model.specs.Files.{is_named}
use Rattle.file_map.specs.Directory.{NamesDiffer}
use Rattle.track_store.specs.Words.{record_at}
use Rattle.file_tracks.specs.Places.{count_in, bit}
use Rattle.file_tracks.specs.Stored.{content, body_on, files_on, occurs, IsWhole}
use Rattle.file_tracks.specs.declared.table.Filed.{Filed}
use Rattle.file_tracks.proofs.Bits.{count_append}
use Rattle.file_tracks.proofs.Replaced.{Swaps, bit_le}
use Rattle.file_tracks.proofs.Tables.{files_set, occurs_at, occurs_two}

-- only tracks of the changed file have other words
module _ (contents contents' : List (List ℕ)) (taken taken' : List Bool) (fs : List Filed) (i : ℕ) (d g : Filed)
    (inside : i < length fs) (once : (t : ℕ) → occurs t fs ≤ bit taken t)
    (swaps : Swaps taken taken' (get_or fs i d).tracks.items g.tracks.items)
    (same : (t : ℕ) → count_in t g.tracks.items ≡ 0 → record_at contents' t ≡ record_at contents t) where
  at_most : (t : ℕ) → occurs t fs ≤ 1
  at_most t = let a = once t in let b = bit_le taken t in omega (arith, a, b)

  not_new : (t : ℕ) → 1 ≤ occurs t fs → count_in t (get_or fs i d).tracks.items ≡ 0 → count_in t g.tracks.items ≡ 0
  not_new t some none = let a = once t in let b = bit_le taken t in let c = bit_le taken' t in let e = swaps.bits t in omega (arith, a, b, c, e, some, none)

  pub changed_elsewhere : (others : ℕ → ℕ) → ((t : ℕ) → others t + occurs t fs ≡ bit taken t) → (t : ℕ) → 1 ≤ others t → record_at contents' t ≡ record_at contents t
  changed_elsewhere others beside t some =
      same t (let a = beside t in let b = bit_le taken t in let c = bit_le taken' t in let e = swaps.bits t in let o = occurs_at t fs i d inside in omega (arith, a, b, c, e, o, some))

  pub changed_whole : All (IsWhole contents) fs → IsWhole contents' g → All (IsWhole contents') (set fs i g)
  changed_whole all here =
      All-from_get_or (IsWhole contents') (set fs i g) d (λ j low. elim (cases_eq j i) [
        | inl is ↦ subst (λ (f : Filed). IsWhole contents' f) (sym (ap (λ (n : ℕ). get_or (set fs i g) n d) is ∙ get_or-set_same fs i g d inside)) here
        | inr other ↦
            let within : j < length fs = let l = length-set fs i g in omega (arith, l, low) in
            let was : IsWhole contents (get_or fs j d) = All-get_or (IsWhole contents) fs j d within all in
            subst (λ (f : Filed). IsWhole contents' f) (sym (get_or-set_other fs i j g d other))
            (λ t some.
            let two = occurs_two t fs i j d inside within other in
            let most = at_most t in
            let at = occurs_at t fs j d within in
            ap length (same t (not_new t (omega (arith, at, some)) (omega (arith, two, most, some)))) ∙ was t some)
      ])

  pub changed_file : (name : NamePair) (words : List ℕ) → NamesDiffer (files_on contents fs) → is_named name (body_on contents (get_or fs i d)) ≡ true
      → g.name ≡ (get_or fs i d).name → g.mode ≡ (get_or fs i d).mode → content contents' g ≡ words
      → files_on contents' (set fs i g) ≡ set (files_on contents fs) i (record (body_on contents (get_or fs i d)) { words = words })
  changed_file name words differ named same_name same_mode is =
      files_set contents contents' fs i g d inside at_most (λ t some none. same t (not_new t some none))
      ∙ ap (set (files_on contents fs) i) (λ j. record { name = same_name j; mode = same_mode j; words = is j })

-- tracks that stand in a part of a list stand in the list
pub count_take : (t n : ℕ) (ts : List ℕ) → count_in t (take n ts) ≤ count_in t ts
count_take t n ts = let e = count_append t (take n ts) (drop n ts) in let a = ap (count_in t) (take-append-drop n ts) in omega (arith, e, a)

pub count_drop : (t n : ℕ) (ts : List ℕ) → count_in t (drop n ts) ≤ count_in t ts
count_drop t n ts = let e = count_append t (take n ts) (drop n ts) in let a = ap (count_in t) (take-append-drop n ts) in omega (arith, e, a)

pub count_split : (t n : ℕ) (ts : List ℕ) → count_in t ts ≡ count_in t (take n ts) + count_in t (drop n ts)
count_split t n ts = ap (count_in t) (sym (take-append-drop n ts)) ∙ count_append t (take n ts) (drop n ts)
