-- A call on one directory keeps what holds of all, and no other directory changes.
use Rattle.std.specs.Prelude.{Bool, Option, Some, None}
use Rattle.std.specs.List.{All}
use Rattle.std.proofs.Common.{◌≡◌, ◌≢◌, ℕ, zero, suc, ◌+◌, ◌-◌, ◌<◌, ◌≤◌, List, [], ◌∷◌, set, length, get_or, refl, sym, ◌∙◌, ap, subst, arith, length-set, get_or-set_same, get_or-set_other, inl, inr, true≢false}
use Rattle.std.proofs.lemmas.Bool.{cases_eq}
use Rattle.std.proofs.lemmas.List.{get_or_default}
use Rattle.faults.specs.Faults.{WhereTold}
use Rattle.track_store.specs.Tracks.{count_taken}
use Rattle.track_store.specs.Words.{record_at}
use Rattle.file_tracks.specs.Stored.{files_on, occurs, IsWhole, IsDirectory, StandBeside, LeavesOthers}
use Rattle.file_tracks.specs.Directories.{total, used_all, quota_all, IsOne, AreDirectories}
use Rattle.file_tracks.specs.declared.table.Filed.{Filed}
use Rattle.file_tracks.specs.declared.table.TrackTable.{TrackTable}
use Rattle.file_tracks.specs.Seen.{tells_of}
use Rattle.file_tracks.specs.Kept.{IsAfter}
use Rattle.file_tracks.proofs.Tables.{files_same, occurs_at}

total_at : (t : ℕ) (ds : List TrackTable) (d : ℕ) (e : TrackTable) → d < length ds → occurs t (get_or ds d e).files.items ≤ total t ds
total_at t [] d e h = absurd (omega arith)
total_at t (x ∷ ds) zero e h = omega arith
total_at t (x ∷ ds) (suc d) e h = let k = total_at t ds d e (omega arith) in omega (arith, k)

total_two : (t : ℕ) (ds : List TrackTable) (d j : ℕ) (e : TrackTable) → d < length ds → j < length ds → j ≢ d → occurs t (get_or ds d e).files.items + occurs t (get_or ds j e).files.items ≤ total t ds
total_two t [] d j e h k n = absurd (omega arith)
total_two t (x ∷ ds) zero zero e h k n = absurd (n refl)
total_two t (x ∷ ds) zero (suc j) e h k n = let o = total_at t ds j e (omega arith) in omega (arith, o)
total_two t (x ∷ ds) (suc d) zero e h k n = let o = total_at t ds d e (omega arith) in omega (arith, o)
total_two t (x ∷ ds) (suc d) (suc j) e h k n = let o = total_two t ds d j e (omega arith) (omega arith) (λ s. n (ap suc s)) in omega (arith, o)

total-set : (t : ℕ) (ds : List TrackTable) (d : ℕ) (g e : TrackTable) → d < length ds → total t (set ds d g) + occurs t (get_or ds d e).files.items ≡ total t ds + occurs t g.files.items
total-set t [] d g e h = absurd (omega arith)
total-set t (x ∷ ds) zero g e h = omega arith
total-set t (x ∷ ds) (suc d) g e h = let k = total-set t ds d g e (omega arith) in omega (arith, k)

used_all-set : (ds : List TrackTable) (d : ℕ) (g e : TrackTable) → d < length ds → used_all (set ds d g) + (get_or ds d e).used ≡ used_all ds + g.used
used_all-set [] d g e h = absurd (omega arith)
used_all-set (x ∷ ds) zero g e h = omega arith
used_all-set (x ∷ ds) (suc d) g e h = let k = used_all-set ds d g e (omega arith) in omega (arith, k)

quota_all-set : (ds : List TrackTable) (d : ℕ) (g e : TrackTable) → d < length ds → quota_all (set ds d g) + (get_or ds d e).quota ≡ quota_all ds + g.quota
quota_all-set [] d g e h = absurd (omega arith)
quota_all-set (x ∷ ds) zero g e h = omega arith
quota_all-set (x ∷ ds) (suc d) g e h = let k = quota_all-set ds d g e (omega arith) in omega (arith, k)

used_le : (ds : List TrackTable) → ((d : ℕ) (e : TrackTable) → d < length ds → (get_or ds d e).used ≤ (get_or ds d e).quota) → used_all ds ≤ quota_all ds
used_le [] few = omega arith
used_le (x ∷ ds) few = let a = few 0 x (omega arith) in let b = used_le ds (λ d e h. few (suc d) e (omega (arith, h))) in omega (arith, a, b)

-- all others keep their quotas
others_fit : (ds : List TrackTable) (d : ℕ) (e : TrackTable) → d < length ds → ((d : ℕ) (e : TrackTable) → d < length ds → (get_or ds d e).used ≤ (get_or ds d e).quota)
    → used_all ds + (get_or ds d e).quota ≤ quota_all ds + (get_or ds d e).used
others_fit [] d e h few = absurd (omega arith)
others_fit (x ∷ ds) zero e h few = let b = used_le ds (λ d e h. few (suc d) e (omega (arith, h))) in omega (arith, b)
others_fit (x ∷ ds) (suc d) e h few = let a = few 0 x (omega arith) in let b = others_fit ds d e (omega arith) (λ d e h. few (suc d) e (omega (arith, h))) in omega (arith, a, b)

module _ (contents : Option (List (List ℕ))) (taken : List Bool) (ds : List TrackTable) (all : AreDirectories contents taken ds) (d : ℕ) (e : TrackTable) (low : d < length ds) where
  abbrev pub one : TrackTable
  one = get_or ds d e

  -- so each directory has room for all that its quota still allows
  pub directory_of : IsDirectory contents taken one.quota one.used one.files.items
  directory_of =
      let o = all.each d e low in
      record {
        once = λ t. (let a = total_at t ds d e low in let b = all.once t in omega (arith, a, b));
        few = o.few;
        room = (let a = others_fit ds d e low (λ j x k. (all.each j x k).few) in let b = all.counted in let c = all.fits in omega (arith, a, b, c));
        counted = o.counted;
        tracked = o.tracked;
        modes = o.modes;
        differ = o.differ;
        whole = o.whole;
      }

  -- how often a track stands elsewhere
  abbrev pub elsewhere : ℕ → ℕ
  elsewhere t = total t ds - occurs t one.files.items

  pub beside : StandBeside elsewhere taken one.files.items
  beside t = let a = total_at t ds d e low in let b = all.once t in omega (arith, a, b)

  module _ (contents' : Option (List (List ℕ))) (taken' : List Bool) (g : TrackTable)
      (new : IsDirectory contents' taken' g.quota g.used g.files.items) (leaves : LeavesOthers contents contents' taken taken' one.files.items g.files.items elsewhere)
      (told : contents ≡ None → contents' ≡ None)
      (quota : g.quota ≡ one.quota) (many : length taken' ≡ length taken) (counts : count_taken taken' + one.used ≡ count_taken taken + g.used) where
    was_told : (now : List (List ℕ)) → contents' ≡ Some now → (was : List (List ℕ)) × (contents ≡ Some was)
    was_told now q = by_rows contents refl
      where
        by_rows : (o : Option (List (List ℕ))) → contents ≡ o → (was : List (List ℕ)) × (contents ≡ Some was)
        by_rows None p = absurd (let k = told p in cc)
        by_rows (Some r) p = (r, p)

    -- a track of another directory stands elsewhere
    other_track : (t j : ℕ) → j < length ds → j ≢ d → 1 ≤ occurs t (get_or ds j e).files.items → 1 ≤ elsewhere t
    other_track t j k n some = let a = total_two t ds d j e low k n in omega (arith, a, some)

    kept_row : (was now : List (List ℕ)) → contents ≡ Some was → contents' ≡ Some now → (t j : ℕ) → j < length ds → j ≢ d → 1 ≤ occurs t (get_or ds j e).files.items → record_at now t ≡ record_at was t
    kept_row was now p q t j k n some =
        subst (λ (x : Option (List (List ℕ))). WhereTold x (λ now. (t : ℕ) → 1 ≤ elsewhere t → record_at now t ≡ record_at was t)) q
        (subst (λ (x : Option (List (List ℕ))). WhereTold x (λ was. WhereTold contents' (λ now. (t : ℕ) → 1 ≤ elsewhere t → record_at now t ≡ record_at was t))) p leaves.held)
        t (other_track t j k n some)

    -- no other directory has changed
    pub others_same : (was now : List (List ℕ)) → contents ≡ Some was → contents' ≡ Some now → (j : ℕ) → j < length ds → j ≢ d → files_on now (get_or ds j e).files.items ≡ files_on was (get_or ds j e).files.items
    others_same was now p q j k n = files_same was now (get_or ds j e).files.items (λ t some. kept_row was now p q t j k n some)

    whole_there : (j : ℕ) → j < length ds → j ≢ d → (x : Option (List (List ℕ))) → contents' ≡ x → WhereTold x (λ now. All (IsWhole now) (get_or ds j e).files.items)
    whole_there j k n None q = tt
    whole_there j k n (Some now) q =
        let w = was_told now q in
        let old : All (IsWhole w.0) (get_or ds j e).files.items = subst (λ (x : Option (List (List ℕ))). WhereTold x (λ was. All (IsWhole was) (get_or ds j e).files.items)) w.1 (all.each j e k).whole in
        at_each w.0 w.1 (get_or ds j e).files.items old (λ t some. kept_row w.0 now w.1 q t j k n some)
      where
        at_each : (was : List (List ℕ)) → contents ≡ Some was → (fs : List Filed) → All (IsWhole was) fs → ((t : ℕ) → 1 ≤ occurs t fs → record_at now t ≡ record_at was t) → All (IsWhole now) fs
        at_each was p fs h same = λ i f low t some. ap length (same t (let o = occurs_at t fs i f low in omega (arith, o, some))) ∙ h i f low t some

    pub are_still : AreDirectories contents' taken' (set ds d g)
    are_still = record {
      once = λ t. (let a = total-set t ds d g e low in let b = leaves.beside t in let c = total_at t ds d e low in omega (arith, a, b, c));
      counted = (let a = used_all-set ds d g e low in let b = all.counted in omega (arith, a, b, counts));
      fits = (let a = quota_all-set ds d g e low in let b = all.fits in omega (arith, a, b, quota, many));
      each = λ j x k. elim (cases_eq j d) [
        | inl same ↦
            subst (IsOne contents') (sym (ap (λ (n : ℕ). get_or (set ds d g) n x) same ∙ get_or-set_same ds d g x low))
            (record { few = new.few; counted = new.counted; tracked = new.tracked; modes = new.modes; differ = new.differ; whole = new.whole })
        | inr other ↦
            let within : j < length ds = (let l = length-set ds d g in omega (arith, l, k)) in
            let was = all.each j e within in
            subst (IsOne contents') (sym (get_or-set_other ds d j g x other ∙ get_or_default ds j x e within))
            (record { few = was.few; counted = was.counted; tracked = was.tracked; modes = was.modes; differ = was.differ; whole = whole_there j within other contents' refl })
      ];
    }

none_too : (contents contents' : Option (List (List ℕ))) → tells_of contents' ≡ tells_of contents → contents ≡ None → contents' ≡ None
unfolding tells_of
none_too contents None t e = refl
none_too None (Some r) t e = absurd (true≢false t)
none_too (Some s) (Some r) t e = absurd (let k = e in cc)

-- the same from what a port's calls leave
module _ (contents : Option (List (List ℕ))) (taken : List Bool) (ds : List TrackTable) (all : AreDirectories contents taken ds) (d : ℕ) (e : TrackTable) (low : d < length ds)
    (contents' : Option (List (List ℕ))) (taken' : List Bool) (g : TrackTable) (new : IsDirectory contents' taken' g.quota g.used g.files.items)
    (after : IsAfter contents contents' taken taken' (get_or ds d e) g) (quota : g.quota ≡ (get_or ds d e).quota) where
  leaves : LeavesOthers contents contents' taken taken' (get_or ds d e).files.items g.files.items (elsewhere contents taken ds all d e low)
  leaves = after.others (elsewhere contents taken ds all d e low) (beside contents taken ds all d e low)

  pub all_still : AreDirectories contents' taken' (set ds d g)
  all_still = are_still contents taken ds all d e low contents' taken' g new leaves (none_too contents contents' after.telling) quota after.many after.counts

  pub others_stay : (was now : List (List ℕ)) → contents ≡ Some was → contents' ≡ Some now → (j : ℕ) → j < length ds → j ≢ d → files_on now (get_or ds j e).files.items ≡ files_on was (get_or ds j e).files.items
  others_stay = others_same contents taken ds all d e low contents' taken' g new leaves (none_too contents contents' after.telling) quota after.many after.counts
