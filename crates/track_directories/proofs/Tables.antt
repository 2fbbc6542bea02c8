-- What a call on one directory leaves of all.
use Rattle.std.specs.Prelude.{Bool, false, Option, Some, None, Ok, Err, slice_set, IfOk, IsErrOf}
use Rattle.std.specs.declared.result.Result.{Result}
use Rattle.std.specs.List.{All}
use Rattle.std.proofs.Common.{◌≡◌, ◌≢◌, ℕ, ◌-◌, ◌<◌, ◌≤◌, List, [], map, set, length, get_or, refl, sym, ◌∙◌, ap, subst, arith, length-set, get_or-set_same, get_or-set_other, inl, inr, true≢false}
use Rattle.std.proofs.Math.Seq.{map-set_same}
use Rattle.std.proofs.lemmas.Bool.{cases_lt}
use Rattle.std.proofs.Math.ListN.{get_or-eq_default}
use Rattle.std.proofs.lemmas.List.{get_or-map, length-map}
use Rattle.std.proofs.lemmas.List.Elements.{All-get_or, All-set}
use Rattle.ctss_types.specs.declared.file.FileBody.{FileBody}
use Rattle.ctss_types.specs.declared.fault.StepFault.{StepFault}
use Rattle.ctss_types.specs.declared.fault.StepFault.TheVariants.{Disk}
use Rattle.ctss_types.specs.declared.file.CommonOp.{CommonOp}
use Rattle.ctss_types.specs.declared.file.Reply.{Reply}
use Rattle.file_map.specs.Applied.{IsApplied}
use Rattle.file_model.specs.Commons.{ReplyFits}
use Rattle.file_model.specs.Files.{lasting}
use Rattle.user_model.specs.Inner.{Stored}
use Rattle.user_session.specs.Stores.{stored, Over}
use Rattle.track_directories.specs.Directories.{KeepsUsers, LeavesRest, ServesUser, Shares, Drops}
use Rattle.file_tracks.specs.Stored.{files_on, IsDirectory}
use Rattle.file_tracks.specs.Seen.{tells_of, files_seen}
use Rattle.file_tracks.specs.declared.table.Filed.{Filed}
use Rattle.file_tracks.specs.declared.table.TrackTable.{TrackTable}
use Rattle.file_tracks.specs.Kept.{CallsLeave, goes_both}
use Rattle.file_tracks.proofs.Every.{directory_of, all_still, others_stay}
use Rattle.file_tracks.specs.Tracked.{Tracked, files_in, IsReady}
use Rattle.track_directories.specs.Tables.{files_at, quota_at, state_of, IsSound}
use Rattle.track_directories.specs.Calls.{LeavesOne}

-- what a table at a place shows
at_map : {X : Type 0} (f : TrackTable → X) (ds : List TrackTable) (j : ℕ) (e : TrackTable) (x : X) → j < length ds → get_or (map f ds) j x ≡ f (get_or ds j e)
at_map f ds j e x low = get_or-map f ds j e x low

-- nothing is shown past the end
at_past : (f : TrackTable → List FileBody) (ds : List TrackTable) (j : ℕ) → length ds ≤ j → get_or (map f ds) j [] ≡ []
at_past f ds j past = get_or-eq_default (map f ds) [] (let l = length-map ds f in omega (arith, l, past))

-- tables other than the one that was changed show what they showed
at_other : (f g : TrackTable → List FileBody) (ds : List TrackTable) (u j : ℕ) (d' e : TrackTable) → j ≢ u → (j < length ds → f (get_or ds j e) ≡ g (get_or ds j e))
    → get_or (map f (set ds u d')) j [] ≡ get_or (map g ds) j []
at_other f g ds u j d' e other same = elim (cases_lt j (length ds)) [
  | inr past ↦ (let l = length-set ds u d' in at_past f (set ds u d') j (omega (arith, l, past))) ∙ sym (at_past g ds j past)
  | inl low ↦
      (let l = length-set ds u d' in at_map f (set ds u d') j e [] (omega (arith, l, low)))
      ∙ ap f (get_or-set_other ds u j d' e other)
      ∙ same low
      ∙ sym (at_map g ds j e [] low)
]

-- files whose tracks hold what they held are seen as they were
seen_stays : (o o' : Option (List (List ℕ))) (fs : List Filed) → tells_of o' ≡ tells_of o
    → ((was now : List (List ℕ)) → o ≡ Some was → o' ≡ Some now → files_on now fs ≡ files_on was fs) → files_seen o' fs ≡ files_seen o fs
unfolding tells_of files_seen
seen_stays None None fs told same = refl
seen_stays None (Some now) fs told same = absurd (true≢false told)
seen_stays (Some was) None fs told same = absurd (true≢false (sym told))
seen_stays (Some was) (Some now) fs told same = same was now refl refl

-- a user's number is that of a table
pub user_within : (s : Tracked) (tables : List TrackTable) → IsSound s tables → (u v : ℕ) → v ≡ u → u ≤ length tables - 1 → v < length tables
user_within s tables sound u v same low = let some = sound.some in omega (arith, some, same, low)

-- each table is that of a directory
pub all_ready : (s : Tracked) (tables : List TrackTable) → IsSound s tables → All (λ (t : TrackTable). IsDirectory s.contents s.taken t.quota t.used t.files.items) tables
all_ready s tables sound k d low = directory_of s.contents s.taken tables sound.all k d low

pub if_ok_map : {A E : Type 0} {P Q : A → Type 0} (r : Result A E) → ((x : A) → P x → Q x) → IfOk r P → IfOk r Q
if_ok_map (Ok x) f h = f x h
if_ok_map (Err e) f h = tt

module _ (old : Tracked) (tables : List TrackTable) (sound : IsSound old tables) (u : ℕ) (low : u < length tables) (d : TrackTable) (is : d ≡ get_or tables u d) where
  pub ready_at : IsReady old d
  ready_at = subst (IsReady old) (sym is) (record {
    directory = directory_of old.contents old.taken tables sound.all u d low;
    serves = sound.serves;
    small = All-get_or (λ (t : TrackTable). t.quota < 65536) tables u d low sound.small;
    well = refl;
  })

  pub quota_was : quota_at tables u ≡ d.quota
  quota_was = at_map (λ (t : TrackTable). t.quota) tables u d 0 low ∙ ap (λ (t : TrackTable). t.quota) (sym is)

  pub mine_was : files_at old.contents tables u ≡ files_in old d
  mine_was = at_map (λ (t : TrackTable). files_seen old.contents t.files.items) tables u d [] low ∙ ap (files_in old) (sym is)

  module _ (new : Tracked) (d' : TrackTable) where
    pub mine_now : files_at new.contents (slice_set tables u d') u ≡ files_in new d'
    mine_now =
        let l = length-set tables u d' in
        at_map (λ (t : TrackTable). files_seen new.contents t.files.items) (set tables u d') u d [] (omega (arith, l, low))
        ∙ ap (λ (t : TrackTable). files_seen new.contents t.files.items) (get_or-set_same tables u d' d low)

    -- what is said of the files of the directory is said of the user's
    over_at : (tells : Bool) (words words' : List ℕ) (R : Stored → Stored → Type 0) → Over tells (stored words (files_in old d)) (stored words' (files_in new d')) R
        → Over tells (stored words (files_at old.contents tables u)) (stored words' (files_at new.contents (slice_set tables u d') u)) R
    over_at tells words words' R h =
        subst (λ (fs : List FileBody). Over tells (stored words fs) (stored words' (files_at new.contents (slice_set tables u d') u)) R) (sym mine_was)
        (subst (λ (fs : List FileBody). Over tells (stored words (files_in old d)) (stored words' fs) R) (sym mine_now) h)

    -- for the user of this number
    pub over_for : (v : ℕ) → u ≡ v → (tells : Bool) (words words' : List ℕ) (R : Stored → Stored → Type 0) → Over tells (stored words (files_in old d)) (stored words' (files_in new d')) R
        → Over tells (stored words (files_at old.contents tables v)) (stored words' (files_at new.contents (slice_set tables u d') v)) R
    over_for v same tells words words' R h =
        subst (λ (n : ℕ). Over tells (stored words (files_at old.contents tables n)) (stored words' (files_at new.contents (slice_set tables u d') n)) R) same (over_at tells words words' R h)

    module _ {T : Type 0} (result : Result T StepFault) (leaves : LeavesOne result old new d d') where
      at_place : LeavesOne result old new (get_or tables u d) d'
      at_place = subst (λ (x : TrackTable). LeavesOne result old new x d') is leaves

      pub sound_at : ¬ IsErrOf result Disk → IsSound new (slice_set tables u d')
      sound_at usable = record {
        all = all_still old.contents old.taken tables sound.all u d low new.contents new.taken d' (leaves.ready usable).directory (at_place.after usable) at_place.quota;
        serves = (leaves.ready usable).serves;
        small = All-set (λ (t : TrackTable). t.quota < 65536) tables u d' (leaves.ready usable).small sound.small;
        some = (let l = length-set tables u d' in let s = sound.some in omega (arith, l, s));
      }

      pub users_at : KeepsUsers (state_of old tables) (state_of new (slice_set tables u d'))
      users_at =
          let quotas = map-set_same (λ (t : TrackTable). t.quota) tables u d' d at_place.quota in
          record {
            may = λ j. ap (λ (qs : List ℕ). get_or qs j 0) quotas;
            common = ap (λ (qs : List ℕ). get_or qs 0 0) quotas;
            count = ap (λ (n : ℕ). n - 1) (length-set tables u d');
          }

      pub others_at : ¬ IsErrOf result Disk → (j : ℕ) → j ≢ u → files_at new.contents (slice_set tables u d') j ≡ files_at old.contents tables j
      others_at usable j other =
          at_other (λ (t : TrackTable). files_seen new.contents t.files.items) (λ (t : TrackTable). files_seen old.contents t.files.items) tables u j d' d other
          (λ within. seen_stays old.contents new.contents (get_or tables j d).files.items (leaves.after usable).telling
          (λ was now p q. others_stay old.contents old.taken tables sound.all u d low new.contents new.taken d' (leaves.ready usable).directory (at_place.after usable) at_place.quota was now p q j within other))

      rest_at : 1 ≤ u → ¬ IsErrOf result Disk → LeavesRest u (state_of old tables) (state_of new (slice_set tables u d'))
      rest_at user usable = record {
        others = λ j some other. others_at usable j other;
        common = others_at usable 0 (let n : 0 ≢ u = omega arith in n);
        tells = (leaves.after usable).telling;
      }

      serves_here : 1 ≤ u → ServesUser u result (state_of old tables) (state_of new (slice_set tables u d'))
      serves_here user = record {
        users = users_at;
        rest = rest_at user;
        left = λ memory. mine_now ∙ leaves.left memory ∙ sym mine_was;
        faults = leaves.faults;
        cause = leaves.cause;
      }

      -- for the user of this number
      pub serves_at : (v : ℕ) → u ≡ v → 1 ≤ u → ServesUser v result (state_of old tables) (state_of new (slice_set tables u d'))
      serves_at v same user = subst (λ (n : ℕ). ServesUser n result (state_of old tables) (state_of new (slice_set tables u d'))) same (serves_here user)

    -- a user's files of mode 0 go
    module _ (leaves : LeavesOne {T = Unit {0}} (Ok tt) old new d d') (faults : new.faults ≡ old.faults) (left : files_in new d' ≡ lasting (files_in old d)) where
      drops_here : 1 ≤ u → Drops u (state_of old tables) (state_of new (slice_set tables u d'))
      drops_here user = record {
        users = users_at (Ok tt) leaves;
        rest = rest_at (Ok tt) leaves user (λ x. let e = x in cc);
        mine = mine_now ∙ left ∙ ap lasting (sym mine_was);
        faults = faults;
      }

      pub drops_at : (v : ℕ) → u ≡ v → 1 ≤ u → Drops v (state_of old tables) (state_of new (slice_set tables u d'))
      drops_at v same user = subst (λ (n : ℕ). Drops n (state_of old tables) (state_of new (slice_set tables u d'))) same (drops_here user)

      pub sound_then : IsSound new (slice_set tables u d')
      sound_then = sound_at (Ok tt) leaves (λ x. let e = x in cc)

-- an operation on the common files
module _ (old : Tracked) (tables : List TrackTable) (sound : IsSound old tables) (low : 0 < length tables) (d : TrackTable) (is : d ≡ get_or tables 0 d)
    (new : Tracked) (d' : TrackTable) (result : Result Reply StepFault) (leaves : LeavesOne result old new d d') where
  pub shares_at : (op : CommonOp) → IfOk result (λ reply. IsApplied (tells_of old.contents) d.quota op reply (files_in old d) (files_in new d')) → IfOk result ReplyFits
      → Shares op result (state_of old tables) (state_of new (slice_set tables 0 d'))
  shares_at op done fits = record {
    users = users_at old tables sound 0 low d is new d' result leaves;
    done =
        if_ok_map result
        (λ reply h.
        subst (λ (n : ℕ). IsApplied (tells_of old.contents) n op reply (files_at old.contents tables 0) (files_at new.contents (slice_set tables 0 d') 0)) (sym (quota_was old tables sound 0 low d is))
        (subst (λ (fs : List FileBody). IsApplied (tells_of old.contents) d.quota op reply fs (files_at new.contents (slice_set tables 0 d') 0)) (sym (mine_was old tables sound 0 low d is))
        (subst (λ (fs : List FileBody). IsApplied (tells_of old.contents) d.quota op reply (files_in old d) fs) (sym (mine_now old tables sound 0 low d is new d')) h)))
        done;
    fits = fits;
    own = λ usable j some. others_at old tables sound 0 low d is new d' result leaves usable j (let n : j ≢ 0 = omega arith in n);
    tells = λ usable. (leaves.after usable).telling;
    left = λ memory. mine_now old tables sound 0 low d is new d' ∙ leaves.left memory ∙ sym (mine_was old tables sound 0 low d is);
    faults = leaves.faults;
    cause = leaves.cause;
  }

-- what two calls on one directory leave, both of which were done
pub both_leave : {old mid new : Tracked} {d dm d' : TrackTable} → LeavesOne {T = Unit {0}} (Ok tt) old mid d dm → LeavesOne {T = Unit {0}} (Ok tt) mid new dm d' → LeavesOne {T = Unit {0}} (Ok tt) old new d d'
both_leave {old = old} {mid = mid} {new = new} {d = d} {dm = dm} {d' = d'} one two =
    let goes : (s s' : Tracked) (e e' : TrackTable) → LeavesOne {T = Unit {0}} (Ok tt) s s' e e' → CallsLeave s.contents s'.contents s.taken s'.taken s.faults s'.faults e e' false false = λ s s' e e' l. record {
      quota = l.quota;
      rises = l.faults;
      after = λ well. (refl, l.after (λ x. cc));
    } in
    let both = goes_both (goes old mid d dm one) (goes mid new dm d' two) in
    record {
      quota = both.quota;
      ready = two.ready;
      after = λ usable. (both.after refl).1;
      left = λ x. absurd (let e = x in cc);
      faults = both.rises;
      cause = λ x. absurd (let e = x in cc);
    }
