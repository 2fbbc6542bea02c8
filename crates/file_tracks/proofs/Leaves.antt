-- What a call that may write leaves, by what happened.
use Rattle.std.specs.Prelude.{◌-◌, Bool, Option, Some, None, Ok, Err, Vec, take, drop, max}
use Rattle.std.specs.declared.alloc.Global.{Global}
use Rattle.std.specs.declared.result.Result.{Result}
use Rattle.std.specs.List.{All}
use Rattle.std.proofs.Common.{◌≡◌, ℕ, ◌+◌, ◌*◌, ◌<◌, ◌≤◌, List, [], ◌∷◌, ◌++◌, set, length, get_or, refl, sym, ◌∙◌, ap, subst, arith, le_refl}
use Rattle.ctss_types.specs.Names.{NamePair}
use Rattle.ctss_types.specs.declared.file.FileBody.{FileBody}
use Rattle.ctss_types.specs.declared.file.Refusal.{Refusal}
use Rattle.ctss_types.specs.declared.fault.StepFault.{StepFault}
use Rattle.file_model.specs.Files.{file_named, put, written, if_they_fit, with_new, tracks_of_words}
use Rattle.file_map.specs.declared.fault.PortFault.{PortFault}
use Rattle.file_map.specs.declared.fault.PortFault.TheVariants.{Refused}
use Rattle.medium.specs.declared.medium.Medium.{Ghosts}
use Rattle.track_store.specs.Tracks.{count_taken}
use Rattle.track_store.specs.declared.store.TrackStore.{TrackStore}
use Rattle.file_tracks.specs.Places.{count_in, bit}
use Rattle.file_tracks.specs.Stored.{body_on, files_on, IsWhole, IsDirectory, MayBe, StandBeside, LeavesOthers}
use Rattle.file_tracks.specs.Seen.{tells_of}
use Rattle.file_tracks.specs.Kept.{after_none}
use Rattle.file_tracks.specs.Written.{AreRetaken, AreWritten, AreWrittenOver, from_track, to_track}
use Rattle.file_tracks.specs.Tracked.{Tracked, tracked, IsReady, Writes, Retakes}
use Rattle.file_tracks.specs.declared.table.Filed.{Filed}
use Rattle.file_tracks.specs.declared.table.TrackTable.{TrackTable}
use Rattle.file_tracks.proofs.Refusals.{any_refused, any_told, reaches}
use Rattle.file_tracks.proofs.Rows.{tells_still}
use Rattle.file_tracks.proofs.Puts.{put_works, put_others, put_any}
use Rattle.file_tracks.proofs.Made.{made_works, made_others, made_any}
use Rattle.file_tracks.proofs.Wrote.{write_works, write_others, write_any}

-- what was written: other files stand in other tracks, as the definition tells
pub record IsDone (told : List FileBody → Result (List FileBody) Refusal) (o o' : Option (List (List ℕ))) (taken taken' : List Bool) (quota used : ℕ) (fs : List Filed) (used' : ℕ) (fs' : List Filed) : Type 0 where
  pub any : (was : List (List ℕ)) → MayBe o was → length taken ≤ length was → All (IsWhole was) fs
      → (now : List (List ℕ)) × (MayBe o' now × (All (IsWhole now) fs' × (told (files_on was fs) ≡ Ok (files_on now fs'))))
  pub on : IsDirectory o' taken' quota used' fs'
  pub telling : tells_of o' ≡ tells_of o
  pub counts : count_taken taken' + used ≡ count_taken taken + used'
  pub others : (others : ℕ → ℕ) → StandBeside others taken fs → LeavesOthers o o' taken taken' fs fs' others

module _ (told : List FileBody → Result (List FileBody) Refusal) (s : Tracked) (d : TrackTable) (ready : IsReady s d) where
  -- it was refused
  pub writes_refused : (r : Refusal) → ((contents : List (List ℕ)) → All (IsWhole contents) d.files.items → told (files_on contents d.files.items) ≡ Err r)
      → Writes {T = Unit {0}} told (Err (Refused r)) s s d d
  writes_refused r h = record {
    any = λ ok. any_refused told r s.contents (length s.taken) d.files.items h;
    ready = λ ok. ready;
    after = λ ok. after_none s.contents s.taken d;
    quota = refl;
    many = refl;
    serves = ready.serves;
    faults = le_refl s.faults;
    cause = λ e. absurd (let x = e in cc);
  }

module _ {F : Type 0} (g : Ghosts F) (told : List FileBody → Result (List FileBody) Refusal) (a b : TrackStore F) (d d' : TrackTable) (ready : IsReady (tracked g a) d)
    {T : Type 0} (result : Result T StepFault) (store : Retakes g result a b) (quota : d'.quota ≡ d.quota) where
  -- it was done
  pub writes_done : IsDone told (tracked g a).contents (tracked g b).contents (tracked g a).taken (tracked g b).taken d.quota d.used d.files.items d'.used d'.files.items
      → Writes {T = Unit {0}} told (Ok tt) (tracked g a) (tracked g b) d d'
  writes_done done = record {
    any = λ ok. done.any;
    ready = λ ok. record {
      directory = subst (λ (q : ℕ). IsDirectory (tracked g b).contents (tracked g b).taken q d'.used d'.files.items) (sym quota) done.on;
      serves = store.serves;
      small = subst (λ (q : ℕ). q < 65536) (sym quota) ready.small;
      well = refl;
    };
    after = λ ok. record { telling = done.telling; many = store.many; counts = done.counts; others = done.others };
    quota = quota;
    many = store.many;
    serves = store.serves;
    faults = store.faults;
    cause = λ e. absurd (let x = e in cc);
  }

-- another definition tells the same
pub writes_told : {s s' : Tracked} {d d' : TrackTable} (result : Result (Unit {0}) PortFault) (told told' : List FileBody → Result (List FileBody) Refusal)
    → ((contents : List (List ℕ)) → All (IsWhole contents) d.files.items → told' (files_on contents d.files.items) ≡ told (files_on contents d.files.items))
    → Writes told result s s' d d' → Writes told' result s s' d d'
writes_told {s = s} {s' = s'} {d = d} {d' = d'} result told told' same w = record {
  any = λ ok. any_told result told told' s.contents s'.contents (length s.taken) d.files.items d'.files.items same (w.any ok);
  ready = w.ready;
  after = w.after;
  quota = w.quota;
  many = w.many;
  serves = w.serves;
  faults = w.faults;
  cause = w.cause;
}

module _ (s : Tracked) (d : TrackTable) (ready : IsReady s d) (o' : Option (List (List ℕ))) (taken' : List Bool) (now n : ℕ) (v : Vec ℕ Global) (ws : List ℕ) (name : NamePair)
    (many : length taken' ≡ length s.taken) (few : now ≤ d.quota) where
  -- a file behind the others
  module _ (tracks : n ≡ tracks_of_words (length ws)) (retaken : AreRetaken s.taken taken' [] v.items n) (w : AreWritten ws v.items s.contents o')
      (sum : now ≡ d.used + n) (absent : (contents : List (List ℕ)) → file_named name (files_on contents d.files.items) ≡ None) where
    abbrev pub new_file : Filed
    new_file = record { name = name; mode = 1; words = length ws; tracks = v }

    counts : count_taken taken' ≡ count_taken s.taken + n
    counts = let a = retaken.counts in omega (arith, a)

    pub made_leaves : IsDone (λ (files : List FileBody). if_they_fit d.quota (with_new name ws files)) s.contents o' s.taken taken' d.quota d.used d.files.items now (d.files.items ++ new_file ∷ [])
    made_leaves =
        let o = s.contents in
        let fs = d.files.items in
        let reach = reaches o s.count (length s.taken) ready.serves.shape ready.serves.within in
        let swaps : (t : ℕ) → count_in t v.items + bit s.taken t ≡ bit taken' t = λ t. (let a = retaken.bits t in omega (arith, a)) in
        let long = w.whole ∙ ap (λ (k : ℕ). 432 * k) retaken.len in
        subst (λ (p : Option (List (List ℕ))). IsDone (λ (files : List FileBody). if_they_fit d.quota (with_new name ws files)) o p s.taken taken' d.quota d.used fs now (fs ++ new_file ∷ [])) (sym w.contents)
        (record {
          any = made_any o s.taken taken' d.quota d.used now n fs v ws w.bits name ready.directory reach swaps many retaken.len tracks long w.front sum few counts absent;
          on = made_works o s.taken taken' d.quota d.used now n fs v ws w.bits name ready.directory reach swaps many retaken.len tracks long w.front sum few counts absent;
          telling = tells_still o v.items w.bits;
          counts = omega (arith, counts, sum);
          others = made_others o s.taken taken' d.quota d.used now n fs v ws w.bits name ready.directory reach swaps many retaken.len tracks long w.front sum few counts absent;
        })

  -- other words for the file at a place
  module _ (i : ℕ) (f : Filed) (low : i < length d.files.items) (is : f ≡ get_or d.files.items i f)
      (found : (contents : List (List ℕ)) (e : Filed) → file_named name (files_on contents d.files.items) ≡ Some (body_on contents (get_or d.files.items i e))) (free : f.mode < 2)
      (retaken : AreRetaken s.taken taken' f.tracks.items v.items n) (sum : now + length f.tracks.items ≡ d.used + n) where
    counts_set : count_taken taken' + d.used ≡ count_taken s.taken + now
    counts_set = let a = retaken.counts in omega (arith, a, sum)

    pub put_leaves : n ≡ tracks_of_words (length ws) → AreWritten ws v.items s.contents o'
        → IsDone (put name ws d.quota) s.contents o' s.taken taken' d.quota d.used d.files.items now (set d.files.items i (record { name = f.name; mode = f.mode; words = length ws; tracks = v }))
    put_leaves tracks w =
        let o = s.contents in
        let fs = d.files.items in
        let reach = reaches o s.count (length s.taken) ready.serves.shape ready.serves.within in
        let long = w.whole ∙ ap (λ (k : ℕ). 432 * k) retaken.len in
        subst (λ (p : Option (List (List ℕ))). IsDone (put name ws d.quota) o p s.taken taken' d.quota d.used fs now (set fs i (record { name = f.name; mode = f.mode; words = length ws; tracks = v }))) (sym w.contents)
        (record {
          any = put_any o s.taken taken' d.quota d.used now n fs i f v ws w.bits ready.directory low is reach retaken.bits many retaken.len tracks long w.front sum few retaken.counts name found free;
          on = put_works o s.taken taken' d.quota d.used now n fs i f v ws w.bits ready.directory low is reach retaken.bits many retaken.len tracks long w.front sum few retaken.counts;
          telling = tells_still o v.items w.bits;
          counts = counts_set;
          others = put_others o s.taken taken' d.quota d.used now n fs i f v ws w.bits ready.directory low is reach retaken.bits many retaken.len tracks long w.front sum few retaken.counts;
        })

    pub write_leaves : (place : ℕ) → n ≡ tracks_of_words (max f.words (place + length ws)) → take (length f.tracks.items) v.items ≡ f.tracks.items → place ≤ f.words
        → AreWrittenOver place ws f.tracks.items v.items s.contents o'
        → IsDone (written name place ws d.quota) s.contents o' s.taken taken' d.quota d.used d.files.items now (set d.files.items i (record { name = f.name; mode = f.mode; words = max f.words (place + length ws); tracks = v }))
    write_leaves place tracks front below w =
        let o = s.contents in
        let fs = d.files.items in
        let from = from_track place in
        let to = to_track place (length ws) in
        let reach = reaches o s.count (length s.taken) ready.serves.shape ready.serves.within in
        subst (λ (p : Option (List (List ℕ))). IsDone (written name place ws d.quota) o p s.taken taken' d.quota d.used fs now (set fs i (record { name = f.name; mode = f.mode; words = max f.words (place + length ws); tracks = v }))) (sym w.contents)
        (record {
          any = write_any o s.taken taken' d.quota d.used now n fs i f v ws w.bits place from to ready.directory low is retaken.bits many retaken.len tracks front below refl refl w.told sum few retaken.counts name found free;
          on = write_works o s.taken taken' d.quota d.used now n fs i f v ws w.bits place from to ready.directory low is reach retaken.bits many retaken.len tracks front below refl refl w.whole w.told sum few retaken.counts;
          telling = tells_still o (take (to - from) (drop from v.items)) w.bits;
          counts = counts_set;
          others = write_others o s.taken taken' d.quota d.used now n fs i f v ws w.bits place from to ready.directory low is reach retaken.bits many retaken.len tracks front below refl refl w.whole w.told sum few retaken.counts;
        })
