-- claim: what a call of the disk leaves of a store of tracks.
use Rattle.std.specs.Prelude.{◌≡◌, ◌≤◌, ℕ, List, length, is_err, OnOk, OnErr}
use Rattle.std.specs.declared.result.Result.{Result}
use Rattle.faults.specs.Faults.{Rose}
use Rattle.medium.specs.Medium.{AreWords, read_call, write_call, with_call, with_record, Reads}
use Rattle.medium.specs.declared.medium.Medium.{Ghosts}
use Rattle.track_store.specs.Tracks.{ServesTracks}
use Rattle.track_store.specs.declared.store.TrackStore.{TrackStore}

module _ {F : Type 0} (g : Ghosts F) where
  -- the disk serves the tracks
  abbrev pub IsServed : TrackStore F → Type 0
  IsServed s = ServesTracks (g.contents s.disk.now) (g.record_count s.disk.now) (g.words_each s.disk.now) (length s.tracks.taken.items)

  -- A call of the disk leaves, done or not: the same disk, which serves the tracks, of which the same ones are taken. The count of its
  -- faults doesn't fall, and where the call failed it rose.
  pub record LeavesTracks {T E : Type 0} (result : Result T E) (old new : TrackStore F) : Type 0 where
    pub same : new.disk.ghost_name ≡ old.disk.ghost_name
    pub tracks : new.tracks ≡ old.tracks
    pub serves : IsServed new
    pub faults_grow : g.faults old.disk.now ≤ g.faults new.disk.now
    pub cause : OnErr result (Rose (g.faults old.disk.now) (g.faults new.disk.now))

  -- A track was read: these are 432 words, those that it holds where the disk tells its records, and unless the read failed each record
  -- holds what it held.
  pub record ReadsTrack (track : ℕ) (into : List ℕ) {T E : Type 0} (result : Result T E) (old new : TrackStore F) : Type 0 where
    pub leaves : LeavesTracks result old new
    pub words : AreWords into
    pub len : length into ≡ 432
    pub given : OnOk result (Reads (g.contents old.disk.now) track into)
    pub contents : OnOk result (g.contents new.disk.now ≡ g.contents old.disk.now)
    pub calls : g.calls new.disk.now ≡ with_call (g.calls old.disk.now) (read_call track (is_err result) into)

  -- A track was written: it holds these words, unless the write failed.
  pub record WritesTrack (track : ℕ) (from : List ℕ) {T E : Type 0} (result : Result T E) (old new : TrackStore F) : Type 0 where
    pub leaves : LeavesTracks result old new
    pub contents : OnOk result (g.contents new.disk.now ≡ with_record (g.contents old.disk.now) track from)
    pub calls : g.calls new.disk.now ≡ with_call (g.calls old.disk.now) (write_call track (is_err result))
