-- A directory whose files of mode 0 went, which makes no call of the disk.
use Rattle.std.specs.Prelude.{false, Ok}
use Rattle.std.proofs.Common.{◌≡◌, ℕ, List, sym, ap, le_of_eq}
use Rattle.ctss_types.specs.declared.file.FileBody.{FileBody}
use Rattle.file_model.specs.Files.{lasting}
use Rattle.medium.specs.declared.medium.Medium.{Ghosts}
use Rattle.track_store.specs.declared.store.TrackStore.{TrackStore}
use Rattle.file_tracks.specs.Stored.{files_on}
use Rattle.file_tracks.specs.Tracked.{tracked, files_in, IsReady, Frees}
use Rattle.file_tracks.specs.declared.table.TrackTable.{TrackTable}
use Rattle.file_tracks.proofs.Calls.{frees_left, frees_usable}
use Rattle.track_directories.specs.Calls.{LeavesOne}

module _ {F : Type 0} (g : Ghosts F) (a b : TrackStore F) (d d' : TrackTable) (ready : IsReady (tracked g a) d) (frees : Frees (tracked g a) (tracked g b) d d') (now : b.disk.now ≡ a.disk.now) where
  pub one_dropped : LeavesOne {T = Unit {0}} (Ok tt) (tracked g a) (tracked g b) d d'
  one_dropped = record {
    quota = frees.quota;
    ready = λ x. frees_usable g a b d d' false ready frees now;
    after = λ x. frees.after;
    left = λ x. absurd (let e = x in cc);
    faults = le_of_eq (ap g.faults (sym now));
    cause = λ x. absurd (let e = x in cc);
  }

  pub left_seen : ((r : List (List ℕ)) → files_on r d'.files.items ≡ lasting (files_on r d.files.items)) → files_in (tracked g b) d' ≡ lasting (files_in (tracked g a) d)
  left_seen left = frees_left g a b d d' false ready frees now (λ (xs ys : List FileBody). ys ≡ lasting xs) left
