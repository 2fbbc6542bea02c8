-- What a port is after a call on its directory, by what the call left.
use Rattle.std.specs.Prelude.{Bool, true, false, Option, Err, IsErrOf}
use Rattle.std.specs.declared.result.Result.{Result}
use Rattle.std.proofs.Common.{◌≡◌, ℕ, ◌<◌, List, length, refl, sym, ap, subst, le_of_eq}
use Rattle.ctss_types.specs.declared.file.FileBody.{FileBody}
use Rattle.ctss_types.specs.declared.file.Refusal.{Refusal}
use Rattle.file_map.specs.declared.fault.PortFault.{PortFault}
use Rattle.file_map.specs.declared.fault.PortFault.TheVariants.{Disk}
use Rattle.file_map.specs.Answers.{Leaves}
use Rattle.file_map.specs.Known.{known_of}
use Rattle.medium.specs.declared.medium.Medium.{Ghosts}
use Rattle.track_store.specs.declared.store.TrackStore.{TrackStore}
use Rattle.file_tracks.specs.Stored.{files_on, IsDirectory}
use Rattle.file_tracks.specs.Seen.{tells_of, files_seen}
use Rattle.file_tracks.specs.Kept.{IsPort, CallsLeave}
use Rattle.file_tracks.specs.Tracked.{Tracked, tracked, files_in, Writes, Frees, Retells, KeepsTracks}
use Rattle.file_tracks.specs.declared.table.TrackTable.{TrackTable}
use Rattle.file_tracks.proofs.Refusals.{reaches}
use Rattle.file_tracks.proofs.Known.{leaves_seen, with_both}
use Rattle.file_tracks.proofs.After.{not_yes, after_read, after_naming, serves_still}

-- a port over the directory, of which a call may have failed
abbrev pub IsOver : Tracked → TrackTable → Bool → Type 0
IsOver s d failed = IsPort s.contents s.count s.each s.taken d failed

-- a call that may write
module _ (s s' : Tracked) (d d' : TrackTable) (failed failed' : Bool) (usable : IsOver s d failed) (told : List FileBody → Result (List FileBody) Refusal) (result : Result (Unit {0}) PortFault)
    (w : Writes told result s s' d d') where
  pub writes_left : Leaves result (known_of (tells_of s.contents) (told (files_in s d))) (files_in s d) (files_in s' d')
  writes_left =
      leaves_seen told s.contents s'.contents s.taken d.quota d.used d.files.items d'.files.items usable.directory (reaches s.contents s.count (length s.taken) usable.serves.shape usable.serves.within)
      result w.any (λ ok. (w.ready ok).directory.tracked) (λ ok. (w.after ok).telling)

  pub writes_usable : (failed' ≡ true → result ≡ Err Disk) → ¬ IsErrOf result Disk → IsOver s' d' failed'
  writes_usable fault ok =
      let r = w.ready ok in
      record { directory = r.directory; serves = r.serves; small = r.small; well = not_yes failed' (result ≡ Err Disk) fault ok }

  pub writes_goes : (failed' ≡ false → ¬ IsErrOf result Disk) → CallsLeave s.contents s'.contents s.taken s'.taken s.faults s'.faults d d' failed failed'
  writes_goes fine = record { quota = w.quota; rises = w.faults; after = λ well. (usable.well, w.after (fine well)) }

-- a call that takes no track and gives none back, and writes none
module _ {F : Type 0} (g : Ghosts F) (a b : TrackStore F) (d : TrackTable) (failed failed' : Bool) (usable : IsOver (tracked g a) d failed) {T : Type 0} (result : Result T PortFault)
    (k : KeepsTracks g (IsErrOf result Disk) a b) (contents : ¬ IsErrOf result Disk → (tracked g b).contents ≡ (tracked g a).contents) where
  pub reads_usable : (failed' ≡ true → result ≡ Err Disk) → ¬ IsErrOf result Disk → IsOver (tracked g b) d failed'
  reads_usable fault ok = record {
    directory =
        subst (λ (o : Option (List (List ℕ))). IsDirectory o (tracked g b).taken d.quota d.used d.files.items) (sym (contents ok))
        (subst (λ (ts : List Bool). IsDirectory (tracked g a).contents ts d.quota d.used d.files.items) (sym (λ j. (k.tracks j).taken.items)) usable.directory);
    serves = k.serves;
    small = usable.small;
    well = not_yes failed' (result ≡ Err Disk) fault ok;
  }

  pub reads_goes : (failed' ≡ false → ¬ IsErrOf result Disk)
      → CallsLeave (tracked g a).contents (tracked g b).contents (tracked g a).taken (tracked g b).taken (tracked g a).faults (tracked g b).faults d d failed failed'
  reads_goes fine = record {
    quota = refl;
    rises = k.faults;
    after = λ well. (usable.well, after_read (tracked g a).contents (tracked g b).contents (tracked g a).taken (tracked g b).taken d (contents (fine well)) (λ j. (k.tracks j).taken.items));
  }

-- a call that makes no call of the disk
module _ {F : Type 0} (g : Ghosts F) (a b : TrackStore F) (d d' : TrackTable) (failed : Bool) (usable : IsOver (tracked g a) d failed) (f : Frees (tracked g a) (tracked g b) d d')
    (now : b.disk.now ≡ a.disk.now) where
  pub frees_left : (P : List FileBody → List FileBody → Type 0) → ((contents : List (List ℕ)) → P (files_on contents d.files.items) (files_on contents d'.files.items)) → P (files_in (tracked g a) d) (files_in (tracked g b) d')
  frees_left P h =
      let same = ap g.contents now in
      subst (λ (o : Option (List (List ℕ))). P (files_in (tracked g a) d) (files_seen o d'.files.items)) (sym same)
      (with_both P (tracked g a).contents (tracked g a).taken (tracked g b).taken d.quota d.used d'.quota d'.used d.files.items d'.files.items usable.directory
      (subst (λ (o : Option (List (List ℕ))). IsDirectory o (tracked g b).taken d'.quota d'.used d'.files.items) same f.on) f.after.many h)

  pub frees_usable : IsOver (tracked g b) d' failed
  frees_usable = record {
    directory = f.on;
    serves = serves_still _ _ _ _ _ _ _ _ usable.serves (ap g.contents now) (ap g.record_count now) (ap g.words_each now) f.after.many;
    small = subst (λ (q : ℕ). q < 65536) (sym f.quota) usable.small;
    well = usable.well;
  }

  pub frees_goes : CallsLeave (tracked g a).contents (tracked g b).contents (tracked g a).taken (tracked g b).taken (tracked g a).faults (tracked g b).faults d d' failed failed
  frees_goes = record { quota = f.quota; rises = le_of_eq (ap g.faults (sym now)); after = λ well. (usable.well, f.after) }

-- a call of the table alone
pub frees_naming : (s : Tracked) (d d' : TrackTable) (failed : Bool) → IsOver s d failed → Retells d d' → Frees s s d d'
frees_naming s d d' failed usable r = record {
  on = r.usable s.contents s.taken usable.directory;
  after = after_naming s.contents s.taken d d' r.used r.places;
  quota = r.quota;
  less = le_of_eq r.used;
}
