-- proof: what a store of tracks shows, and what a call on a directory of it leaves.
use Rattle.std.specs.Prelude.{◌≡◌, ◌≤◌, ℕ, Bool, false, List, length, Option, IsErrOf}
use Rattle.std.specs.declared.result.Result.{Result}
use Rattle.faults.specs.Faults.{Rose}
use Rattle.ctss_types.specs.declared.fault.StepFault.{StepFault}
use Rattle.ctss_types.specs.declared.fault.StepFault.TheVariants.{NoMemory}
use Rattle.ctss_types.specs.declared.fault.StepFault.TheVariants.{Disk as StepDisk}
use Rattle.ctss_types.specs.declared.file.FileBody.{FileBody}
use Rattle.ctss_types.specs.declared.file.Refusal.{Refusal}
use Rattle.medium.specs.declared.medium.Medium.{Ghosts}
use Rattle.file_map.specs.declared.fault.PortFault.{PortFault}
use Rattle.file_map.specs.declared.fault.PortFault.TheVariants.{Disk}
use Rattle.track_store.specs.Tracks.{ServesTracks}
use Rattle.track_store.specs.declared.store.TrackStore.{TrackStore}
use Rattle.file_tracks.specs.Stored.{occurs, IsDirectory, LeavesAny}
use Rattle.file_tracks.specs.Seen.{files_seen}
use Rattle.file_tracks.specs.Kept.{IsPort, IsAfter}
use Rattle.file_tracks.specs.declared.table.TrackTable.{TrackTable}

-- what a store of tracks shows: the disk's records where it tells them, how many records it has and of how many words, how often it
-- has failed, and which tracks are taken
pub record Tracked : Type 0 where
  pub contents : Option (List (List ℕ))
  pub count : ℕ
  pub each : ℕ
  pub faults : ℕ
  pub taken : List Bool

module _ {F : Type 0} (g : Ghosts F) where
  abbrev pub tracked : TrackStore F → Tracked
  tracked s =
      record {
        contents = g.contents s.disk.now;
        count = g.record_count s.disk.now;
        each = g.words_each s.disk.now;
        faults = g.faults s.disk.now;
        taken = s.tracks.taken.items;
      }

-- the files of a directory, as the disk tells them
abbrev pub files_in : Tracked → TrackTable → List FileBody
files_in s d = files_seen s.contents d.files.items

-- the disk serves the tracks
abbrev pub IsServed : Tracked → Type 0
IsServed s = ServesTracks s.contents s.count s.each (length s.taken)

-- a directory stands on the tracks
abbrev pub IsOn : Tracked → TrackTable → Type 0
IsOn s d = IsDirectory s.contents s.taken d.quota d.used d.files.items

-- a port can be made over the directory: no call has failed at the disk
abbrev pub IsReady : Tracked → TrackTable → Type 0
IsReady s d = IsPort s.contents s.count s.each s.taken d false

-- what a call on a directory leaves that may write: unless the disk failed, its files are left as the definition tells, the directory is
-- ready again, and what stands elsewhere is left; the disk's count of faults never falls, and rose where it failed
pub record Writes {T : Type 0} (told : List FileBody → Result (List FileBody) Refusal) (result : Result T PortFault) (old new : Tracked) (d d' : TrackTable) : Type 0 where
  pub any : ¬ IsErrOf result Disk → LeavesAny result told old.contents new.contents (length old.taken) d.files.items d'.files.items
  pub ready : ¬ IsErrOf result Disk → IsReady new d'
  pub after : ¬ IsErrOf result Disk → IsAfter old.contents new.contents old.taken new.taken d d'
  pub quota : d'.quota ≡ d.quota
  pub many : length new.taken ≡ length old.taken
  pub serves : IsServed new
  pub faults : old.faults ≤ new.faults
  pub cause : IsErrOf result Disk → Rose old.faults new.faults

-- what a call on a directory leaves that makes no call of the disk, and may give tracks back: the directory stands on those that are
-- left, and what stands elsewhere is left
pub record Frees (old new : Tracked) (d d' : TrackTable) : Type 0 where
  pub on : IsOn new d'
  pub after : IsAfter old.contents new.contents old.taken new.taken d d'
  pub quota : d'.quota ≡ d.quota
  pub less : d'.used ≤ d.used

-- what a call on a table alone leaves: wherever a directory stood it still does, in the same tracks
pub record Retells (d d' : TrackTable) : Type 0 where
  pub usable : (contents : Option (List (List ℕ))) (taken : List Bool) → IsDirectory contents taken d.quota d.used d.files.items → IsDirectory contents taken d'.quota d'.used d'.files.items
  pub places : (t : ℕ) → occurs t d'.files.items ≡ occurs t d.files.items
  pub quota : d'.quota ≡ d.quota
  pub used : d'.used ≡ d.used

-- what a call on a store leaves that takes no track and gives none back: the tracks, and a disk that serves them, whose count of faults
-- never falls, and rose where the call failed
pub record KeepsTracks {F : Type 0} (g : Ghosts F) (failed : Type 0) (old new : TrackStore F) : Type 0 where
  pub same : new.disk.ghost_name ≡ old.disk.ghost_name
  pub tracks : new.tracks ≡ old.tracks
  pub serves : IsServed (tracked g new)
  pub faults : (tracked g old).faults ≤ (tracked g new).faults
  pub cause : failed → Rose (tracked g old).faults (tracked g new).faults

-- what a call on a store leaves that may take tracks and give them back: as many tracks in all, and a disk that serves them, whose count
-- of faults never falls, and rose where the disk failed; want of memory changes nothing
pub record Retakes {F : Type 0} (g : Ghosts F) {T : Type 0} (result : Result T StepFault) (old new : TrackStore F) : Type 0 where
  pub same : new.disk.ghost_name ≡ old.disk.ghost_name
  pub many : length new.tracks.taken.items ≡ length old.tracks.taken.items
  pub serves : IsServed (tracked g new)
  pub faults : (tracked g old).faults ≤ (tracked g new).faults
  pub cause : IsErrOf result StepDisk → Rose (tracked g old).faults (tracked g new).faults
  pub tracks : IsErrOf result NoMemory → new.tracks ≡ old.tracks
  pub contents : IsErrOf result NoMemory → (tracked g new).contents ≡ (tracked g old).contents
