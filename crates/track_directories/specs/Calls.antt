-- proof: what a call on one directory asks and leaves of its table, of its store, and of all directories.
use Rattle.std.specs.Prelude.{◌≡◌, ℕ, ◌≤◌, List, IsErrOf}
use Rattle.std.specs.declared.result.Result.{Result}
use Rattle.faults.specs.Faults.{Rose}
use Rattle.ctss_types.specs.declared.fault.StepFault.{StepFault}
use Rattle.ctss_types.specs.declared.fault.StepFault.TheVariants.{Disk, NoMemory}
use Rattle.medium.specs.declared.medium.Medium.{Ghosts}
use Rattle.track_store.specs.declared.store.TrackStore.{TrackStore}
use Rattle.file_tracks.specs.Kept.{IsAfter}
use Rattle.file_tracks.specs.Tracked.{Tracked, tracked, files_in, IsReady}
use Rattle.file_tracks.specs.declared.table.TrackTable.{TrackTable}
use Rattle.user_model.specs.User.{User}
use Rattle.user_session.specs.Calls.{CanStep}
use Rattle.track_directories.specs.Directories.{ServesUser}
use Rattle.track_directories.specs.Tables.{disk_of, shown, Sound}
use Rattle.track_directories.specs.declared.all.TrackDirectories.{TrackDirectories}

-- unless the disk failed, the directory is ready again and what stands elsewhere is left; want of memory changes none of its files
pub record LeavesOne {T : Type 0} (result : Result T StepFault) (old new : Tracked) (d d' : TrackTable) : Type 0 where
  pub quota : d'.quota ≡ d.quota
  pub ready : ¬ IsErrOf result Disk → IsReady new d'
  pub after : ¬ IsErrOf result Disk → IsAfter old.contents new.contents old.taken new.taken d d'
  pub left : IsErrOf result NoMemory → files_in new d' ≡ files_in old d
  pub faults : old.faults ≤ new.faults
  pub cause : IsErrOf result Disk → Rose old.faults new.faults

module _ {F : Type 0} (g : Ghosts F) where
  -- a directory that is ready, with the quota of tracks of the user's account
  pub record IsReadyFor (p : User) (store : TrackStore F) (d : TrackTable) : Type 0 where
    pub ready : IsReady (tracked g store) d
    pub quota : d.quota ≡ p.inner.account.tracks

  -- what a call leaves of the store and of a table; the disk is the same one
  pub record LeavesOneOn {T : Type 0} (result : Result T StepFault) (old new : TrackStore F) (d d' : TrackTable) : Type 0 where
    pub one : LeavesOne result (tracked g old) (tracked g new) d d'
    pub same : new.disk.ghost_name ≡ old.disk.ghost_name

  -- a user has a directory, with the quota of its account
  pub record HasDirectory (user : ℕ) (p : User) (d : TrackDirectories F) : Type 0 where
    pub sound : Sound g d
    pub within : user ≤ (shown g d).count
    pub tracks : (shown g d).may user ≡ p.inner.account.tracks

  -- and a step of it can be done over these words
  pub record CanServe (user : ℕ) (p : User) (words : List ℕ) (d : TrackDirectories F) : Type 0 where
    pub directory : HasDirectory user p d
    pub step : CanStep p words

  -- what a user's step leaves of the directories, on the same disk
  pub record HasServed (user : ℕ) {T : Type 0} (result : Result T StepFault) (old new : TrackDirectories F) : Type 0 where
    pub sound : ¬ IsErrOf result Disk → Sound g new
    pub same : (disk_of new).ghost_name ≡ (disk_of old).ghost_name
    pub serves : ServesUser user result (shown g old) (shown g new)
