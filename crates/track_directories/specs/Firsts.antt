-- proof: directories without files, and the first files that are put into them.
use Rattle.std.specs.Prelude.{◌≡◌, ℕ, ◌-◌, ◌<◌, ◌≤◌, Bool, false, List, [], ◌∷◌, ◌++◌, None, length, get_or, replicate, OnOk, IsErrOf}
use Rattle.std.specs.declared.result.Result.{Result}
use Rattle.std.specs.List.{All}
use Rattle.faults.specs.Faults.{Rose}
use Rattle.ctss_types.specs.declared.file.OwnedFile.{OwnedFile}
use Rattle.ctss_types.specs.declared.fault.StepFault.{StepFault}
use Rattle.ctss_types.specs.declared.fault.StepFault.TheVariants.{Disk}
use Rattle.file_model.specs.Files.{file_named, tracks_of}
use Rattle.file_model.specs.Owned.{files_of}
use Rattle.file_map.specs.Directory.{NamesDiffer}
use Rattle.file_map.specs.Known.{known}
use Rattle.track_directories.specs.Directories.{DirectoriesState, KeepsUsers}
use Rattle.file_tracks.specs.Directories.{quota_all}
use Rattle.file_tracks.specs.declared.table.TrackTable.{TrackTable}

-- directories without files, which may take so many tracks each, that of the common files first, of so many tracks in all
pub record Empty : Type 0 where
  pub tracks : ℕ
  pub quotas : List ℕ

-- no track is taken, no directory has a file, and all quotas fit together
pub record AreEmpty (taken : List Bool) (tables : List TrackTable) : Type 0 where
  pub free : taken ≡ replicate (length taken) false
  pub bare : All (λ (t : TrackTable). (t.files.items ≡ []) × (t.used ≡ 0)) tables
  pub fits : quota_all tables ≤ length taken
  pub small : All (λ (t : TrackTable). t.quota < 65536) tables
  pub some : 1 ≤ length tables

-- no directory has a file yet
pub record HaveNone (quotas : List ℕ) (told : Bool) (failed : ℕ) (s : DirectoriesState) : Type 0 where
  pub own : (u : ℕ) → s.own u ≡ []
  pub may : (u : ℕ) → s.may u ≡ get_or quotas u 0
  pub common : s.common ≡ []
  pub common_may : s.common_may ≡ get_or quotas 0 0
  pub count : s.count ≡ length quotas - 1
  pub tells : s.tells ≡ told
  pub faults : s.faults ≡ failed

-- files that can be the first of these directories, which have none: each is a user's; a user's differ in their names, have modes 0
-- to 3, and keep its quota of tracks
pub record AreFirst (files : List OwnedFile) (s : DirectoriesState) : Type 0 where
  pub none : (u : ℕ) → s.own u ≡ []
  pub owners : All (λ (f : OwnedFile). (1 ≤ f.owner) × (f.owner ≤ s.count)) files
  pub modes : All (λ (f : OwnedFile). f.body.mode ≤ 3) files
  pub names : (u : ℕ) → NamesDiffer (files_of u files)
  pub tracks : (u : ℕ) → 1 ≤ u → u ≤ s.count → tracks_of (files_of u files) ≤ s.may u

-- a file can be put behind those of its owner, who has none of that name
pub record CanAdd (f : OwnedFile) (s : DirectoriesState) : Type 0 where
  pub owner : (1 ≤ f.owner) × (f.owner ≤ s.count)
  pub mode : f.body.mode ≤ 3
  pub absent : file_named f.body.name (s.own f.owner) ≡ None
  pub fits : tracks_of (s.own f.owner ++ f.body ∷ []) ≤ s.may f.owner

-- the owner has it behind the others, as far as the disk tells its words
abbrev pub IsAdded : OwnedFile → (old new : DirectoriesState) → Type 0
IsAdded f old new = new.own f.owner ≡ known old.tells (old.own f.owner ++ f.body ∷ [])

-- each user has its files, as far as the disk tells them
pub record Adds (files : List OwnedFile) (result : Result Unit StepFault) (old new : DirectoriesState) : Type 0 where
  pub users : KeepsUsers old new
  pub own : OnOk result ((u : ℕ) → 1 ≤ u → u ≤ old.count → new.own u ≡ known old.tells (files_of u files))
  pub common : OnOk result (new.common ≡ old.common)
  pub tells : OnOk result (new.tells ≡ old.tells)
  pub faults : old.faults ≤ new.faults
  pub cause : IsErrOf result Disk → Rose old.faults new.faults
