-- proof: directories on tracks of one disk, what they show, and what stays true of them.
use Rattle.std.specs.Prelude.{ℕ, ◌-◌, ◌<◌, ◌≤◌, List, [], map, length, get_or, Option}
use Rattle.std.specs.Borrow.{MutBor}
use Rattle.std.specs.List.{All}
use Rattle.ctss_types.specs.declared.file.FileBody.{FileBody}
use Rattle.track_directories.specs.Directories.{DirectoriesState}
use Rattle.medium.specs.declared.medium.Medium.{Ghosts}
use Rattle.file_tracks.specs.Seen.{tells_of, files_seen}
use Rattle.file_tracks.specs.Directories.{AreDirectories}
use Rattle.file_tracks.specs.Tracked.{Tracked, tracked, IsServed}
use Rattle.file_tracks.specs.declared.table.TrackTable.{TrackTable}
use Rattle.track_directories.specs.declared.all.TrackDirectories.{TrackDirectories}

-- the files of a directory, as the disk tells them: the common ones have number 0
abbrev pub files_at : Option (List (List ℕ)) → List TrackTable → ℕ → List FileBody
files_at contents tables u = get_or (map (λ (t : TrackTable). files_seen contents t.files.items) tables) u []

-- how many tracks a directory may take
abbrev pub quota_at : List TrackTable → ℕ → ℕ
quota_at tables u = get_or (map (λ (t : TrackTable). t.quota) tables) u 0

-- what these directories show over a store
abbrev pub state_of : Tracked → List TrackTable → DirectoriesState
state_of s tables =
    record {
      own = files_at s.contents tables;
      may = quota_at tables;
      common = files_at s.contents tables 0;
      common_may = quota_at tables 0;
      count = length tables - 1;
      tells = tells_of s.contents;
      faults = s.faults;
    }

-- each track that is taken stands in one place, all quotas fit together, and the disk serves the tracks
pub record IsSound (s : Tracked) (tables : List TrackTable) : Type 0 where
  pub all : AreDirectories s.contents s.taken tables
  pub serves : IsServed s
  pub small : All (λ (t : TrackTable). t.quota < 65536) tables
  pub some : 1 ≤ length tables

-- the disk that is lent to them
abbrev pub disk_of : {F : Type 0} → TrackDirectories F → MutBor F
disk_of d = d.store.disk

module _ {F : Type 0} (g : Ghosts F) where
  abbrev pub shown : TrackDirectories F → DirectoriesState
  shown d = state_of (tracked g d.store) d.tables.items

  abbrev pub Sound : TrackDirectories F → Type 0
  Sound d = IsSound (tracked g d.store) d.tables.items
