-- proof: all directories of a disk.
use Rattle.std.specs.Prelude.{◌≡◌, ℕ, ◌+◌, ◌≤◌, ◌<◌, Bool, List, [], ◌∷◌, map, length, get_or, Option}
use Rattle.std.specs.List.{All, IsDistinct}
use Rattle.faults.specs.Faults.{WhereTold}
use Rattle.file_model.specs.Files.{same_name}
use Rattle.track_store.specs.Tracks.{count_taken}
use Rattle.file_tracks.specs.Places.{bit}
use Rattle.file_tracks.specs.Stored.{occurs, used_by, HasTracks, HasMode, IsWhole}
use Rattle.file_tracks.specs.declared.table.Filed.{Filed}
use Rattle.file_tracks.specs.declared.table.TrackTable.{TrackTable}

-- how often a track stands in all of them
abbrev pub total : ℕ → List TrackTable → ℕ
total t [] = 0
total t (d ∷ ds) = occurs t d.files.items + total t ds

abbrev pub used_all : List TrackTable → ℕ
used_all [] = 0
used_all (d ∷ ds) = d.used + used_all ds

abbrev pub quota_all : List TrackTable → ℕ
quota_all [] = 0
quota_all (d ∷ ds) = d.quota + quota_all ds

-- what holds of one directory by itself
pub record IsOne (contents : Option (List (List ℕ))) (d : TrackTable) : Type 0 where
  pub few : d.used ≤ d.quota
  pub counted : d.used ≡ used_by d.files.items
  pub tracked : All HasTracks d.files.items
  pub modes : All HasMode d.files.items
  pub differ : IsDistinct same_name (map (λ (f : Filed). f.name) d.files.items)
  pub whole : WhereTold contents (λ contents. All (IsWhole contents) d.files.items)

-- what holds of all: each track that is taken stands in just one place, no other does, and all quotas fit together
pub record AreDirectories (contents : Option (List (List ℕ))) (taken : List Bool) (ds : List TrackTable) : Type 0 where
  pub once : (t : ℕ) → total t ds ≡ bit taken t
  pub counted : count_taken taken ≡ used_all ds
  pub fits : quota_all ds ≤ length taken
  pub each : (d : ℕ) (e : TrackTable) → d < length ds → IsOne contents (get_or ds d e)
