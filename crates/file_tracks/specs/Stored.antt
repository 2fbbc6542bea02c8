-- proof: files whose words stand on tracks of a disk.
use Rattle.std.specs.Prelude.{◌≡◌, ℕ, ◌+◌, ◌≤◌, Bool, List, [], ◌∷◌, map, length, take, Option, Some, slice_index_or}
use Rattle.std.specs.declared.result.Result.{Result}
use Rattle.std.specs.List.{All, IsDistinct}
use Rattle.faults.specs.Faults.{WhereTold}
use Rattle.ctss_types.specs.declared.file.FileBody.{FileBody}
use Rattle.ctss_types.specs.declared.file.Refusal.{Refusal}
use Rattle.ctss_types.specs.Names.{NamePair}
use Rattle.file_model.specs.Files.{same_name, file_named, tracks_of_words}
use Rattle.file_map.specs.declared.fault.PortFault.{PortFault}
use Rattle.file_map.specs.declared.port.ListingRow.{ListingRow}
use Rattle.file_map.specs.Answers.{Leaves}
use Rattle.track_store.specs.Tracks.{count_taken}
use Rattle.track_store.specs.Words.{record_at, tracks_joined}
use Rattle.file_tracks.specs.Places.{count_in, bit}
use Rattle.file_tracks.specs.declared.table.Filed.{Filed}

-- the words of a file: those of its tracks, joined and cut
abbrev pub content : List (List ℕ) → Filed → List ℕ
content contents f = take f.words (tracks_joined contents f.tracks.items)

abbrev pub body_on : List (List ℕ) → Filed → FileBody
body_on contents f = record { name = f.name; mode = f.mode; words = content contents f }

abbrev pub files_on : List (List ℕ) → List Filed → List FileBody
files_on contents fs = map (body_on contents) fs

-- the file of a name is the one at this place, whatever the tracks hold
abbrev pub IsAt : NamePair → ℕ → List Filed → Type 0
IsAt name at fs =
    (contents : List (List ℕ)) (d : Filed) → file_named name (files_on contents fs) ≡ Some (body_on contents (slice_index_or fs at d))

-- what a listing shows of a file
abbrev pub row_for : Filed → ListingRow
row_for f = record { name = f.name; mode = f.mode; words = f.words }

-- how often a track stands in these files
abbrev pub occurs : ℕ → List Filed → ℕ
occurs t [] = 0
occurs t (f ∷ fs) = count_in t f.tracks.items + occurs t fs

-- how many tracks these files have
abbrev pub used_by : List Filed → ℕ
used_by [] = 0
used_by (f ∷ fs) = length f.tracks.items + used_by fs

-- a file has the tracks that its words take
abbrev pub HasTracks : Filed → Type 0
HasTracks f = length f.tracks.items ≡ tracks_of_words f.words

-- modes go up to 3
abbrev pub HasMode : Filed → Type 0
HasMode f = f.mode ≤ 3

-- the tracks of a file hold 432 words each
abbrev pub IsWhole : List (List ℕ) → Filed → Type 0
IsWhole contents f = (t : ℕ) → 1 ≤ count_in t f.tracks.items → length (record_at contents t) ≡ 432

-- what holds of a directory: no track stands twice, all are taken, and there is room for as many as the quota still allows
pub record IsDirectory (contents : Option (List (List ℕ))) (taken : List Bool) (quota used : ℕ) (fs : List Filed) : Type 0 where
  pub once : (t : ℕ) → occurs t fs ≤ bit taken t
  pub few : used ≤ quota
  pub room : count_taken taken + quota ≤ length taken + used
  pub counted : used ≡ used_by fs
  pub tracked : All HasTracks fs
  pub modes : All HasMode fs
  pub differ : IsDistinct same_name (map (λ (f : Filed). f.name) fs)
  pub whole : WhereTold contents (λ contents. All (IsWhole contents) fs)

-- tracks that stand elsewhere, so often, beside these files
abbrev pub StandBeside : (others : ℕ → ℕ) → List Bool → List Filed → Type 0
StandBeside others taken fs = (t : ℕ) → others t + occurs t fs ≡ bit taken t

-- what a call does to tracks elsewhere: they stand beside the files as before, and hold what they held
pub record LeavesOthers (contents contents' : Option (List (List ℕ))) (taken taken' : List Bool) (fs fs' : List Filed) (others : ℕ → ℕ) : Type 0 where
  pub beside : StandBeside others taken' fs'
  pub held : WhereTold contents (λ was. WhereTold contents' (λ now. (t : ℕ) → 1 ≤ others t → record_at now t ≡ record_at was t))

-- contents that may be those of a disk: the told ones, where it tells
abbrev pub MayBe : Option (List (List ℕ)) → List (List ℕ) → Type 0
MayBe told contents = WhereTold told (λ r. r ≡ contents)

-- whatever contents a disk with so many tracks may have had, there are contents that it may have now, with which the files are left as the
-- definition tells
abbrev pub LeavesAny : {T : Type 0} → Result T PortFault → (List FileBody → Result (List FileBody) Refusal) → (old new : Option (List (List ℕ))) → ℕ → (had has : List Filed) → Type 0
LeavesAny result told old new tracks had has =
    (was : List (List ℕ)) → MayBe old was → tracks ≤ length was → All (IsWhole was) had
    → (now : List (List ℕ)) × (MayBe new now × (All (IsWhole now) has × Leaves result (told (files_on was had)) (files_on was had) (files_on now has)))
