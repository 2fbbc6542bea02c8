-- claim: files whose words lie on tracks of a disk, each on tracks of its own.
use Rattle.std.specs.Prelude.{◌≡◌, ℕ, ◌+◌, ◌≤◌, List, [], ◌∷◌, ◌++◌, length, take}
use Rattle.ctss_types.specs.declared.file.FileBody.{FileBody}
use Rattle.file_model.specs.Files.{tracks_of_words}
use Rattle.track_store.specs.Words.{tracks_joined}
use Rattle.file_tracks.specs.Places.{count_in}

-- a file lies on these tracks: as many as its words take, and their words, joined and cut, are the file's
pub record LiesOn (contents : List (List ℕ)) (f : FileBody) (tracks : List ℕ) : Type 0 where
  pub many : length tracks ≡ tracks_of_words (length f.words)
  pub words : f.words ≡ take (length f.words) (tracks_joined contents tracks)

-- each of these files lies on the tracks at its place
abbrev pub EachLiesOn : List (List ℕ) → List FileBody → List (List ℕ) → Type 0
EachLiesOn contents [] [] = Unit {0}
EachLiesOn contents (f ∷ fs) (ts ∷ tracks) = LiesOn contents f ts × EachLiesOn contents fs tracks
EachLiesOn contents [] (ts ∷ tracks) = ⊥
EachLiesOn contents (f ∷ fs) [] = ⊥

-- how often a track is among these
abbrev pub count_all : ℕ → List (List ℕ) → ℕ
count_all t [] = 0
count_all t (ts ∷ tracks) = count_in t ts + count_all t tracks

-- the files of all users, and then the common ones
abbrev pub all_files : List (List FileBody) → List FileBody → List FileBody
all_files [] common = common
all_files (files ∷ own) common = files ++ all_files own common

-- each file lies on tracks of its own: no track is one of two files, or twice one of a file
pub record LieOn (contents : List (List ℕ)) (own : List (List FileBody)) (common : List FileBody) : Type 0 where
  pub tracks : List (List ℕ)
  pub each : EachLiesOn contents (all_files own common) tracks
  pub once : (t : ℕ) → count_all t tracks ≤ 1
