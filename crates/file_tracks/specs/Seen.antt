-- proof: the files that a port stands for. Where its disk doesn't tell its records, every word stands as 0.
use Rattle.std.specs.Prelude.{◌≡◌, refl, ℕ, Bool, true, false, List, [], ◌∷◌, map, replicate, Option, None, Some}
use Rattle.std.proofs.lemmas.List.{length-replicate}
use Rattle.ctss_types.specs.declared.file.FileBody.{FileBody}
use Rattle.file_map.specs.Known.{blank, known}
use Rattle.file_tracks.specs.Stored.{files_on}
use Rattle.file_tracks.specs.declared.table.Filed.{Filed}

-- whether a disk tells its records
unfoldable pub tells_of : Option (List (List ℕ)) → Bool
tells_of None = false
tells_of (Some contents) = true

-- a file each word of which stands as 0
abbrev pub blank_of : Filed → FileBody
blank_of f = record { name = f.name; mode = f.mode; words = replicate f.words 0 }

unfoldable pub files_seen : Option (List (List ℕ)) → List Filed → List FileBody
files_seen None fs = map blank_of fs
files_seen (Some contents) fs = files_on contents fs

blanks_stay : (fs : List Filed) → map blank (map blank_of fs) ≡ map blank_of fs
blanks_stay [] = refl
blanks_stay (f ∷ fs) = λ j. record { name = f.name; mode = f.mode; words = replicate (length-replicate {A = ℕ} f.words 0 j) 0 } ∷ blanks_stay fs j

-- they are known as they stand
pub seen_is_known : (told : Option (List (List ℕ))) (fs : List Filed) → known (tells_of told) (files_seen told fs) ≡ files_seen told fs
unfolding known tells_of files_seen
seen_is_known None fs = blanks_stay fs
seen_is_known (Some contents) fs = refl
