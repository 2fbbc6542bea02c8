-- claim: what is printed of directories: the line of a file, the tracks in use, why an operation is refused; and the numbers of
-- refusals, which programs get.
use Rattle.std.specs.Prelude.{ℕ, ◌-◌, List, [], ◌∷◌, ◌++◌, length, map, replicate, codes}
use Rattle.std.specs.Fmt.{decimal}
use Rattle.bcd48.specs.Words.{characters_of}
use Rattle.ctss_types.specs.declared.file.FileBody.{FileBody}
use Rattle.ctss_types.specs.declared.file.Refusal.{Refusal}
use Rattle.ctss_types.specs.declared.file.Refusal.TheVariants.{NoFile, ReadOnly, Quota, NameUsed, PastEnd, BadMode, BadCount}
use Rattle.file_model.specs.Files.{tracks_of}

-- a text right in 7 places
abbrev pub right : List ℕ → List ℕ
right text = replicate (7 - length text) 32 ++ text

-- the names in 6 places each, the mode, the number of words in 7 places, with a blank between them
abbrev pub file_line : FileBody → List ℕ
file_line f = characters_of f.name.first ++ (32 ∷ (characters_of f.name.second ++ (32 ∷ (decimal f.mode ++ (32 ∷ right (decimal (length f.words)))))))

-- how many tracks are in use, of how many
abbrev pub tracks_line : (used quota : ℕ) → List ℕ
tracks_line used quota = decimal used ++ (codes " OF " ++ (decimal quota ++ codes " TRACKS"))

-- a line for each file, in order of making, and one for the tracks
abbrev pub listing_lines : ℕ → List FileBody → List (List ℕ)
listing_lines quota files = map file_line files ++ tracks_line (tracks_of files) quota ∷ []

abbrev pub refusal_text : Refusal → List ℕ
refusal_text NoFile = codes "FILE NOT FOUND"
refusal_text ReadOnly = codes "READ ONLY"
refusal_text Quota = codes "QUOTA EXCEEDED"
refusal_text NameUsed = codes "NAME IN USE"
refusal_text PastEnd = codes "PAST END"
refusal_text BadMode = codes "BAD MODE"
refusal_text BadCount = codes "BAD COUNT"

abbrev pub refusal_number : Refusal → ℕ
refusal_number NoFile = 1
refusal_number ReadOnly = 2
refusal_number Quota = 3
refusal_number NameUsed = 4
refusal_number PastEnd = 5
refusal_number BadMode = 6
refusal_number BadCount = 7
