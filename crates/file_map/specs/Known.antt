-- proof: files as a disk tells them: where it doesn't tell its records, names, modes and lengths are known, and no word.
use Rattle.std.specs.Prelude.{◌≡◌, refl, Bool, true, false, List, map, length, replicate, Ok, Err}
use Rattle.std.specs.declared.result.Result.{Result}
use Rattle.ctss_types.specs.declared.file.FileBody.{FileBody}
use Rattle.ctss_types.specs.declared.file.Refusal.{Refusal}
use Rattle.file_map.specs.declared.fault.PortFault.{PortFault}
use Rattle.file_map.specs.Answers.{Answers}

-- a file each word of which stands as 0
abbrev pub blank : FileBody → FileBody
blank f = record f { words = replicate (length f.words) 0 }

unfoldable pub known : Bool → List FileBody → List FileBody
known true files = files
known false files = map blank files

-- what a disk that tells its records holds is known as it is
pub whole_is_known : (files : List FileBody) → known true files ≡ files
unfolding known
whole_is_known files = refl

-- the told files, as far as the disk tells them
abbrev pub known_of : Bool → Result (List FileBody) Refusal → Result (List FileBody) Refusal
known_of tells (Ok files) = Ok (known tells files)
known_of tells (Err r) = Err r

-- an answer is what the definition tells of some files that are known as these
abbrev pub AnswersOver : {T : Type 0} → Bool → List FileBody → Result T PortFault → (List FileBody → Result T Refusal) → Type 0
AnswersOver tells files result told = (fs : List FileBody) × ((known tells fs ≡ files) × Answers result (told fs))
