-- claim: what every directory keeps to.
use Rattle.std.specs.Prelude.{◌≡◌, ◌≤◌, ℕ, true, List}
use Rattle.std.specs.List.{All}
use Rattle.ctss_types.specs.declared.file.FileBody.{FileBody}
use Rattle.file_model.specs.Files.{tracks_of}
use Rattle.text_model.specs.Reading.{names_differ}

-- modes are 0 to 3, no two files have the same names, and the files take at most so many tracks
pub record KeepsRules (quota : ℕ) (files : List FileBody) : Type 0 where
  pub modes : All (λ (f : FileBody). f.mode ≤ 3) files
  pub differ : names_differ files ≡ true
  pub tracks : tracks_of files ≤ quota
