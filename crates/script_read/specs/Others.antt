-- proof: the tracks beside the last file.
use Rattle.std.specs.Prelude.{ℕ, List, Option, Some, None}
use Rattle.ctss_types.specs.declared.file.OwnedFile.{OwnedFile}
use Rattle.file_model.specs.Files.{tracks_of}
use Rattle.file_model.specs.Owned.{files_of}

-- the tracks that the owner of a file has in these files
abbrev pub others_of : Option OwnedFile → List OwnedFile → ℕ
others_of None files = 0
others_of (Some f) files = tracks_of (files_of f.owner files)
