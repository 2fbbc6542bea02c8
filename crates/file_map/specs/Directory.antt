-- proof: a directory as contracts see it.
use Rattle.std.specs.Prelude.{◌≡◌, ℕ, ◌≤◌, List, map}
use Rattle.std.specs.List.{All, IsDistinct}
use Rattle.ctss_types.specs.declared.file.FileBody.{FileBody}
use Rattle.file_model.specs.Files.{same_name, tracks_of}

-- its files in order of making, and how many tracks they may take
pub record Directory : Type 0 where
  pub files : List FileBody
  pub quota : ℕ

-- no name stands twice
abbrev pub NamesDiffer : List FileBody → Type 0
NamesDiffer files = IsDistinct same_name (map (λ (f : FileBody). f.name) files)

-- so many tracks are in use, and they keep the quota
pub record IsCounted (files : List FileBody) (quota used : ℕ) : Type 0 where
  pub count : used ≡ tracks_of files
  pub most : used ≤ quota

-- modes go up to 3
abbrev pub HaveModes : List FileBody → Type 0
HaveModes files = All (λ (f : FileBody). f.mode ≤ 3) files

-- what a directory in memory keeps
pub record IsSound (files : List FileBody) (quota used : ℕ) : Type 0 where
  pub counted : IsCounted files quota used
  pub modes : HaveModes files
