-- claim: files by owner.
use Rattle.std.specs.Prelude.{ℕ, nat_eq, List, map, filter}
use Rattle.ctss_types.specs.declared.file.FileBody.{FileBody}
use Rattle.ctss_types.specs.declared.file.OwnedFile.{OwnedFile}

-- the files of a user, in their order
abbrev pub files_of : ℕ → List OwnedFile → List FileBody
files_of u owned = map (λ f. f.body) (filter (λ f. nat_eq f.owner u) owned)
