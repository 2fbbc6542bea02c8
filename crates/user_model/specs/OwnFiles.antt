-- claim: what a step changes of the user's own directory.
use Rattle.std.specs.Prelude.{ℕ, List}
use Rattle.std.specs.declared.result.Result.{Result}
use Rattle.ctss_types.specs.Names.{NamePair}
use Rattle.ctss_types.specs.declared.file.FileBody.{FileBody}
use Rattle.ctss_types.specs.declared.file.Refusal.{Refusal}
use Rattle.file_model.specs.Files.{put, written, renamed, deleted, moded}

-- a change of the directory, by a command or by a supervisor entry
pub data FileChange : Type 0 where
  PutsFile : (name : NamePair) (words : List ℕ) → FileChange
  -- words from a place on
  WritesFile : (name : NamePair) (place : ℕ) (words : List ℕ) → FileChange
  RenamesFile : (name to : NamePair) → FileChange
  DeletesFile : (name : NamePair) → FileChange
  SetsMode : (name : NamePair) (mode : ℕ) → FileChange

-- the files after it, of a user with so many tracks, or why it is refused
abbrev pub changed_files : FileChange → (tracks : ℕ) → List FileBody → Result (List FileBody) Refusal
changed_files (PutsFile name words) tracks files = put name words tracks files
changed_files (WritesFile name place words) tracks files = written name place words tracks files
changed_files (RenamesFile name to) tracks files = renamed name to files
changed_files (DeletesFile name) tracks files = deleted name files
changed_files (SetsMode name mode) tracks files = moded name mode files
