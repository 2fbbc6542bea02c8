use Rattle.std.proofs.Common.{◌≡◌, ◌≤◌, take}
use Rattle.file_model.specs.Files.{tracks_of}
use Rattle.file_model.specs.Owned.{files_of}
use Rattle.script_read.proofs.files.tracks_of.Given as goal

abbrev pub invariant-loop-file : goal.invariant-loop-file
invariant-loop-file l = record {
  counted : l.tracks ≡ tracks_of (files_of l.owner (take l.file-index l.files));
  within : l.tracks ≤ l.quota;
}
