use Rattle.std.proofs.Common.{◌≡◌, ◌+◌}
use Rattle.file_model.specs.Files.{tracks_of}
use Rattle.file_map.proofs.Tracks.{tracks_in}
use Rattle.file_map.proofs.table.FileTable.tracks.Given as goal

abbrev pub invariant-loop-file : goal.invariant-loop-file
invariant-loop-file l = l.tracks + tracks_in l.file-iterator ≡ tracks_of l.self
