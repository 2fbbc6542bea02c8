use Rattle.std.proofs.Common.{◌≡◌, map, take}
use Rattle.file_tracks.specs.Stored.{row_for}
use Rattle.file_tracks.proofs.reading.rows_for.Given as goal

abbrev pub invariant-loop-file : goal.invariant-loop-file
invariant-loop-file l = l.rows ≡ map row_for (take l.file-index l.files)
