use Rattle.std.proofs.Common.{◌≡◌, take}
use Rattle.file_map.proofs.table.FileTable.with_all.Given as goal

abbrev pub invariant-loop-file : goal.invariant-loop-file
invariant-loop-file l = l.table ≡ take l.file-index l.files
