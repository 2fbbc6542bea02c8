use Rattle.std.proofs.Common.{◌≡◌, ◌++◌}
use Rattle.file_map.specs.Listing.{listing_of}
use Rattle.file_map.specs.Table.{files_of}
use Rattle.file_map.proofs.table.FileTable.list.Given as goal

abbrev pub invariant-loop-name : goal.invariant-loop-name
invariant-loop-name l = l.rows ++ listing_of (files_of l.name-iterator) ≡ listing_of l.self
