use Rattle.file_map.proofs.Names.{not_yet}
use Rattle.file_map.proofs.table.FileTable.with_all.Goals as goal

pub add-requires : goal.add-requires
add-requires c = not_yet c.args.files.now c.loop-file.table c.loop-file.file-index c.file-item.result c.requires c.loop-file-test.true c.file-item.is c.loop-file.invariant
