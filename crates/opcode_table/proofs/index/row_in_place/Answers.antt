use Rattle.std.proofs.Common.{subst, map}
use Rattle.std.specs.Slice.{IsItemAt}
use Rattle.opcode_table.specs.Table.{row_of, ops}
use Rattle.opcode_table.proofs.Places.{row_in_place}
use Rattle.opcode_table.proofs.index.row_in_place.Goals as goal

pub returns : goal.returns
returns c =
    row_in_place (map row_of ops) c.args.place c.get.result (subst (λ i. IsItemAt (map row_of ops) i c.get.result) c.from.ensures c.get.ensures.lookup)
