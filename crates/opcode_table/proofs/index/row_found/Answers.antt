use Rattle.std.proofs.Common.{ap, ◌∙◌, ◌/◌, ◌^◌, map, slice_get}
use Rattle.opcode_table.specs.Table.{row_of, ops}
use Rattle.opcode_table.proofs.Places.{row_there, coded, grouped}
use Rattle.opcode_table.proofs.index.row_found.Goals as goal

pub returns-in-Some-clause-named : goal.returns-in-Some-clause-named
returns-in-Some-clause-named c =
    coded c.args.w c.in-Some.row.now c.code_place.ensures.word c.requires
    (c.in-Some.ensures ∙ ap (slice_get (map row_of ops)) c.code_place.ensures.place ∙ row_there (c.args.w / 2 ^ 24))

pub returns-in-None-clause-named : goal.returns-in-None-clause-named
returns-in-None-clause-named c =
    c.row_in_place-in-None.ensures
    ∙ grouped c.args.w c.group_place.result c.code_place.ensures.word c.requires
    (c.in-None.ensures ∙ ap (slice_get (map row_of ops)) c.code_place.ensures.place ∙ row_there (c.args.w / 2 ^ 24)) c.group_place.ensures.group c.group_place.ensures.other
