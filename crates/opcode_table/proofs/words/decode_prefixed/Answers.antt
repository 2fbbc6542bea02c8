use Rattle.opcode_table.proofs.Codes.{prefix_decoded}
use Rattle.opcode_table.proofs.words.decode_prefixed.Goals as goal

pub returns-clause-value : goal.returns-clause-value
returns-clause-value c =
    rw (c.tag.ensures.value, c.address.ensures.value, c.decrement.ensures.value)
    (prefix_decoded c.args.w c.prefix.result c.in_ok-op.op c.prefix.ensures.value c.requires c.in_ok-op.ensures.row c.in_ok-op.ensures.class)
