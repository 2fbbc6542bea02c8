use Rattle.opcode_table.proofs.Places.{code_returns}
use Rattle.opcode_table.proofs.index.code_place.Goals as goal

pub returns-clause-place : goal.returns-clause-place
returns-clause-place c = code_returns c.args.w c.bits.result c.bits.ensures.bits c.bits.ensures.below c.requires
