use Rattle.opcode_table.specs.Words.{number_in}
use Rattle.opcode_table.proofs.Codes.{own_row, not_prefixed}
use Rattle.opcode_table.proofs.index.row_coded.Goals as goal

pub returns-clause-own : goal.returns-clause-own
returns-clause-own c = own_row (number_in c.args.w) c.row_found.result c.row_found.ensures.named

pub returns-clause-class : goal.returns-clause-class
returns-clause-class c = not_prefixed c.args.w c.row_found.result c.row_found.ensures.word c.requires c.row_found.ensures.named
