use Rattle.std.proofs.Common.{rules}
use Rattle.fap_assemble.specs.Wholes.{whole_in}
use Rattle.fap_assemble.proofs.Columns.{undefined_column}
use Rattle.fap_assemble.proofs.column.column_by.Goals as goal

pub returns-in-Undefined : goal.returns-in-Undefined
returns-in-Undefined c =
    undefined_column c.args.op (whole_in c.args.whole.now) c.args.visible c.args.place c.args.text.now c.args.cause _ (search rules) c.value_column.ensures
