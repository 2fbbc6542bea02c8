use Rattle.std.proofs.Common.{rules}
use Rattle.fap_assemble.proofs.Columns.{form_column_some}
use Rattle.fap_assemble.proofs.column.form_column.Goals as goal

pub returns-in-Some : goal.returns-in-Some
returns-in-Some c = λ whole k. form_column_some c.args.op c.in-Some.op whole k c.args.text.now _ _ (search rules) c.form.ensures c.column.ensures
