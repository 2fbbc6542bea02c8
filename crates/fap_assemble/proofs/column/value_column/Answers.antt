use Rattle.std.proofs.Common.{rules}
use Rattle.fap_assemble.proofs.Columns.{value_column_some}
use Rattle.fap_assemble.proofs.column.value_column.Goals as goal

pub returns-in-Some : goal.returns-in-Some
returns-in-Some c =
    value_column_some c.args.op c.in-Some.op c.args.symbols.now _ c.args.visible _ c.args.text.now _ (search rules) c.first_names.ensures c.names_seen-seen.ensures c.column.ensures
