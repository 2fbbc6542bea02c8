use Rattle.std.proofs.Common.{◌≡◌, ◌+◌, ◌-◌, ◌≤◌, length}
use Rattle.fap_model.specs.Terms.{items_of}
use Rattle.fap_model.specs.Causes.{column_where, field_column}
use Rattle.fap_assemble.specs.Columns.{passes}
use Rattle.fap_assemble.specs.Names.{names_in}
use Rattle.fap_assemble.proofs.column.ItemTest.column.Given as goal

abbrev pub invariant-items : goal.invariant-items
invariant-items l = record {
  is : column_where (passes l.self (names_in l.names)) l.index (16 + (length l.field - length l.items)) (items_of l.items)
      ≡ field_column (passes l.self (names_in l.names)) l.text;
  within : length l.items + l.index ≤ length l.field;
  few : length l.field ≤ 57;
}

abbrev pub decreases-items : goal.decreases-items
decreases-items l = length l.items
