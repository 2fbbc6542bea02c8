-- The row of specs/Rows, by computing.
use Rattle.std.proofs.Common.{refl}
use Rattle.record_laws.specs.DirectoryRows.{RowOfRules}

pub row_of_rules : RowOfRules
row_of_rules = record { differ = refl; tracks = refl; repeated = refl }
