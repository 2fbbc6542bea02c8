-- The row of specs/Rows, by computing.
use Rattle.std.proofs.Common.{refl}
use Rattle.record_laws.specs.Rows.{RowOfSpans}

pub row_of_spans : RowOfSpans
row_of_spans = record { covered = refl; served = refl; swapping = refl; idle = refl }
