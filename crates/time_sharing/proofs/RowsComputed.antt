-- The worked rows by computing.
use Rattle.std.proofs.Common.{refl}
use Rattle.time_sharing.specs.SumsRows.{RowOfSums}

pub row_of_sums : RowOfSums
row_of_sums = record { swaps = refl; dumped = refl; read = refl; serves = refl; steps = refl }
