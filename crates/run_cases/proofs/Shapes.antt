-- A medium in memory has as many records as it tells, if it tells them.
use Rattle.std.proofs.Common.{ℕ, List, [], ◌∷◌, length, refl}
use Rattle.medium.specs.Medium.{HasShape}
use Rattle.medium.specs.Rows.{told_rows}
use Rattle.medium.specs.declared.memory.Damage.{Damage}

pub told_shape : (damages : List Damage) (rows : List (List ℕ)) → HasShape (told_rows damages rows) (length rows)
told_shape [] rows = refl
told_shape (d ∷ ds) rows = tt
