-- Drum and disk as they are made.
use Rattle.std.proofs.Common.{◌≤◌, ℕ, List, [], ◌∷◌, length, replicate, refl, arith}
use Rattle.std.proofs.lemmas.List.{length-replicate}
use Rattle.medium.specs.Medium.{HasShape}
use Rattle.medium.specs.Rows.{told_rows}
use Rattle.medium.specs.declared.memory.Damage.{Damage}

pub shape : (damages : List Damage) (rows : List (List ℕ)) → HasShape (told_rows damages rows) (length rows)
shape [] rows = refl
shape (d ∷ ds) rows = tt

pub as_long : (n least : ℕ) (row : List ℕ) → least ≤ n → least ≤ length (replicate n row)
as_long n least row h = let e = length-replicate n row in omega (arith, e, h)
