-- What stands behind the first words of a line.
use Rattle.std.proofs.Common.{◌≡◌, List, [], ◌∷◌, drop, refl}

pub behind_second : {A : Type 0} (xs : List A) → drop 1 (drop 1 xs) ≡ drop 2 xs
behind_second [] = refl
behind_second (x ∷ []) = refl
behind_second (x ∷ y ∷ ys) = refl
