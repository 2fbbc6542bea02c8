-- What is left of blanks is of the 48 characters.
use Rattle.std.proofs.Common.{◌≡◌, ℕ, zero, suc, Bool, true, false, ◌&&◌, List, [], ◌∷◌, drop, replicate, refl}
use Rattle.std.specs.List.{list_all}
use Rattle.bcd48.specs.Characters.{is_character}

last : (a b : Bool) → (a && b) ≡ true → b ≡ true
last true b h = h
last false b h = cc

all_dropped : (p : ℕ → Bool) (k : ℕ) (xs : List ℕ) → list_all p xs ≡ true → list_all p (drop k xs) ≡ true
all_dropped p zero xs h = h
all_dropped p (suc k) [] h = h
all_dropped p (suc k) (x ∷ xs) h = all_dropped p k xs (last (p x) (list_all p xs) h)

pub blanks_are : (k : ℕ) → list_all is_character (drop k (replicate 7 32)) ≡ true
blanks_are k = all_dropped is_character k (replicate 7 32) refl
