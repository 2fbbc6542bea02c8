-- The 48 characters are ASCII.
use Rattle.std.proofs.Common.{◌≡◌, ℕ, ◌<◌, true, false, Bool, ◌&&◌, List, [], ◌∷◌, zero, suc, arith, get_or, refl}
use Rattle.std.proofs.lemmas.Bool.Decides.{nat_tests}
use Rattle.std.specs.List.{list_all}
use Rattle.std.specs.Str.{IsUtf8}
use Rattle.std.proofs.lemmas.Str.{IsUtf8-from_ascii}
use Rattle.bcd48.specs.Characters.{is_character}

both : (a b : Bool) → (a && b) ≡ true → (a ≡ true) × (b ≡ true)
both true b h = (refl, h)
both false b h = cc

ascii : (b : ℕ) → is_character b ≡ true → b < 128
ascii b h = grind (arith, nat_tests)

all_ascii : (xs : List ℕ) → list_all is_character xs ≡ true → (k : ℕ) → get_or xs k 0 < 128
all_ascii [] h k = omega arith
all_ascii (x ∷ xs) h zero = ascii x (both _ _ h).0
all_ascii (x ∷ xs) h (suc k) = all_ascii xs (both _ _ h).1 k

pub characters_are_text : (xs : List ℕ) → list_all is_character xs ≡ true → IsUtf8 xs
characters_are_text xs h = IsUtf8-from_ascii xs (all_ascii xs h)
