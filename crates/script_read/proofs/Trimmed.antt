-- A text is of the 48 characters just where it is so without the blanks behind it.
use Rattle.std.proofs.Common.{◌≡◌, ℕ, Bool, true, false, cond, ◌&&◌, nat_eq, List, [], ◌∷◌, refl, ap, ◌∙◌, sym}
use Rattle.std.specs.List.{list_all}
use Rattle.std.proofs.lemmas.Bool.{eqb-true}
use Rattle.bcd48.specs.Characters.{is_character}
use Rattle.ctss_types.specs.Line.{before_rest, trimmed}

-- a blank in front of nothing goes, and is a character
before_nothing : (x : ℕ) (b : Bool) → nat_eq x 32 ≡ b → list_all is_character (cond b [] (x ∷ [])) ≡ list_all is_character (x ∷ [])
before_nothing x true e = ap (λ (n : ℕ). list_all is_character (n ∷ [])) (sym (eqb-true x 32 e))
before_nothing x false e = refl

before : (x : ℕ) (rest : List ℕ) → list_all is_character (before_rest x rest) ≡ list_all is_character (x ∷ rest)
before x [] = before_nothing x (nat_eq x 32) refl
before x (y ∷ ys) = refl

pub all_trimmed : (xs : List ℕ) → list_all is_character (trimmed xs) ≡ list_all is_character xs
all_trimmed [] = refl
all_trimmed (x ∷ xs) = before x (trimmed xs) ∙ ap (λ (b : Bool). is_character x && b) (all_trimmed xs)
