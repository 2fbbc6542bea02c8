-- claim: numbers in octal digits, as words of a line have them.
use Rattle.std.specs.Prelude.{ℕ, ◌+◌, ◌-◌, ◌*◌, Bool, ◌&&◌, List, [], ◌∷◌, length, nat_le, if◌then◌else◌, Option, Some, None}
use Rattle.std.specs.List.{list_all}

abbrev pub is_octal_digit : ℕ → Bool
is_octal_digit d = nat_le 48 d && nat_le d 55

-- a number by its octal digits, behind those that make n
abbrev pub octal_from : ℕ → List ℕ → ℕ
octal_from n [] = n
octal_from n (d ∷ ds) = octal_from (8 * n + (d - 48)) ds

-- a word of one to so many octal digits is a number
abbrev pub octal_in : ℕ → List ℕ → Option ℕ
octal_in most w = if nat_le 1 (length w) && (nat_le (length w) most && list_all is_octal_digit w) then Some (octal_from 0 w) else None
