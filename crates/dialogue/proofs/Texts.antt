-- Texts of numbers are of the 48 characters.
use Rattle.std.proofs.Common.{◌≡◌, ◌%◌, ◌+◌, ◌/◌, ℕ, true, [], ◌∷◌, refl, arith}
use Rattle.std.specs.List.{list_all}
use Rattle.bcd48.specs.Characters.{is_character}
use Rattle.user_model.specs.Texts.{digit, time_text}
use Rattle.cmd_program.proofs.Decimals.{below_ten}

digit_is : (n : ℕ) → is_character (digit n) ≡ true
digit_is n = below_ten (n % 10) (omega arith)

pub time_is_line : (t : ℕ) → list_all is_character (time_text t) ≡ true
unfolding time_text
time_is_line t =
    rw (digit_is (t / 600000 % 24 / 10), digit_is (t / 600000 % 24), digit_is (t / 10000 % 60 / 10), digit_is (t / 10000 % 60), digit_is (t / 1000)) refl

octal_digit : (n : ℕ) → is_character (48 + n % 8) ≡ true
octal_digit n = below_ten (n % 8) (omega arith)

pub place_is_line : (n : ℕ) → list_all is_character (32 ∷ 65 ∷ 84 ∷ 32 ∷ (48 + n / 4096 % 8) ∷ (48 + n / 512 % 8) ∷ (48 + n / 64 % 8) ∷ (48 + n / 8 % 8) ∷ (48 + n % 8) ∷ []) ≡ true
place_is_line n = rw (octal_digit (n / 4096), octal_digit (n / 512), octal_digit (n / 64), octal_digit (n / 8), octal_digit n) refl
