-- Numbers of users as they are written.
use Rattle.std.proofs.Common.{◌≡◌, ◌<◌, ◌≤◌, ◌%◌, ◌+◌, ℕ, zero, suc, true, List, [], ◌∷◌, ◌++◌, refl, ◌∙◌, arith, length, length-append}
use Rattle.std.specs.List.{list_all}
use Rattle.std.specs.Fmt.{decimal}
use Rattle.std.proofs.lemmas.Fmt.{decimal_by_steps, length-decimal-le}
use Rattle.std.proofs.lemmas.List.Folds.{list_all-append}
use Rattle.bcd48.specs.Characters.{is_character}

-- a digit is a character
below_ten : (n : ℕ) → n < 10 → is_character (48 + n) ≡ true
below_ten zero h = refl
below_ten (suc zero) h = refl
below_ten (suc (suc zero)) h = refl
below_ten (suc (suc (suc zero))) h = refl
below_ten (suc (suc (suc (suc zero)))) h = refl
below_ten (suc (suc (suc (suc (suc zero))))) h = refl
below_ten (suc (suc (suc (suc (suc (suc zero)))))) h = refl
below_ten (suc (suc (suc (suc (suc (suc (suc zero))))))) h = refl
below_ten (suc (suc (suc (suc (suc (suc (suc (suc zero)))))))) h = refl
below_ten (suc (suc (suc (suc (suc (suc (suc (suc (suc zero))))))))) h = refl
below_ten (suc (suc (suc (suc (suc (suc (suc (suc (suc (suc n)))))))))) h = absurd (omega arith)

-- the number of a user is written in characters
pub decimal_characters : (n : ℕ) → n ≤ 30 → list_all is_character (decimal n) ≡ true
decimal_characters n few =
    decimal_by_steps (λ n ds. list_all is_character ds ≡ true) (λ n k. rw (below_ten n k) refl)
    (λ n ds k rest. list_all-append is_character ds ((48 + n % 10) ∷ []) ∙ rw (rest, below_ten (n % 10) (omega arith)) refl) n (omega (arith, few))

-- and in at most two
pub decimal_short : (n : ℕ) → n ≤ 30 → length (decimal n) ≤ 2
decimal_short n few = length-decimal-le 2 n (omega arith) (omega (arith, few)) (omega (arith, few))

-- a text and the number of a user
pub numbered_short : (text : List ℕ) (n : ℕ) → n ≤ 30 → length (text ++ decimal n) ≤ length text + 2
numbered_short text n few = omega (arith, length-append text (decimal n), decimal_short n few)
