-- Numbers in decimal are of the 48 characters.
use Rattle.std.proofs.Common.{◌≡◌, ◌<◌, ◌%◌, ◌+◌, ◌^◌, ℕ, zero, suc, true, [], ◌∷◌, refl, ◌∙◌, arith}
use Rattle.std.specs.List.{list_all}
use Rattle.std.specs.Fmt.{decimal}
use Rattle.std.proofs.lemmas.Fmt.{decimal_by_steps}
use Rattle.std.proofs.lemmas.List.Folds.{list_all-append}
use Rattle.bcd48.specs.Characters.{is_character}

pub below_ten : (n : ℕ) → n < 10 → is_character (48 + n) ≡ true
below_ten zero h = refl
below_ten (suc zero) h = refl
below_ten (suc (suc zero)) h = refl
below_ten (suc (suc (suc zero))) h = refl
below_ten (suc (suc (suc (suc zero)))) h = refl
below_ten (suc (suc (suc (suc (suc zero))))) h = refl
below_ten (suc (suc (suc (suc (suc (suc zero)))))) h = refl
below_ten (suc (suc (suc (suc (suc (suc (suc zero))))))) h = refl
below_ten (suc (suc (suc (suc (suc (suc (suc (suc zero)))))))) h = refl
below_ten (suc (suc (suc (suc (suc (suc (suc (suc (suc zero))))))))) h = refl
below_ten (suc (suc (suc (suc (suc (suc (suc (suc (suc (suc n)))))))))) h = absurd (omega arith)

pub decimal_is : (n : ℕ) → n < 2 ^ 64 → list_all is_character (decimal n) ≡ true
decimal_is n h =
    decimal_by_steps (λ n ds. list_all is_character ds ≡ true) (λ n k. rw (below_ten n k) refl)
    (λ n ds k rest. list_all-append is_character ds ((48 + n % 10) ∷ []) ∙ rw (rest, below_ten (n % 10) (omega arith)) refl) n h
