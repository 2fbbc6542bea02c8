-- Numbers in columns.
use Rattle.std.proofs.Common.{◌≡◌, ◌-◌, ◌++◌, ℕ, List, length, replicate, ap, ◌∙◌}
use Rattle.std.specs.Fmt.{decimal}
use Rattle.picture_model.specs.Chart.{left_number}

pub left_is : (n blanks : ℕ) (digits : List ℕ) → digits ≡ decimal n → blanks ≡ 10 - length digits → digits ++ replicate blanks 32 ≡ left_number n
left_is n blanks digits is left =
    ap (λ (k : ℕ). digits ++ replicate k 32) left ∙ ap (λ (ds : List ℕ). ds ++ replicate (10 - length ds) 32) is
