-- Stretches of places of one owner.
use Rattle.std.proofs.Common.{◌≡◌, ℕ, suc, ◌+◌, ◌-◌, ◌<◌, Bool, true, nat_eq, if◌then◌else◌, ap, ◌∙◌, arith}
use Rattle.std.proofs.lemmas.Bool.Decides.{nat_tests}
use Rattle.picture_model.specs.CorePanel.{stretch_from}

-- one more place of a user
pub stretch_on : (owner : ℕ → ℕ) (user place : ℕ) → place < 128 → owner place ≡ user
    → stretch_from owner user place (128 - place) ≡ suc (stretch_from owner user (place + 1) (128 - (place + 1)))
stretch_on owner user place within is =
    let more : 128 - place ≡ suc (128 - (place + 1)) = omega (arith, within) in
    let next : suc place ≡ place + 1 = omega arith in
    let same : nat_eq (owner place) user ≡ true = grind (arith, is, nat_tests) in
    ap (λ (n : ℕ). stretch_from owner user place n) more
    ∙ ap (λ (b : Bool). if b then suc (stretch_from owner user (suc place) (128 - (place + 1))) else 0) same
    ∙ ap (λ (k : ℕ). suc (stretch_from owner user k (128 - (place + 1)))) next
