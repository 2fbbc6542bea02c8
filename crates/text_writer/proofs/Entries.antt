-- One entry more of a schedule, from its end on.
use Rattle.std.proofs.Common.{◌≡◌, ◌<◌, ◌≤◌, ◌-◌, ℕ, zero, suc, List, ◌∷◌, length, drop, get_or, sym, ap, ◌∙◌, arith, drop-cons}

pub entry_dropped : {X : Type 0} (xs : List X) (n : ℕ) (x : X) → 0 < n → n ≤ length xs → x ≡ get_or xs (n - 1) x → drop (n - 1) xs ≡ x ∷ drop n xs
entry_dropped xs zero x some within is = absurd (omega (arith, some))
entry_dropped xs (suc k) x some within is =
    let count : suc k - 1 ≡ k = omega arith in
    let here : x ≡ get_or xs k x = is ∙ ap (λ (i : ℕ). get_or xs i x) count in
    ap (λ (i : ℕ). drop i xs) count ∙ drop-cons xs k x (omega (arith, within)) ∙ ap (λ (y : _). y ∷ drop (suc k) xs) (sym here)
