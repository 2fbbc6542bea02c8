-- The cards of the accounts, one after another.
use Rattle.std.proofs.Common.{◌≡◌, ℕ, suc, ◌+◌, ◌<◌, ◌≤◌, List, ◌∷◌, ◌++◌, length, drop, get_or, sym, ap, ◌∙◌, arith, append_assoc, append-nil, drop-cons}
use Rattle.std.proofs.lemmas.List.{drop_all}
use Rattle.ctss_types.specs.declared.script.Account.{Account}
use Rattle.text_model.specs.Canonical.{user_card, user_cards}

-- one more, and those that are left
pub user_more : (accounts : List Account) (i : ℕ) (a : Account) (done all : List ℕ) → i < length accounts → a ≡ get_or accounts i a
    → done ++ user_cards (i + 1) (drop i accounts) ≡ all → (done ++ user_card (i + 1) a) ++ user_cards (i + 1 + 1) (drop (i + 1) accounts) ≡ all
user_more accounts i a done all within is was =
    let next : suc i ≡ i + 1 = omega arith in
    let after : suc (i + 1) ≡ i + 1 + 1 = omega arith in
    let here : drop i accounts ≡ a ∷ drop (i + 1) accounts =
    drop-cons accounts i a within ∙ ap (λ (k : ℕ). get_or accounts i a ∷ drop k accounts) next ∙ ap (λ (y : Account). y ∷ drop (i + 1) accounts) (sym is) in
    ap (λ (k : ℕ). (done ++ user_card (i + 1) a) ++ user_cards k (drop (i + 1) accounts)) (sym after)
    ∙ append_assoc done (user_card (i + 1) a) (user_cards (suc (i + 1)) (drop (i + 1) accounts))
    ∙ ap (λ (l : List Account). done ++ user_cards (i + 1) l) (sym here)
    ∙ was

-- none is left
pub users_done : (accounts : List Account) (i : ℕ) (done all : List ℕ) → length accounts ≤ i
    → done ++ user_cards (i + 1) (drop i accounts) ≡ all → done ≡ all
users_done accounts i done all behind was =
    sym (append-nil done) ∙ ap (λ (l : List Account). done ++ user_cards (i + 1) l) (sym (drop_all i accounts behind)) ∙ was
