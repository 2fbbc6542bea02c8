-- The accounts, one after another.
use Rattle.std.proofs.Common.{◌≡◌, ℕ, suc, ◌+◌, ◌-◌, ◌<◌, ◌≤◌, Bool, List, [], ◌∷◌, ◌++◌, length, drop, get_or, refl, sym, ap, ◌∙◌, arith, append_assoc, append-nil, drop-cons}
use Rattle.std.proofs.lemmas.List.{drop_all}
use Rattle.ctss_types.specs.declared.script.Account.{Account}
use Rattle.ctss_types.specs.declared.history.Record.{Record}
use Rattle.text_model.specs.Report.{account_text, accounts_text}

abbrev account_at : Bool → ℕ → Account → Record → List ℕ
account_at dump n a rec = account_text dump n a (get_or rec.transcripts (n - 1) []) (get_or rec.files (n - 1) [])

-- one more, and those that are left
pub account_more : (dump : Bool) (rec : Record) (accounts : List Account) (i : ℕ) (a : Account) (done all : List ℕ) → i < length accounts → a ≡ get_or accounts i a
    → done ++ accounts_text dump (i + 1) (drop i accounts) rec ≡ all
    → (done ++ account_at dump (i + 1) a rec) ++ accounts_text dump (i + 1 + 1) (drop (i + 1) accounts) rec ≡ all
account_more dump rec accounts i a done all within is was =
    let next : suc i ≡ i + 1 = omega arith in
    let after : suc (i + 1) ≡ i + 1 + 1 = omega arith in
    let here : drop i accounts ≡ a ∷ drop (i + 1) accounts =
    drop-cons accounts i a within ∙ ap (λ (k : ℕ). get_or accounts i a ∷ drop k accounts) next ∙ ap (λ (y : Account). y ∷ drop (i + 1) accounts) (sym is) in
    ap (λ (k : ℕ). (done ++ account_at dump (i + 1) a rec) ++ accounts_text dump k (drop (i + 1) accounts) rec) (sym after)
    ∙ append_assoc done (account_at dump (i + 1) a rec) (accounts_text dump (suc (i + 1)) (drop (i + 1) accounts) rec)
    ∙ ap (λ (l : List Account). done ++ accounts_text dump (i + 1) l rec) (sym here)
    ∙ was

-- none is left
pub accounts_done : (dump : Bool) (rec : Record) (accounts : List Account) (i : ℕ) (done all : List ℕ) → length accounts ≤ i
    → done ++ accounts_text dump (i + 1) (drop i accounts) rec ≡ all → done ≡ all
accounts_done dump rec accounts i done all behind was =
    sym (append-nil done) ∙ ap (λ (l : List Account). done ++ accounts_text dump (i + 1) l rec) (sym (drop_all i accounts behind)) ∙ was
