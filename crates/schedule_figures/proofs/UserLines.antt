-- The users' lines, one after another.
use Rattle.std.proofs.Common.{◌≡◌, ℕ, suc, ◌+◌, ◌<◌, ◌≤◌, List, ◌++◌, length, drop, get_or, sym, ap, ◌∙◌, arith, append_assoc, append-nil}
use Rattle.std.proofs.lemmas.List.{drop_all}
use Rattle.ctss_types.specs.declared.script.Account.{Account}
use Rattle.ctss_types.specs.declared.history.Entry.{Entry}
use Rattle.picture_model.specs.FigureLines.{between, user_line, user_lines}
use Rattle.schedule_figures.proofs.Visits.{one_less}

-- one more, and those that are left
pub user_more : (front behind : List ℕ) (es : List Entry) (accounts : List Account) (i : ℕ) (a : Account) (done all : List ℕ) → i < length accounts
    → a ≡ get_or accounts i a → done ++ user_lines front behind (i + 1) (drop i accounts) es ≡ all
    → (done ++ between front behind (user_line (i + 1) a es)) ++ user_lines front behind (i + 1 + 1) (drop (i + 1) accounts) es ≡ all
user_more front behind es accounts i a done all within is was =
    let after : suc (i + 1) ≡ i + 1 + 1 = omega arith in
    ap (λ (k : ℕ). (done ++ between front behind (user_line (i + 1) a es)) ++ user_lines front behind k (drop (i + 1) accounts) es) (sym after)
    ∙ append_assoc done (between front behind (user_line (i + 1) a es)) (user_lines front behind (suc (i + 1)) (drop (i + 1) accounts) es)
    ∙ ap (λ (l : List Account). done ++ user_lines front behind (i + 1) l es) (sym (one_less accounts i a within is))
    ∙ was

-- none is left
pub users_done : (front behind : List ℕ) (es : List Entry) (accounts : List Account) (i : ℕ) (done all : List ℕ) → length accounts ≤ i
    → done ++ user_lines front behind (i + 1) (drop i accounts) es ≡ all → done ≡ all
users_done front behind es accounts i done all past was =
    sym (append-nil done) ∙ ap (λ (l : List Account). done ++ user_lines front behind (i + 1) l es) (sym (drop_all i accounts past)) ∙ was
