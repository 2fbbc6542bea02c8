-- Users and ticks, one after another.
use Rattle.std.proofs.Common.{◌≡◌, ℕ, suc, ◌+◌, ◌-◌, ◌*◌, ◌<◌, ◌≤◌, List, [], ◌++◌, length, drop, get_or, sym, ap, ◌∙◌, arith, append_assoc, append-nil}
use Rattle.std.proofs.lemmas.List.{drop_all}
use Rattle.ctss_types.specs.declared.script.Account.{Account}
use Rattle.ctss_types.specs.declared.history.Entry.{Entry}
use Rattle.picture_model.specs.Chart.{user_rows, all_user_rows, ruler_from, left_number}
use Rattle.picture_model.specs.Folds.{tick_at}
use Rattle.schedule_figures.proofs.Visits.{one_less}

-- one user more, and those that are left
pub user_more : (swap each columns : ℕ) (es : List Entry) (accounts : List Account) (i : ℕ) (a : Account) (done all : List ℕ)
    → i < length accounts → a ≡ get_or accounts i a
    → done ++ all_user_rows swap each columns (i + 1) (drop i accounts) es ≡ all
    → (done ++ user_rows swap each columns (i + 1) a es) ++ all_user_rows swap each columns (i + 1 + 1) (drop (i + 1) accounts) es ≡ all
user_more swap each columns es accounts i a done all within is was =
    let after : i + 1 + 1 ≡ suc (i + 1) = omega arith in
    ap (λ (k : ℕ). (done ++ user_rows swap each columns (i + 1) a es) ++ all_user_rows swap each columns k (drop (i + 1) accounts) es) after
    ∙ append_assoc done (user_rows swap each columns (i + 1) a es) (all_user_rows swap each columns (suc (i + 1)) (drop (i + 1) accounts) es)
    ∙ ap (λ (l : List Account). done ++ all_user_rows swap each columns (i + 1) l es) (sym (one_less accounts i a within is))
    ∙ was

-- no user is left
pub users_done : (swap each columns : ℕ) (es : List Entry) (accounts : List Account) (i : ℕ) (done all : List ℕ) → length accounts ≤ i
    → done ++ all_user_rows swap each columns (i + 1) (drop i accounts) es ≡ all → done ≡ all
users_done swap each columns es accounts i done all behind was =
    sym (append-nil done) ∙ ap (λ (l : List Account). done ++ all_user_rows swap each columns (i + 1) l es) (sym (drop_all i accounts behind)) ∙ was

-- no tick over the rows yet
pub ticks_start : (each count : ℕ) (es : List Entry) → [] ++ ruler_from each 0 (count - 0) es ≡ ruler_from each 0 count es
ticks_start each count es = let all : count - 0 ≡ count = omega arith in ap (λ (n : ℕ). ruler_from each 0 n es) all

-- one tick more over the rows, and those that are left
pub tick_more : (each count tenth : ℕ) (es : List Entry) (done all : List ℕ) → tenth < count
    → done ++ ruler_from each tenth (count - tenth) es ≡ all
    → (done ++ left_number (tick_at (10 * tenth * each) es)) ++ ruler_from each (tenth + 1) (count - (tenth + 1)) es ≡ all
tick_more each count tenth es done all within was =
    let after : tenth + 1 ≡ suc tenth = omega arith in
    let rest : suc (count - (tenth + 1)) ≡ count - tenth = omega arith in
    ap (λ (k : ℕ). (done ++ left_number (tick_at (10 * tenth * each) es)) ++ ruler_from each k (count - (tenth + 1)) es) after
    ∙ append_assoc done (left_number (tick_at (10 * tenth * each) es)) (ruler_from each (suc tenth) (count - (tenth + 1)) es)
    ∙ ap (λ (n : ℕ). done ++ ruler_from each tenth n es) rest
    ∙ was

-- no tick is left
pub ticks_done : (each count tenth : ℕ) (es : List Entry) (done all : List ℕ) → count ≤ tenth
    → done ++ ruler_from each tenth (count - tenth) es ≡ all → done ≡ all
ticks_done each count tenth es done all behind was =
    let none : 0 ≡ count - tenth = omega arith in
    sym (append-nil done) ∙ ap (λ (n : ℕ). done ++ ruler_from each tenth n es) none ∙ was
