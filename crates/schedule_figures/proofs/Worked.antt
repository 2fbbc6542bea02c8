-- One entry more of a schedule, from its end on, and the highest level.
use Rattle.std.proofs.Common.{◌≡◌, ◌<◌, ◌≤◌, ◌-◌, ℕ, zero, suc, max, List, [], ◌∷◌, ◌++◌, length, drop, get_or, map, fold, refl, sym, ap, ◌∙◌, arith, drop-cons}
use Rattle.ctss_types.specs.declared.history.Entry.{Entry}
use Rattle.picture_model.specs.Figures.{highest_level, level_of, load_of, dumped_of, read_of, total}
use Rattle.schedule_figures.specs.Lines.{load_columns}
use Rattle.schedule_figures.specs.Work.{top, IsWork}
use Rattle.schedule_figures.specs.declared.work.Work.{Work}
use Rattle.text_model.specs.Parts.{column}

-- what is left from the element before a place on is that element and what is left from the place on
pub entry_dropped : {X : Type 0} (xs : List X) (n : ℕ) (x : X) → 0 < n → n ≤ length xs → x ≡ get_or xs (n - 1) x → drop (n - 1) xs ≡ x ∷ drop n xs
entry_dropped xs zero x some within is = absurd (omega (arith, some))
entry_dropped xs (suc k) x some within is =
    let count : suc k - 1 ≡ k = omega arith in
    let here : x ≡ get_or xs k x = is ∙ ap (λ (i : ℕ). get_or xs i x) count in
    ap (λ (i : ℕ). drop i xs) count ∙ drop-cons xs k x (omega (arith, within)) ∙ ap (λ (y : _). y ∷ drop (suc k) xs) (sym here)

-- the greatest number, from the last one on
from_end : (a : ℕ) (ns : List ℕ) → fold max a ns ≡ max (fold max 0 ns) a
from_end a [] = omega arith
from_end a (n ∷ ns) =
    let all : fold max (max a n) ns ≡ max (fold max 0 ns) (max a n) = from_end (max a n) ns in
    let rest : fold max (max 0 n) ns ≡ max (fold max 0 ns) (max 0 n) = from_end (max 0 n) ns in
    omega (arith, all, rest)

-- the highest level, from the first entry on
pub top_is : (u : ℕ) (es : List Entry) → top u es ≡ highest_level u es
top_is u [] = refl
top_is u (e ∷ es) =
    let first : max 0 (level_of u e) ≡ level_of u e = omega arith in
    ap (λ (n : ℕ). max n (level_of u e)) (top_is u es)
    ∙ sym (from_end (level_of u e) (map (level_of u) es))
    ∙ ap (λ (n : ℕ). fold max n (map (level_of u) es)) (sym first)

-- what a user's line says of its loads
pub loads_are : (u : ℕ) (w : Work) (es : List Entry) → IsWork u w es
    → load_columns w
    ≡ column 6 (highest_level u es) ++ (column 6 (total (load_of u) es) ++ (column 8 (total (dumped_of u) es) ++ column 8 (total (read_of u) es)))
loads_are u w es is =
    ap (λ (n : ℕ). column 6 n ++ (column 6 w.loads ++ (column 8 w.dumped ++ column 8 w.read))) (is.level ∙ top_is u es)
    ∙ ap (λ (n : ℕ). column 6 (highest_level u es) ++ (column 6 n ++ (column 8 w.dumped ++ column 8 w.read))) is.loads
    ∙ ap (λ (n : ℕ). column 6 (highest_level u es) ++ (column 6 (total (load_of u) es) ++ (column 8 n ++ column 8 w.read))) is.dumped
    ∙ ap (λ (n : ℕ). column 6 (highest_level u es) ++ (column 6 (total (load_of u) es) ++ (column 8 (total (dumped_of u) es) ++ column 8 n))) is.read
