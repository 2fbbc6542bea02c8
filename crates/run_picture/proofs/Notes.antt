-- Owners that are noted for each load that entries tell of.
use Rattle.std.proofs.Common.{◌≡◌, ℕ, suc, ◌<◌, ◌≤◌, ◌+◌, List, ◌∷◌, ◌++◌, map, length, drop, get_or, sym, ap, ◌∙◌, arith, append_assoc, append-nil, drop-cons}
use Rattle.std.proofs.lemmas.List.{drop_all, map-append}
use Rattle.ctss_types.specs.declared.history.Entry.{Entry}
use Rattle.picture_model.specs.Cores.{load_tick, load_ticks}

-- what is left from an element on is that element and what is left behind it
one_less : {X : Type 0} (xs : List X) (i : ℕ) (x : X) → i < length xs → x ≡ get_or xs i x → drop i xs ≡ x ∷ drop (i + 1) xs
one_less xs i x within is =
    let next : suc i ≡ i + 1 = omega arith in
    drop-cons xs i x within ∙ ap (λ (k : ℕ). get_or xs i x ∷ drop k xs) next ∙ ap (λ (y : _). y ∷ drop (i + 1) xs) (sym is)

-- the loads of one entry, and of those from it on
pub noted_next : {X : Type 0} (f : ℕ → X) (first done now : List X) (es : List Entry) (i : ℕ) (e : Entry) → i < length es → e ≡ get_or es i e
    → now ≡ done ++ map f (load_tick e) → done ++ map f (load_ticks (drop i es)) ≡ first → now ++ map f (load_ticks (drop (i + 1) es)) ≡ first
noted_next f first done now es i e within is more was =
    ap (λ (l : List _). l ++ map f (load_ticks (drop (i + 1) es))) more
    ∙ append_assoc done (map f (load_tick e)) (map f (load_ticks (drop (i + 1) es)))
    ∙ ap (λ (l : List _). done ++ l) (sym (map-append f (load_tick e) (load_ticks (drop (i + 1) es))))
    ∙ ap (λ (l : List Entry). done ++ map f (load_ticks l)) (sym (one_less es i e within is))
    ∙ was

pub noted_all : {X : Type 0} (f : ℕ → X) (first done : List X) (es : List Entry) (i : ℕ) → length es ≤ i
    → done ++ map f (load_ticks (drop i es)) ≡ first → done ≡ first
noted_all f first done es i behind was =
    sym (append-nil done) ∙ ap (λ (l : List Entry). done ++ map f (load_ticks l)) (sym (drop_all i es behind)) ∙ was
