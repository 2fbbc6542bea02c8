-- One entry more of a schedule, with what is known of a user.
use Rattle.std.proofs.Common.{◌≡◌, ℕ, suc, ◌+◌, ◌<◌, ◌≤◌, List, ◌∷◌, ◌++◌, length, drop, get_or, sym, ap, ◌∙◌, arith, append_assoc, append-nil, drop-cons}
use Rattle.std.proofs.lemmas.List.{drop_all}
use Rattle.ctss_types.specs.declared.history.Entry.{Entry}
use Rattle.picture_model.specs.declared.request.Track.{Track}
use Rattle.picture_model.specs.declared.request.Visit.{Visit}
use Rattle.picture_model.specs.Requests.{track_after, visit_of, visits_from}

-- what is left from an element on is that element and what is left behind it
pub one_less : {X : Type 0} (xs : List X) (i : ℕ) (x : X) → i < length xs → x ≡ get_or xs i x → drop i xs ≡ x ∷ drop (i + 1) xs
one_less xs i x within is =
    let next : suc i ≡ i + 1 = omega arith in
    drop-cons xs i x within ∙ ap (λ (k : ℕ). get_or xs i x ∷ drop k xs) next ∙ ap (λ (y : _). y ∷ drop (i + 1) xs) (sym is)

-- one more, and those that are left
pub visit_more : (u : ℕ) (es : List Entry) (i : ℕ) (e : Entry) (t : Track) (done all : List Visit) → i < length es → e ≡ get_or es i e
    → done ++ visits_from u t (drop i es) ≡ all
    → (done ++ visit_of u t e) ++ visits_from u (track_after u t e) (drop (i + 1) es) ≡ all
visit_more u es i e t done all within is was =
    append_assoc done (visit_of u t e) (visits_from u (track_after u t e) (drop (i + 1) es))
    ∙ ap (λ (l : List Entry). done ++ visits_from u t l) (sym (one_less es i e within is))
    ∙ was

-- none is left
pub visits_done : (u : ℕ) (es : List Entry) (i : ℕ) (t : Track) (done all : List Visit) → length es ≤ i
    → done ++ visits_from u t (drop i es) ≡ all → done ≡ all
visits_done u es i t done all behind was =
    sym (append-nil done) ∙ ap (λ (l : List Entry). done ++ visits_from u t l) (sym (drop_all i es behind)) ∙ was
