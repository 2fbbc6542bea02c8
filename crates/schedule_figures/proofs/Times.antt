-- The times of a record, entry by entry.
use Rattle.std.proofs.Common.{◌≡◌, ℕ, ◌+◌, ◌-◌, ◌*◌, List, [], ◌∷◌, ◌++◌, length, take, get_or, refl, sym, ap, ◌∙◌, ◌<◌, map, sum, arith}
use Rattle.std.proofs.lemmas.List.{map-append, take_more}
use Rattle.ctss_types.specs.declared.history.Entry.{Entry}
use Rattle.ctss_types.specs.declared.history.Entry.TheVariants.{Idle, Swap, Serve, Common}
use Rattle.record_laws.specs.Spans.{served_in, swapping_in, idle_in}
use Rattle.picture_model.specs.Figures.{total}
use Rattle.schedule_figures.proofs.Tallies.{sum_first, sum_more}
use Rattle.schedule_figures.specs.Time.{served_of, moved_of, idle_of}

-- the ticks of the services
pub served_is : (es : List Entry) → total served_of es ≡ served_in es
served_is [] = refl
served_is (Serve tick user level ran cause ∷ es) = sum_first ran (map served_of es) ∙ ap (λ (n : ℕ). ran + n) (served_is es)
served_is (Swap tick user dumped read fresh ∷ es) = served_is es
served_is (Common user op reply ∷ es) = served_is es
served_is (_ ∷ es) = served_is es

-- the ticks of idling
pub idle_is : (es : List Entry) → total idle_of es ≡ idle_in es
idle_is [] = refl
idle_is (Idle from until ∷ es) = sum_first (until - from) (map idle_of es) ∙ ap (λ (n : ℕ). (until - from) + n) (idle_is es)
idle_is (Common user op reply ∷ es) = idle_is es
idle_is (_ ∷ es) = idle_is es

-- the ticks of the loads: so many for each block, so for all blocks at once
pub swapping_is : (swap : ℕ) (es : List Entry) → swap * total moved_of es ≡ swapping_in swap es
swapping_is swap [] = omega arith
swapping_is swap (Swap tick user dumped read fresh ∷ es) =
    let rest : swap * total moved_of es ≡ swapping_in swap es = swapping_is swap es in
    ap (λ (n : ℕ). swap * n) (sum_first (dumped + read) (map moved_of es)) ∙ omega (arith, rest)
swapping_is swap (Common user op reply ∷ es) = swapping_is swap es
swapping_is swap (_ ∷ es) = swapping_is swap es

-- what one entry more adds
pub total_more : (f : Entry → ℕ) (es : List Entry) (i : ℕ) (e : Entry) → i < length es → e ≡ get_or es i e
    → total f (take i es) + f e ≡ total f (take (i + 1) es)
total_more f es i e within is =
    sum_more (map f (take i es)) (f e)
    ∙ ap sum (sym (map-append f (take i es) (e ∷ [])))
    ∙ ap (λ (x : Entry). total f (take i es ++ x ∷ [])) is
    ∙ ap (total f) (sym (take_more es i e within))
