-- What is drawn of core, a place after another and a load after another.
use Rattle.std.proofs.Common.{◌≡◌, ◌≢◌, ℕ, suc, ◌+◌, ◌-◌, ◌<◌, ◌≤◌, List, [], ◌∷◌, ◌++◌, length, refl, sym, ap, ◌∙◌, arith}
use Rattle.ctss_types.specs.declared.history.Entry.{Entry}
use Rattle.ctss_types.specs.declared.history.Entry.TheVariants.{Swap, Common}
use Rattle.picture_model.specs.Folds.{cut_of}
use Rattle.picture_model.specs.CorePanel.{place_drawn, places_drawn, core_drawn, cores_drawn, next_load, first_owners, owners_after, load_shown, owner_bar, owner_label}
use Rattle.schedule_figures.proofs.Texts.{one_more, none_left}

-- the places from one on

pub places_next : (scale zoom users from until : ℕ) (owner : ℕ → ℕ) (e : Entry) (place : ℕ) → place < 128
    → places_drawn scale zoom users from until owner e place (128 - place)
    ≡ place_drawn scale zoom users from until owner e place
    ++ places_drawn scale zoom users from until owner e (place + 1) (128 - (place + 1))
places_next scale zoom users from until owner e place within =
    let more : 128 - place ≡ suc (128 - (place + 1)) = omega (arith, within) in
    let next : suc place ≡ place + 1 = omega arith in
    ap (λ (n : ℕ). places_drawn scale zoom users from until owner e place n) more
    ∙ ap
    (λ (k : ℕ). place_drawn scale zoom users from until owner e place
    ++ places_drawn scale zoom users from until owner e k (128 - (place + 1)))
    next

pub places_none : (scale zoom users from until : ℕ) (owner : ℕ → ℕ) (e : Entry) (place : ℕ) → 128 ≤ place
    → places_drawn scale zoom users from until owner e place (128 - place) ≡ []
places_none scale zoom users from until owner e place behind =
    let none : 128 - place ≡ 0 = omega (arith, behind) in
    ap (λ (n : ℕ). places_drawn scale zoom users from until owner e place n) none

-- equal numbers make equal shapes

pub owner_bar_is : (user : ℕ) (e : Entry) {x y w h x2 y2 w2 h2 : ℕ} → x ≡ x2 → y ≡ y2 → w ≡ w2 → h ≡ h2
    → owner_bar user x y w h e ≡ owner_bar user x2 y2 w2 h2 e
owner_bar_is user e p q r s = rw (p, q, r, s) refl

pub owner_label_is : (scale user count : ℕ) {x y w x2 y2 w2 : ℕ} → x ≡ x2 → y ≡ y2 → w ≡ w2
    → owner_label scale user x y w count ≡ owner_label scale user x2 y2 w2 count
owner_label_is scale user count p q r = rw (p, q, r) refl

-- one more load, and those that are left
pub loads_more : (scale zoom users last cut next : ℕ) (owners left : List (ℕ → ℕ)) (es later : List Entry) (e : Entry) (done all : List ℕ)
    → es ≡ e ∷ later → next ≡ cut + cut_of e → left ≡ owners_after e owners → done ++ cores_drawn scale zoom users last cut owners es ≡ all
    → (done ++ core_drawn scale zoom users cut (next_load last (cut + cut_of e) later) (first_owners owners) e)
    ++ cores_drawn scale zoom users last next left later
    ≡ all
loads_more scale zoom users last cut next owners left es later e done all is after behind was =
    let this = core_drawn scale zoom users cut (next_load last (cut + cut_of e) later) (first_owners owners) e in
    one_more done this (cores_drawn scale zoom users last next left later) (cores_drawn scale zoom users last cut owners es) all
    (ap (cores_drawn scale zoom users last cut owners) is
    ∙ ap (λ (n : ℕ). this ++ cores_drawn scale zoom users last n (owners_after e owners) later) (sym after)
    ∙ ap (λ (l : List (ℕ → ℕ)). this ++ cores_drawn scale zoom users last next l later) (sym behind))
    was

pub loads_done : (scale zoom users last cut : ℕ) (owners : List (ℕ → ℕ)) (es : List Entry) (done all : List ℕ)
    → length es ≡ 0 → done ++ cores_drawn scale zoom users last cut owners es ≡ all → done ≡ all
loads_done scale zoom users last cut owners [] done all none was = none_left done [] all refl was
loads_done scale zoom users last cut owners (e ∷ es) done all none was = absurd (omega (arith, none))

-- what a load shows, by where it stands and where the next one does
pub load_is : (scale zoom users cut last from until : ℕ) (owner : ℕ → ℕ) (later : List Entry) (e : Entry) (tick user dumped read fresh : ℕ)
    → e ≡ Swap tick user dumped read fresh → from ≡ tick - cut → until ≡ next_load last cut later
    → load_shown scale zoom users from until dumped read fresh owner e
    ≡ core_drawn scale zoom users cut (next_load last (cut + cut_of e) later) owner e
load_is scale zoom users cut last from until owner later e tick user dumped read fresh is here there =
    let same : cut ≡ cut + 0 = omega arith in
    rw (is, here, there)
    (ap
    (λ (n : ℕ). load_shown scale zoom users (tick - cut) (next_load last n later) dumped read fresh owner (Swap tick user dumped read fresh))
    same)

pub no_load : (scale zoom users cut until : ℕ) (owner : ℕ → ℕ) (e : Entry) → ((tick user dumped read fresh : ℕ) → e ≢ Swap tick user dumped read fresh)
    → [] ≡ core_drawn scale zoom users cut until owner e
no_load scale zoom users cut until owner (Swap tick user dumped read fresh) other = absurd (other tick user dumped read fresh refl)
no_load scale zoom users cut until owner (Common user op reply) other = refl
no_load scale zoom users cut until owner _ other = refl
