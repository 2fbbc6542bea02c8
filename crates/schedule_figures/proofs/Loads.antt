-- The lines of loads: a place after another, and a load after another.
use Rattle.std.proofs.Common.{◌≡◌, ◌≢◌, ℕ, suc, ◌+◌, ◌-◌, ◌<◌, ◌≤◌, List, [], ◌++◌, length, drop, get_or, refl, sym, ap, ◌∙◌, arith}
use Rattle.std.proofs.lemmas.List.{drop_all}
use Rattle.ctss_types.specs.declared.history.Entry.{Entry}
use Rattle.ctss_types.specs.declared.history.Entry.TheVariants.{Swap, Common}
use Rattle.picture_model.specs.CorePanel.{first_owners, owners_after}
use Rattle.picture_model.specs.CoreLines.{place_text, places_text, load_line, core_line, core_lines}
use Rattle.schedule_figures.proofs.Visits.{one_less}

-- the places from one on

pub places_next : (owner : ℕ → ℕ) (place : ℕ) → place < 128
    → places_text owner place (128 - place) ≡ place_text owner place ++ places_text owner (place + 1) (128 - (place + 1))
places_next owner place within =
    let more : 128 - place ≡ suc (128 - (place + 1)) = omega (arith, within) in
    let next : suc place ≡ place + 1 = omega arith in
    ap (λ (n : ℕ). places_text owner place n) more
    ∙ ap (λ (k : ℕ). place_text owner place ++ places_text owner k (128 - (place + 1))) next

pub places_none : (owner : ℕ → ℕ) (place : ℕ) → 128 ≤ place → places_text owner place (128 - place) ≡ []
places_none owner place behind =
    let none : 128 - place ≡ 0 = omega (arith, behind) in
    ap (λ (n : ℕ). places_text owner place n) none

-- the lines of the entries from one on

pub lines_next : (owners left : List (ℕ → ℕ)) (es : List Entry) (i : ℕ) (e : Entry) → i < length es → e ≡ get_or es i e
    → left ≡ owners_after e owners
    → core_lines owners (drop i es) ≡ core_line (first_owners owners) e ++ core_lines left (drop (i + 1) es)
lines_next owners left es i e within is behind =
    ap (λ (l : List Entry). core_lines owners l) (one_less es i e within is)
    ∙ ap (λ (l : List (ℕ → ℕ)). core_line (first_owners owners) e ++ core_lines l (drop (i + 1) es)) (sym behind)

pub lines_none : (owners : List (ℕ → ℕ)) (es : List Entry) (i : ℕ) → length es ≤ i → core_lines owners (drop i es) ≡ []
lines_none owners es i behind = ap (λ (l : List Entry). core_lines owners l) (drop_all i es behind)

-- the line of an entry, by whether it is a load

pub load_is : (owner : ℕ → ℕ) (e : Entry) (tick user dumped read fresh : ℕ) → e ≡ Swap tick user dumped read fresh
    → load_line tick user dumped read fresh owner ≡ core_line owner e
load_is owner e tick user dumped read fresh is = ap (core_line owner) (sym is)

pub no_load : (owner : ℕ → ℕ) (e : Entry) → ((tick user dumped read fresh : ℕ) → e ≢ Swap tick user dumped read fresh) → [] ≡ core_line owner e
no_load owner (Swap tick user dumped read fresh) other = absurd (other tick user dumped read fresh refl)
no_load owner (Common user op reply) other = refl
no_load owner _ other = refl
