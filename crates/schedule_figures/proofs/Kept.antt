-- Owners in parts: where a part stands, what comes behind, and one load more.
use Rattle.std.proofs.Common.{◌≡◌, ℕ, zero, suc, ◌+◌, ◌-◌, ◌<◌, ◌≤◌, List, [], ◌∷◌, ◌++◌, map, length, get_or, take, drop, replicate, refl, sym, ap, subst, ◌∙◌, arith, append_assoc, length-append, length-drop, drop-cons}
use Rattle.std.proofs.lemmas.List.{drop_all, drop_at, drop-append-le, take-append-le, take_all}
use Rattle.ctss_types.specs.declared.history.Entry.{Entry}
use Rattle.ctss_types.specs.declared.history.Entry.TheVariants.{Swap, Common}
use Rattle.picture_model.specs.Cores.{owner_in}
use Rattle.picture_model.specs.CorePanel.{first_owners, owners_after}
use Rattle.schedule_figures.specs.declared.chart.maps.CorePart.{CorePart}
use Rattle.schedule_figures.specs.Maps.{users_of, maps_in, AreEnds, start_in}

-- the place of so many of a user, and one behind them

pub in_part : (count user : ℕ) (rest : List ℕ) (n : ℕ) → n < count → owner_in (replicate count user ++ rest) n ≡ user
in_part zero user rest n within = absurd (omega (arith, within))
in_part (suc count) user rest zero within = refl
in_part (suc count) user rest (suc n) within = in_part count user rest n (omega (arith, within))

pub behind_part : (count user : ℕ) (rest : List ℕ) (n : ℕ) → count ≤ n → owner_in (replicate count user ++ rest) n ≡ owner_in rest (n - count)
behind_part zero user rest n over = let less : n ≡ n - 0 = omega arith in ap (owner_in rest) less
behind_part (suc count) user rest zero over = absurd (omega (arith, over))
behind_part (suc count) user rest (suc n) over =
    let less : n - count ≡ suc n - suc count = omega arith in
    behind_part count user rest n (omega (arith, over)) ∙ ap (owner_in rest) less

-- parts behind others
pub users_append : (ps qs : List CorePart) → users_of (ps ++ qs) ≡ users_of ps ++ users_of qs
users_append [] qs = refl
users_append (p ∷ ps) qs =
    ap (λ (us : List ℕ). replicate p.count p.user ++ us) (users_append ps qs) ∙ sym (append_assoc (replicate p.count p.user) (users_of ps) (users_of qs))

-- one user more, of so many
pub one_more_of : (count user : ℕ) → replicate count user ++ user ∷ [] ≡ replicate (suc count) user
one_more_of zero user = refl
one_more_of (suc count) user = ap (λ (us : List ℕ). user ∷ us) (one_more_of count user)

-- the ends of loads

pub ends_last : (from : ℕ) (ends : List ℕ) (last : ℕ) → AreEnds from ends last → from ≤ last
ends_last from [] last is = omega (arith, is)
ends_last from (e ∷ ends) last is = let k = ends_last e ends last is.1 in omega (arith, is.0, k)

-- where the parts of a load begin that come behind these
abbrev start_from : (from : ℕ) (ends : List ℕ) → (load : ℕ) → ℕ
start_from from ends zero = from
start_from from ends (suc i) = get_or ends i 0

-- a load begins before it ends, and ends within the parts
in_order : (from : ℕ) (ends : List ℕ) (last i : ℕ) → i < length ends → AreEnds from ends last → (start_from from ends i ≤ get_or ends i 0) × (get_or ends i 0 ≤ last)
in_order from [] last i within is = absurd (omega (arith, within))
in_order from (e ∷ ends) last zero within is = (is.0, ends_last e ends last is.1)
in_order from (e ∷ ends) last (suc zero) within is = in_order e ends last 0 (omega (arith, within)) is.1
in_order from (e ∷ ends) last (suc (suc i)) within is = in_order e ends last (suc i) (omega (arith, within)) is.1

start_same : (ends : List ℕ) (i : ℕ) → start_in ends i ≡ start_from 0 ends i
start_same ends zero = refl
start_same ends (suc i) = refl

pub starts : (ends : List ℕ) (last i : ℕ) → i < length ends → AreEnds 0 ends last → start_in ends i ≤ get_or ends i 0
starts ends last i within is = subst (λ (n : ℕ). n ≤ get_or ends i 0) (sym (start_same ends i)) (in_order 0 ends last i within is).0

pub stops : (ends : List ℕ) (last i : ℕ) → i < length ends → AreEnds 0 ends last → get_or ends i 0 ≤ last
stops ends last i within is = (in_order 0 ends last i within is).1

-- the parts of one load

map_from : (from : ℕ) (ends : List ℕ) (ps : List CorePart) (i : ℕ) → i < length ends
    → get_or (maps_in from ends ps) i [] ≡ users_of (take (get_or ends i 0 - start_from from ends i) (drop (start_from from ends i) ps))
map_from from [] ps i within = absurd (omega (arith, within))
map_from from (e ∷ ends) ps zero within = refl
map_from from (e ∷ ends) ps (suc zero) within = map_from e ends ps 0 (omega (arith, within))
map_from from (e ∷ ends) ps (suc (suc i)) within = map_from e ends ps (suc i) (omega (arith, within))

pub maps_count : (from : ℕ) (ends : List ℕ) (ps : List CorePart) → length (maps_in from ends ps) ≡ length ends
maps_count from [] ps = refl
maps_count from (e ∷ ends) ps = ap suc (maps_count e ends ps)

first_of : (maps : List (List ℕ)) (i : ℕ) → i < length maps → first_owners (map owner_in (drop i maps)) ≡ owner_in (get_or maps i [])
first_of maps i within = ap (λ (ms : List (List ℕ)). first_owners (map owner_in ms)) (drop-cons maps i [] within)

pub parts_behind : (ends : List ℕ) (ps qs : List CorePart) (i : ℕ) → i < length ends → qs ≡ take (get_or ends i 0 - start_in ends i) (drop (start_in ends i) ps)
    → owner_in (users_of qs) ≡ first_owners (map owner_in (drop i (maps_in 0 ends ps)))
parts_behind ends ps qs i within is =
    ap (λ (ms : List CorePart). owner_in (users_of ms)) is
    ∙ ap (λ (n : ℕ). owner_in (users_of (take (get_or ends i 0 - n) (drop n ps)))) (start_same ends i)
    ∙ ap owner_in (sym (map_from 0 ends ps i within))
    ∙ sym (first_of (maps_in 0 ends ps) i (let k = maps_count 0 ends ps in omega (arith, k, within)))

pub none_behind : (ends : List ℕ) (ps qs : List CorePart) (i : ℕ) → length ends ≤ i → qs ≡ []
    → owner_in (users_of qs) ≡ first_owners (map owner_in (drop i (maps_in 0 ends ps)))
none_behind ends ps qs i over is =
    ap (λ (ms : List CorePart). owner_in (users_of ms)) is
    ∙ ap (λ (ms : List (List ℕ)). first_owners (map owner_in ms)) (sym (drop_all i (maps_in 0 ends ps) (let k = maps_count 0 ends ps in omega (arith, k, over))))

-- one load more

last_map : (ps more : List CorePart) → take (length (ps ++ more) - length ps) (drop (length ps) (ps ++ more)) ≡ more
last_map ps more =
    ap (take (length (ps ++ more) - length ps)) (drop_at ps more (length ps) refl)
    ∙ take_all (length (ps ++ more) - length ps) more (let k = length-append ps more in omega (arith, k))

maps_more : (from : ℕ) (ends : List ℕ) (ps more : List CorePart) → AreEnds from ends (length ps)
    → maps_in from (ends ++ length (ps ++ more) ∷ []) (ps ++ more) ≡ maps_in from ends ps ++ users_of more ∷ []
maps_more from [] ps more is =
    ap (λ (n : ℕ). users_of (take (length (ps ++ more) - n) (drop n (ps ++ more))) ∷ []) is
    ∙ ap (λ (qs : List CorePart). users_of qs ∷ []) (last_map ps more)
maps_more from (e ∷ ends) ps more is =
    let last = ends_last e ends (length ps) is.1 in
    let left = length-drop from ps in
    (λ j. users_of
    ((ap (take (e - from)) (drop-append-le from ps more (omega (arith, is.0, last)))
    ∙ take-append-le (e - from) (drop from ps) more (omega (arith, left, last))) j)
    ∷ maps_more e ends ps more is.1 j)

ends_more : (from : ℕ) (ends : List ℕ) (last next : ℕ) → AreEnds from ends last → last ≤ next → AreEnds from (ends ++ next ∷ []) next
ends_more from [] last next is on = (omega (arith, is, on), refl)
ends_more from (e ∷ ends) last next is on = (is.0, ends_more e ends last next is.1 on)

pub maps_on : (ends more_ends : List ℕ) (ps qs more : List CorePart) (owners : List ℕ) → AreEnds 0 ends (length ps) → qs ≡ ps ++ more → users_of more ≡ owners
    → more_ends ≡ ends ++ length qs ∷ [] → maps_in 0 more_ends qs ≡ maps_in 0 ends ps ++ owners ∷ []
maps_on ends more_ends ps qs more owners is parts users last =
    ap (λ (es : List ℕ). maps_in 0 es qs) last
    ∙ ap (λ (rs : List CorePart). maps_in 0 (ends ++ length rs ∷ []) rs) parts
    ∙ maps_more 0 ends ps more is
    ∙ ap (λ (us : List ℕ). maps_in 0 ends ps ++ us ∷ []) users

pub ends_on : (ends more_ends : List ℕ) (ps qs more : List CorePart) → AreEnds 0 ends (length ps) → qs ≡ ps ++ more → more_ends ≡ ends ++ length qs ∷ []
    → AreEnds 0 more_ends (length qs)
ends_on ends more_ends ps qs more is parts last =
    subst (λ (es : List ℕ). AreEnds 0 es (length qs)) (sym last)
    (ends_more 0 ends (length ps) (length qs) is (let k = length-append ps more in let l = ap (λ (rs : List CorePart). length rs) parts in omega (arith, k, l)))

-- the loads behind an entry

pub after_load : (maps : List (List ℕ)) (load : ℕ) (e : Entry) (tick user dumped read fresh : ℕ) → load < length maps → e ≡ Swap tick user dumped read fresh
    → map owner_in (drop (load + 1) maps) ≡ owners_after e (map owner_in (drop load maps))
after_load maps load e tick user dumped read fresh within is =
    let next : load + 1 ≡ suc load = omega arith in
    ap (λ (n : ℕ). map owner_in (drop n maps)) next
    ∙ ap (λ (ms : List (List ℕ)). owners_after (Swap tick user dumped read fresh) (map owner_in ms)) (sym (drop-cons maps load [] within))
    ∙ ap (λ (x : Entry). owners_after x (map owner_in (drop load maps))) (sym is)

pub after_last : (maps : List (List ℕ)) (load : ℕ) (e : Entry) (tick user dumped read fresh : ℕ) → length maps ≤ load → e ≡ Swap tick user dumped read fresh
    → map owner_in (drop load maps) ≡ owners_after e (map owner_in (drop load maps))
after_last maps load e tick user dumped read fresh over is =
    ap (map owner_in) (drop_all load maps over)
    ∙ ap (λ (ms : List (List ℕ)). owners_after (Swap tick user dumped read fresh) (map owner_in ms)) (sym (drop_all load maps over))
    ∙ ap (λ (x : Entry). owners_after x (map owner_in (drop load maps))) (sym is)

pub after_other : (maps : List (List ℕ)) (load : ℕ) (e : Entry) → ((tick user dumped read fresh : ℕ) → e ≡ Swap tick user dumped read fresh → ⊥)
    → map owner_in (drop load maps) ≡ owners_after e (map owner_in (drop load maps))
after_other maps load (Swap tick user dumped read fresh) other = absurd (other tick user dumped read fresh refl)
after_other maps load (Common user op reply) other = refl
after_other maps load _ other = refl
