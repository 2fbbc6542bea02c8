-- Ticks that go by for one user, who stands in the rows at most once; and rows without users at the front.
use Rattle.std.proofs.Common.{◌≡◌, ℕ, suc, zero, ◌+◌, ◌-◌, ◌<◌, ◌≤◌, Bool, true, false, cond, ◌||◌, nat_eq, List, [], ◌∷◌, length, get_or, set, map, drop, refl, sym, ◌∙◌, ap, subst, arith}
use Rattle.std.specs.List.{list_any}
use Rattle.std.proofs.lemmas.Bool.Decides.{nat_tests}
use Rattle.ctss_types.specs.declared.session.Waiting.{Waiting}
use Rattle.plan_model.specs.Levels.{is_user, is_in, without_user, first_of}
use Rattle.plan_model.specs.Spent.{less}
use Rattle.level_queues.specs.Sound.{times, count, AreEmpty}
use Rattle.plan_model.proofs.Times.{none_times, none_count}

-- where the user isn't, nothing changes
spent_none : (n u : ℕ) (xs : List Waiting) → times u xs ≡ 0 → map (less n u) xs ≡ xs
spent_none n u [] h = refl
spent_none n u (x ∷ xs) h = by_test (spent_none n u xs) (nat_eq x.user u) h
  where
    by_test : (times u xs ≡ 0 → map (less n u) xs ≡ xs) → (b : Bool) → cond b 1 0 + times u xs ≡ 0 → cond b (record x { left = x.left - n }) x ∷ map (less n u) xs ≡ x ∷ xs
    by_test rest true h = absurd (omega (arith, h))
    by_test rest false h = ap (λ (ys : List Waiting). x ∷ ys) (rest (omega (arith, h)))

rows_none : (n u : ℕ) (rows : List (List Waiting)) → count u rows ≡ 0 → map (map (less n u)) rows ≡ rows
rows_none n u [] h = refl
rows_none n u (row ∷ rows) h =
    ap (λ (r : List Waiting). r ∷ map (map (less n u)) rows) (spent_none n u row (omega (arith, h)))
    ∙ ap (λ (rs : List (List Waiting)). row ∷ rs) (rows_none n u rows (omega (arith, h)))

times_at : (u : ℕ) (xs : List Waiting) (i : ℕ) (d : Waiting) → i < length xs → (get_or xs i d).user ≡ u → 1 ≤ times u xs
times_at u [] i d h e = absurd (omega (arith, h))
times_at u (x ∷ xs) zero d h e = let s : nat_eq x.user u ≡ true = grind (arith, nat_tests, e) in rw s (omega arith)
times_at u (x ∷ xs) (suc i) d h e = let within : i < length xs = omega (arith, h) in let r = times_at u xs i d within e in omega (arith, r)

less_is : (n u : ℕ) (x : Waiting) (l : ℕ) → x.user ≡ u → l ≡ x.left - n → record { user = x.user; left = l; since = x.since } ≡ less n u x
less_is n u x l e k = by_test (nat_eq x.user u) (grind (arith, nat_tests, e))
  where
    by_test : (b : Bool) → b ≡ true → record { user = x.user; left = l; since = x.since } ≡ cond b (record x { left = x.left - n }) x
    by_test true h = ap (λ (m : ℕ). record x { left = m }) k
    by_test false h = cc

rest_none : (b : Bool) (t : ℕ) → b ≡ true → cond b 1 0 + t ≤ 1 → t ≡ 0
rest_none true t e h = omega (arith, h)
rest_none false t e h = cc

spent_at : (n u : ℕ) (xs : List Waiting) (i : ℕ) (d : Waiting) → i < length xs → (get_or xs i d).user ≡ u → times u xs ≤ 1 → set xs i (less n u (get_or xs i d)) ≡ map (less n u) xs
spent_at n u [] i d h e once = absurd (omega (arith, h))
spent_at n u (x ∷ xs) zero d h e once =
    let s : nat_eq x.user u ≡ true = grind (arith, nat_tests, e) in
    ap (λ (ys : List Waiting). less n u x ∷ ys) (sym (spent_none n u xs (rest_none (nat_eq x.user u) (times u xs) s once)))
spent_at n u (x ∷ xs) (suc i) d h e once =
    let within : i < length xs = omega (arith, h) in
    by_test (times_at u xs i d within e) (spent_at n u xs i d within e (omega (arith, once))) (nat_eq x.user u) once
  where
    by_test : 1 ≤ times u xs → set xs i (less n u (get_or xs i d)) ≡ map (less n u) xs → (b : Bool) → cond b 1 0 + times u xs ≤ 1
        → x ∷ set xs i (less n u (get_or xs i d)) ≡ cond b (record x { left = x.left - n }) x ∷ map (less n u) xs
    by_test more k true h = absurd (omega (arith, h, more))
    by_test more k false h = ap (λ (ys : List Waiting). x ∷ ys) k

-- the user stands here
pub spent_here : (n u : ℕ) (xs ys : List Waiting) (i : ℕ) (d : Waiting) (l : ℕ) → ys ≡ xs → i < length ys → (get_or ys i d).user ≡ u → l ≡ (get_or ys i d).left - n → times u xs ≤ 1
    → set ys i (record { user = (get_or ys i d).user; left = l; since = (get_or ys i d).since }) ≡ map (less n u) xs
spent_here n u xs ys i d l same within e k once =
    ap (set ys i) (less_is n u (get_or ys i d) l e k) ∙ spent_at n u ys i d within e (subst (λ (zs : List Waiting). times u zs ≤ 1) (sym same) once) ∙ ap (map (less n u)) same

drop_past : {X : Type 0} (xs : List X) (i : ℕ) → length xs ≤ i → drop i xs ≡ []
drop_past [] zero h = refl
drop_past [] (suc i) h = refl
drop_past (x ∷ xs) zero h = absurd (omega (arith, h))
drop_past (x ∷ xs) (suc i) h = drop_past xs i (omega (arith, h))

-- the user stands nowhere among them
pub spent_past : (n u : ℕ) (xs ys : List Waiting) (i : ℕ) → ys ≡ xs → list_any (is_user u) xs ≡ list_any (is_user u) (drop i xs) → length ys ≤ i → ys ≡ map (less n u) xs
spent_past n u xs ys i same k past =
    let all : length xs ≤ i = subst (λ (zs : List Waiting). length zs ≤ i) same past in
    same ∙ sym (spent_none n u xs (none_times u xs (k ∙ ap (list_any (is_user u)) (drop_past xs i all))))

count_at : (u : ℕ) (rows : List (List Waiting)) (i : ℕ) (d : List Waiting) → i < length rows → times u (get_or rows i d) ≤ count u rows
count_at u [] i d h = absurd (omega (arith, h))
count_at u (row ∷ rows) zero d h = omega arith
count_at u (row ∷ rows) (suc i) d h = let r = count_at u rows i d (omega (arith, h)) in omega (arith, r)

pub row_once : (u : ℕ) (rows now : List (List Waiting)) (i : ℕ) (d : List Waiting) → now ≡ rows → i < length now → count u rows ≤ 1 → times u (get_or now i d) ≤ 1
row_once u rows now i d same within once =
    let k = count_at u now i d within in
    let c : count u now ≤ 1 = subst (λ (rs : List (List Waiting)). count u rs ≤ 1) (sym same) once in
    omega (arith, k, c)

stands_times : (u : ℕ) (xs : List Waiting) → list_any (is_user u) xs ≡ true → 1 ≤ times u xs
stands_times u [] h = cc
stands_times u (x ∷ xs) h = by_test (stands_times u xs) (nat_eq x.user u) h
  where
    by_test : (list_any (is_user u) xs ≡ true → 1 ≤ times u xs) → (b : Bool) → (b || list_any (is_user u) xs) ≡ true → 1 ≤ cond b 1 0 + times u xs
    by_test rest true h = omega arith
    by_test rest false h = let r = rest h in omega (arith, r)

spent_row : (n u : ℕ) (rows : List (List Waiting)) (i : ℕ) (d : List Waiting) → i < length rows → 1 ≤ times u (get_or rows i d) → count u rows ≤ 1
    → set rows i (map (less n u) (get_or rows i d)) ≡ map (map (less n u)) rows
spent_row n u [] i d h e once = absurd (omega (arith, h))
spent_row n u (row ∷ rows) zero d h e once = ap (λ (rs : List (List Waiting)). map (less n u) row ∷ rs) (sym (rows_none n u rows (omega (arith, e, once))))
spent_row n u (row ∷ rows) (suc i) d h e once =
    let within : i < length rows = omega (arith, h) in
    let k = count_at u rows i d within in
    ap (λ (r : List Waiting). r ∷ set rows i (map (less n u) (get_or rows i d))) (sym (spent_none n u row (omega (arith, k, e, once))))
    ∙ ap (λ (rs : List (List Waiting)). map (less n u) row ∷ rs) (spent_row n u rows i d within e (omega (arith, once)))

-- the row has the user
pub row_here : (n u : ℕ) (rows now : List (List Waiting)) (i : ℕ) (d row : List Waiting) → now ≡ rows → i < length now → row ≡ map (less n u) (get_or now i d)
    → true ≡ list_any (is_user u) (get_or now i d) → count u rows ≤ 1 → set now i row ≡ map (map (less n u)) rows
row_here n u rows now i d row same within is stands once =
    ap (set now i) is
    ∙ spent_row n u now i d within (stands_times u (get_or now i d) (sym stands)) (subst (λ (rs : List (List Waiting)). count u rs ≤ 1) (sym same) once)
    ∙ ap (map (map (less n u))) same

set_same : {X : Type 0} (xs : List X) (i : ℕ) (d : X) → i < length xs → set xs i (get_or xs i d) ≡ xs
set_same [] i d h = absurd (omega (arith, h))
set_same (x ∷ xs) zero d h = refl
set_same (x ∷ xs) (suc i) d h = ap (λ (ys : List _). x ∷ ys) (set_same xs i d (omega (arith, h)))

in_next : (u : ℕ) (rows : List (List Waiting)) (i : ℕ) (d : List Waiting) → i < length rows → false ≡ list_any (is_user u) (get_or rows i d) → is_in u (drop i rows) ≡ is_in u (drop (suc i) rows)
in_next u [] i d h e = absurd (omega (arith, h))
in_next u (row ∷ rows) zero d h e = ap (λ (b : Bool). b || is_in u rows) (sym e)
in_next u (row ∷ rows) (suc i) d h e = in_next u rows i d (omega (arith, h)) e

-- the row doesn't have it
pub row_on : (n u : ℕ) (rows now : List (List Waiting)) (i : ℕ) (d row : List Waiting) → now ≡ rows → is_in u rows ≡ is_in u (drop i rows) → i < length now
    → row ≡ map (less n u) (get_or now i d) → false ≡ list_any (is_user u) (get_or now i d) → (set now i row ≡ rows) × (is_in u rows ≡ is_in u (drop (i + 1) rows))
row_on n u rows now i d row same k within is stands =
    let more : suc i ≡ i + 1 = omega arith in (
      ap (set now i) (is ∙ spent_none n u (get_or now i d) (none_times u (get_or now i d) (sym stands))) ∙ set_same now i d within ∙ same,
      k ∙ in_next u rows i d (subst (λ (rs : List (List Waiting)). i < length rs) same within) (subst (λ (rs : List (List Waiting)). false ≡ list_any (is_user u) (get_or rs i d)) same stands) ∙ ap (λ (m : ℕ). is_in u (drop m rows)) more,
    )

pub rows_past : (n u : ℕ) (rows now : List (List Waiting)) (i : ℕ) → now ≡ rows → is_in u rows ≡ is_in u (drop i rows) → length now ≤ i → now ≡ map (map (less n u)) rows
rows_past n u rows now i same k past =
    let all : length rows ≤ i = subst (λ (rs : List (List Waiting)). length rs ≤ i) same past in
    same ∙ sym (rows_none n u rows (none_count u rows (k ∙ ap (is_in u) (drop_past rows i all))))

-- rows without users at the front

pub in_below : (u low : ℕ) (rows : List (List Waiting)) → AreEmpty low rows → is_in u rows ≡ is_in u (drop low rows)
in_below u zero rows h = refl
in_below u (suc n) [] h = refl
in_below u (suc n) (row ∷ rows) h = ap (λ (r : List Waiting). list_any (is_user u) r || is_in u rows) h.0 ∙ in_below u n rows h.1

first_below_from : (k low : ℕ) (rows : List (List Waiting)) → AreEmpty low rows → first_of k rows ≡ first_of (k + low) (drop low rows)
first_below_from k zero rows h = ap (λ (m : ℕ). first_of m rows) (omega arith)
first_below_from k (suc n) [] h = refl
first_below_from k (suc n) (row ∷ rows) h =
    let e : suc k + n ≡ k + suc n = omega arith in
    ap (λ (r : List Waiting). first_of k (r ∷ rows)) h.0 ∙ first_below_from (suc k) n rows h.1 ∙ ap (λ (m : ℕ). first_of m (drop n rows)) e

pub first_below : (low : ℕ) (rows : List (List Waiting)) → AreEmpty low rows → first_of 0 rows ≡ first_of low (drop low rows)
first_below low rows h = let e : 0 + low ≡ low = omega arith in first_below_from 0 low rows h ∙ ap (λ (m : ℕ). first_of m (drop low rows)) e

empty_next : (n : ℕ) (rows : List (List Waiting)) (d : List Waiting) → AreEmpty n rows → get_or rows n d ≡ [] → n < length rows → AreEmpty (suc n) rows
empty_next zero [] d h e w = absurd (omega (arith, w))
empty_next zero (row ∷ rows) d h e w = (e, tt)
empty_next (suc n) [] d h e w = absurd (omega (arith, w))
empty_next (suc n) (row ∷ rows) d h e w = (h.0, empty_next n rows d h.1 e (omega (arith, w)))

pub empty_fewer : (m n : ℕ) (rows : List (List Waiting)) → AreEmpty n rows → m ≤ n → AreEmpty m rows
empty_fewer zero n rows h le = tt
empty_fewer (suc m) zero rows h le = absurd (omega (arith, le))
empty_fewer (suc m) (suc n) [] h le = tt
empty_fewer (suc m) (suc n) (row ∷ rows) h le = (h.0, empty_fewer m n rows h.1 (omega (arith, le)))

pub empty_out : (n u : ℕ) (rows : List (List Waiting)) → AreEmpty n rows → AreEmpty n (map (without_user u) rows)
empty_out zero u rows h = tt
empty_out (suc n) u [] h = tt
empty_out (suc n) u (row ∷ rows) h = (ap (without_user u) h.0, empty_out n u rows h.1)

pub empty_spent : (n k u : ℕ) (rows : List (List Waiting)) → AreEmpty n rows → AreEmpty n (map (map (less k u)) rows)
empty_spent zero k u rows h = tt
empty_spent (suc n) k u [] h = tt
empty_spent (suc n) k u (row ∷ rows) h = (ap (map (less k u)) h.0, empty_spent n k u rows h.1)

empty_set : (m l : ℕ) (rows : List (List Waiting)) (row : List Waiting) → AreEmpty m rows → m ≤ l → AreEmpty m (set rows l row)
empty_set zero l rows row h le = tt
empty_set (suc m) zero rows row h le = absurd (omega (arith, le))
empty_set (suc m) (suc l) [] row h le = tt
empty_set (suc m) (suc l) (x ∷ rows) row h le = (h.0, empty_set m l rows row h.1 (omega (arith, le)))

pub empty_enter : (low l m : ℕ) (rows : List (List Waiting)) (row : List Waiting) → AreEmpty low rows → m ≤ low → m ≤ l → AreEmpty m (set rows l row)
empty_enter low l m rows row h a b = empty_set m l rows row (empty_fewer m low rows h a) b
