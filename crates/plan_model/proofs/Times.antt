-- How often users are in the lists of the levels: what each change of the lists does to it, and how many are in one list.
use Rattle.std.proofs.Common.{◌≡◌, ℕ, suc, zero, ◌+◌, ◌-◌, ◌<◌, ◌≤◌, Bool, true, false, cond, not, ◌||◌, nat_eq, List, [], ◌∷◌, ◌++◌, length, get_or, set, map, Some, refl, ap, subst, arith}
use Rattle.std.specs.List.{list_any, IsDistinct, AllByRecursion}
use Rattle.std.proofs.lemmas.Bool.Decides.{nat_tests}
use Rattle.std.proofs.lemmas.Map.Steps.{length-le_from_distinct_below}
use Rattle.ctss_types.specs.declared.session.Waiting.{Waiting}
use Rattle.plan_model.specs.Levels.{is_user, is_in, without_user, first_of}
use Rattle.plan_model.specs.Times.{times, count}

times-append : (v : ℕ) (xs ys : List Waiting) → times v (xs ++ ys) ≡ times v xs + times v ys
times-append v [] ys = omega arith
times-append v (x ∷ xs) ys = let h = times-append v xs ys in omega (arith, h)

pub count-enter : (v : ℕ) (rows : List (List Waiting)) (l : ℕ) (x : Waiting) → l < length rows → count v (set rows l (get_or rows l [] ++ x ∷ [])) ≡ count v rows + times v (x ∷ [])
count-enter v [] l x h = absurd (omega arith)
count-enter v (row ∷ rows) zero x h = let e = times-append v row (x ∷ []) in omega (arith, e)
count-enter v (row ∷ rows) (suc l) x h = let within : l < length rows = omega arith in let e = count-enter v rows l x within in omega (arith, e)

times-out_by : (v : ℕ) (b : Bool) (x : Waiting) (xs ys : List Waiting) → times v xs ≤ times v ys → times v (cond (not b) (x ∷ xs) xs) ≤ times v (x ∷ ys)
times-out_by v true x xs ys h = omega (arith, h)
times-out_by v false x xs ys h = omega (arith, h)

pub times-out : (v u : ℕ) (row : List Waiting) → times v (without_user u row) ≤ times v row
times-out v u [] = omega arith
times-out v u (x ∷ xs) = times-out_by v (nat_eq x.user u) x (without_user u xs) xs (times-out v u xs)

pub count-out : (v u : ℕ) (rows : List (List Waiting)) → count v (map (without_user u) rows) ≤ count v rows
count-out v u [] = omega arith
count-out v u (row ∷ rows) = omega (arith, times-out v u row, count-out v u rows)

-- a user that isn't held counts nothing
pub none_times : (u : ℕ) (xs : List Waiting) → list_any (is_user u) xs ≡ false → times u xs ≡ 0
none_times u [] h = refl
none_times u (x ∷ xs) h = by_test (none_times u xs) (nat_eq x.user u) h
  where
    by_test : (list_any (is_user u) xs ≡ false → times u xs ≡ 0) → (b : Bool) → (b || list_any (is_user u) xs) ≡ false → cond b 1 0 + times u xs ≡ 0
    by_test rest true h = cc
    by_test rest false h = let r = rest h in omega (arith, r)

pub none_count : (u : ℕ) (rows : List (List Waiting)) → is_in u rows ≡ false → count u rows ≡ 0
none_count u [] h = refl
none_count u (row ∷ rows) h = by_test (none_count u rows) (list_any (is_user u) row) refl h
  where
    by_test : (is_in u rows ≡ false → count u rows ≡ 0) → (b : Bool) → list_any (is_user u) row ≡ b → (b || is_in u rows) ≡ false → times u row + count u rows ≡ 0
    by_test rest true e h = cc
    by_test rest false e h = let a = none_times u row e in let r = rest h in omega (arith, a, r)

-- a dropped user isn't held
pub out-row : (u : ℕ) (row : List Waiting) → list_any (is_user u) (without_user u row) ≡ false
out-row u [] = refl
out-row u (x ∷ xs) = by_test (out-row u xs) (nat_eq x.user u) refl
  where
    by_test : list_any (is_user u) (without_user u xs) ≡ false → (b : Bool) → nat_eq x.user u ≡ b → list_any (is_user u) (cond (not b) (x ∷ without_user u xs) (without_user u xs)) ≡ false
    by_test rest true e = rest
    by_test rest false e = rw (e, rest) refl

pub out-rows : (u : ℕ) (rows : List (List Waiting)) → is_in u (map (without_user u) rows) ≡ false
out-rows u [] = refl
out-rows u (row ∷ rows) = rw (out-row u row, out-rows u rows) refl

users : List Waiting → List ℕ
users [] = []
users (x ∷ xs) = x.user ∷ users xs

length-users : (xs : List Waiting) → length (users xs) ≡ length xs
unfolding users
length-users [] = refl
length-users (x ∷ xs) = ap suc (length-users xs)

same : (a b : ℕ) → nat_eq a b ≡ nat_eq b a
same a b = grind (arith, nat_tests)

any_times : (u : ℕ) (xs : List Waiting) → list_any (nat_eq u) (users xs) ≡ true → 1 ≤ times u xs
unfolding users
any_times u [] h = cc
any_times u (x ∷ xs) h = by_test (any_times u xs) (nat_eq u x.user) (nat_eq x.user u) (same u x.user) h
  where
    by_test : (list_any (nat_eq u) (users xs) ≡ true → 1 ≤ times u xs) → (b d : Bool) → b ≡ d → (b || list_any (nat_eq u) (users xs)) ≡ true → 1 ≤ cond d 1 0 + times u xs
    by_test rest true true e h = omega arith
    by_test rest true false e h = cc
    by_test rest false true e h = cc
    by_test rest false false e h = let r = rest h in omega (arith, r)

none_all : (u : ℕ) (xs : List Waiting) → times u xs ≡ 0 → AllByRecursion (λ y. nat_eq u y ≡ false) (users xs)
unfolding users
none_all u [] h = tt
none_all u (x ∷ xs) h = by_test (none_all u xs) (nat_eq x.user u) (nat_eq u x.user) (same u x.user) h
  where
    by_test : (times u xs ≡ 0 → AllByRecursion (λ y. nat_eq u y ≡ false) (users xs)) → (d b : Bool) → b ≡ d → cond d 1 0 + times u xs ≡ 0 → (b ≡ false) × AllByRecursion (λ y. nat_eq u y ≡ false) (users xs)
    by_test rest true b e h = absurd (omega arith)
    by_test rest false b e h = (e, rest (omega (arith, h)))

self_times : (x : Waiting) (xs : List Waiting) → times x.user (x ∷ xs) ≡ suc (times x.user xs)
self_times x xs = let e : nat_eq x.user x.user ≡ true = grind (arith, nat_tests) in rw e (omega arith)

distinct : (xs : List Waiting) → ((v : ℕ) → times v xs ≤ 1) → IsDistinct nat_eq (users xs)
unfolding users IsDistinct
distinct [] h = tt
distinct (x ∷ xs) h =
    let a = self_times x xs in
    let b = h x.user in
    let none : times x.user xs ≡ 0 = omega (arith, a, b) in
    (none_all x.user xs none, distinct xs (λ v. let k = h v in omega (arith, k)))

-- a list of users of 1 to a number, each once, has fewer than that number where one of them isn't in it
in_range : (most u : ℕ) (row : List Waiting) → ((v : ℕ) → 1 ≤ times v row → (1 ≤ v) × (v ≤ most)) → u ≤ most → (q : ℕ)
    → list_any (nat_eq q) (0 ∷ u ∷ users row) ≡ true → q < suc most
in_range most u row known low q = by_zero (nat_eq q 0) (λ e. grind (arith, nat_tests))
  where
    inside : list_any (nat_eq q) (users row) ≡ true → q < suc most
    inside h = let k = known q (any_times q row h) in omega (arith, k.1)

    by_test : (b : Bool) → (b ≡ true → q < suc most) → (b || list_any (nat_eq q) (users row)) ≡ true → q < suc most
    by_test true here h = here refl
    by_test false here h = inside h

    by_zero : (b : Bool) → (b ≡ true → q < suc most) → (b || list_any (nat_eq q) (u ∷ users row)) ≡ true → q < suc most
    by_zero true here h = here refl
    by_zero false here h = by_test (nat_eq q u) (λ e. grind (arith, nat_tests)) h

row_room : (most u : ℕ) (row : List Waiting) → ((v : ℕ) → times v row ≤ 1) → ((v : ℕ) → 1 ≤ times v row → (1 ≤ v) × (v ≤ most))
    → times u row ≡ 0 → 1 ≤ u → u ≤ most → length row ≤ most - 1
unfolding users IsDistinct
row_room most u row once known none some low =
    let zero_none : times 0 row ≡ 0 = no_zero (times 0 row) refl in
    let not_zero : nat_eq 0 u ≡ false = grind (arith, nat_tests) in
    let h = length-le_from_distinct_below (0 ∷ u ∷ users row) (suc most) ((not_zero, none_all 0 row zero_none), (none_all u row none, distinct row once)) (in_range most u row known low) in
    let e = length-users row in
    omega (arith, h, e)
  where
    no_zero : (t : ℕ) → times 0 row ≡ t → times 0 row ≡ 0
    no_zero zero e = e
    no_zero (suc t) e = absurd (let k = known 0 (omega (arith, e)) in omega (arith, k.0))

times_count : (v : ℕ) (rows : List (List Waiting)) (l : ℕ) → times v (get_or rows l []) ≤ count v rows
times_count v [] l = omega arith
times_count v (row ∷ rows) zero = omega arith
times_count v (row ∷ rows) (suc l) = let h = times_count v rows l in omega (arith, h)

pub few_others : (most u l : ℕ) (rows : List (List Waiting)) → ((v : ℕ) → count v rows ≤ 1) → ((v : ℕ) → 1 ≤ count v rows → (1 ≤ v) × (v ≤ most))
    → count u rows ≡ 0 → 1 ≤ u → u ≤ most → length (get_or rows l []) ≤ most - 1
few_others most u l rows once known none some low =
    row_room most u (get_or rows l [])
    (λ v. let a = times_count v rows l in let b = once v in omega (arith, a, b))
    (λ v h. let a = times_count v rows l in let more : 1 ≤ count v rows = omega (arith, a, h) in known v more)
    (let a = times_count u rows l in omega (arith, a, none)) some low

pub first_counts : (k : ℕ) (rows : List (List Waiting)) (p : ℕ × Waiting) → first_of k rows ≡ Some p → 1 ≤ count (p.1).user rows
first_counts k [] p h = cc
first_counts k ([] ∷ rows) p h = let r = first_counts (suc k) rows p h in omega (arith, r)
first_counts k ((x ∷ row) ∷ rows) p h =
    let e : (k, x) ≡ p = cc in
    subst (λ (q : ℕ × Waiting). 1 ≤ count (q.1).user ((x ∷ row) ∷ rows)) e (let s = self_times x row in omega (arith, s))
