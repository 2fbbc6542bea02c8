-- The queues are in order: nine rows, each user at most once, users of a range, entries of the past.
use Rattle.std.proofs.Common.{◌≡◌, ℕ, suc, zero, ◌+◌, ◌-◌, ◌*◌, ◌^◌, ◌<◌, ◌≤◌, Bool, true, false, cond, not, ◌||◌, nat_eq, List, [], ◌∷◌, ◌++◌, length, set, map, refl, ap, subst, arith, length-set}
use Rattle.std.proofs.lemmas.Bool.Decides.{nat_tests}
use Rattle.std.proofs.lemmas.List.{length-map}
use Rattle.ctss_types.specs.declared.session.Waiting.{Waiting}
use Rattle.plan_model.specs.Levels.{without_user}
use Rattle.plan_model.specs.Times.{times, count}
use Rattle.plan_model.proofs.Times.{none_times, count-enter, count-out, out-row, few_others}
use Rattle.fair_laws.specs.Waits.{since_of}
use Rattle.fair_laws.proofs.Row.{has, AllRow}
use Rattle.fair_laws.proofs.Queue.{row_of}

pub has-times : (u : ℕ) (row : List Waiting) → has u row ≡ true → 1 ≤ times u row
has-times u [] h = cc
has-times u (x ∷ xs) h = by_test (has-times u xs) (nat_eq x.user u) h
  where
    by_test : (has u xs ≡ true → 1 ≤ times u xs) → (b : Bool) → (b || has u xs) ≡ true → 1 ≤ cond b 1 0 + times u xs
    by_test rest true h = omega arith
    by_test rest false h = let r = rest h in omega (arith, r)

pub has-count : (u : ℕ) (rows : List (List Waiting)) (k : ℕ) → has u (row_of k rows) ≡ true → 1 ≤ count u rows
has-count u [] k h = cc
has-count u (row ∷ rows) zero h = let t = has-times u row h in omega (arith, t)
has-count u (row ∷ rows) (suc k) h = let r = has-count u rows k h in omega (arith, r)

-- a user stands in one row
pub one_row : (u : ℕ) (rows : List (List Waiting)) (i j : ℕ) → has u (row_of i rows) ≡ true → has u (row_of j rows) ≡ true
    → count u rows ≤ 1 → i ≡ j
one_row u [] i j h k once = cc
one_row u (row ∷ rows) zero zero h k once = refl
one_row u (row ∷ rows) zero (suc j) h k once = absurd (let a = has-times u row h in let b = has-count u rows j k in omega (arith, a, b, once))
one_row u (row ∷ rows) (suc i) zero h k once = absurd (let a = has-times u row k in let b = has-count u rows i h in omega (arith, a, b, once))
one_row u (row ∷ rows) (suc i) (suc j) h k once = ap suc (one_row u rows i j h k (omega (arith, once)))

pub count-gone : (u : ℕ) (rows : List (List Waiting)) → count u (map (without_user u) rows) ≡ 0
count-gone u [] = refl
count-gone u (row ∷ rows) = let a = none_times u (without_user u row) (out-row u row) in let b = count-gone u rows in omega (arith, a, b)

times-map : (v : ℕ) (f : Waiting → Waiting) (row : List Waiting) → ((x : Waiting) → (f x).user ≡ x.user) → times v (map f row) ≡ times v row
times-map v f [] same = refl
times-map v f (x ∷ xs) same = rw (same x, times-map v f xs same) refl

count-map : (v : ℕ) (f : Waiting → Waiting) (rows : List (List Waiting)) → ((x : Waiting) → (f x).user ≡ x.user)
    → count v (map (map f) rows) ≡ count v rows
count-map v f [] same = refl
count-map v f (row ∷ rows) same = rw (times-map v f row same, count-map v f rows same) refl

-- every entry of every row is so, at its level; the first row is that of level l
abbrev pub AllIn : (ℕ → Waiting → Type 0) → ℕ → List (List Waiting) → Type 0
AllIn Q l [] = Unit {0}
AllIn Q l (row ∷ rows) = AllRow (Q l) row × AllIn Q (suc l) rows

row-map : (Q R : Waiting → Type 0) (f : Waiting → Waiting) (row : List Waiting) → ((x : Waiting) → Q x → R (f x)) → AllRow Q row → AllRow R (map f row)
row-map Q R f [] each h = tt
row-map Q R f (x ∷ xs) each h = (each x h.0, row-map Q R f xs each h.1)

all-map : (Q R : ℕ → Waiting → Type 0) (f : Waiting → Waiting) (l : ℕ) (rows : List (List Waiting)) → ((k : ℕ) (x : Waiting) → Q k x → R k (f x))
    → AllIn Q l rows → AllIn R l (map (map f) rows)
all-map Q R f l [] each h = tt
all-map Q R f l (row ∷ rows) each h = (row-map (Q l) (R l) f row (each l) h.0, all-map Q R f (suc l) rows each h.1)

row-weaker : (Q R : Waiting → Type 0) (row : List Waiting) → ((x : Waiting) → Q x → R x) → AllRow Q row → AllRow R row
row-weaker Q R [] each h = tt
row-weaker Q R (x ∷ xs) each h = (each x h.0, row-weaker Q R xs each h.1)

all-weaker : (Q R : ℕ → Waiting → Type 0) (l : ℕ) (rows : List (List Waiting)) → ((k : ℕ) (x : Waiting) → Q k x → R k x) → AllIn Q l rows → AllIn R l rows
all-weaker Q R l [] each h = tt
all-weaker Q R l (row ∷ rows) each h = (row-weaker (Q l) (R l) row (each l) h.0, all-weaker Q R (suc l) rows each h.1)

row-out : (Q : Waiting → Type 0) (v : ℕ) (row : List Waiting) → AllRow Q row → AllRow Q (without_user v row)
row-out Q v [] h = tt
row-out Q v (x ∷ xs) h = by_test (nat_eq x.user v) (row-out Q v xs h.1)
  where
    by_test : (b : Bool) → AllRow Q (without_user v xs) → AllRow Q (cond (not b) (x ∷ without_user v xs) (without_user v xs))
    by_test true r = r
    by_test false r = (h.0, r)

all-out : (Q : ℕ → Waiting → Type 0) (v l : ℕ) (rows : List (List Waiting)) → AllIn Q l rows → AllIn Q l (map (without_user v) rows)
all-out Q v l [] h = tt
all-out Q v l (row ∷ rows) h = (row-out (Q l) v row h.0, all-out Q v (suc l) rows h.1)

row-more : (Q : Waiting → Type 0) (row : List Waiting) (x : Waiting) → Q x → AllRow Q row → AllRow Q (row ++ x ∷ [])
row-more Q [] x q h = (q, tt)
row-more Q (y ∷ row) x q h = (h.0, row-more Q row x q h.1)

all-enter : (Q : ℕ → Waiting → Type 0) (l k : ℕ) (rows : List (List Waiting)) (x : Waiting) → Q (l + k) x → AllIn Q l rows
    → AllIn Q l (set rows k (row_of k rows ++ x ∷ []))
all-enter Q l k [] x q h = tt
all-enter Q l zero (row ∷ rows) x q h = (row-more (Q l) row x (let e : l + 0 ≡ l = omega arith in rw e at q) h.0, h.1)
all-enter Q l (suc k) (row ∷ rows) x q h = (h.0, all-enter Q (suc l) k rows x (let e : l + suc k ≡ suc l + k = omega arith in rw e at q) h.1)

pub all-row : (Q : ℕ → Waiting → Type 0) (l k : ℕ) (rows : List (List Waiting)) → AllIn Q l rows → AllRow (Q (l + k)) (row_of k rows)
all-row Q l k [] h = tt
all-row Q l zero (row ∷ rows) h = let e : l ≡ l + 0 = omega arith in subst (λ (m : ℕ). AllRow (Q m) row) e h.0
all-row Q l (suc k) (row ∷ rows) h = let e : suc l + k ≡ l + suc k = omega arith in subst (λ (m : ℕ). AllRow (Q m) (row_of k rows)) e (all-row Q (suc l) k rows h.1)

-- an entry is of the past, and at level 0 it has a quantum at most
pub record IsFit (quantum now level : ℕ) (x : Waiting) : Type 0 where
  pub little : level ≡ 0 → x.left ≤ quantum
  pub past : x.since ≤ now

pub record Fit (users quantum now : ℕ) (rows : List (List Waiting)) : Type 0 where
  pub nine : length rows ≡ 9
  pub once : (v : ℕ) → count v rows ≤ 1
  pub known : (v : ℕ) → 1 ≤ count v rows → (1 ≤ v) × (v ≤ users)
  pub fit : AllIn (IsFit quantum now) 0 rows

pub fit-later : (users quantum now later : ℕ) (rows : List (List Waiting)) → now ≤ later → Fit users quantum now rows → Fit users quantum later rows
fit-later users quantum now later rows le f =
    record {
      nine = f.nine;
      once = f.once;
      known = f.known;
      fit = all-weaker (IsFit quantum now) (IsFit quantum later) 0 rows (λ k x h. record { little = h.little; past = let p = h.past in omega (arith, p, le) }) f.fit;
    }

pub fit-out : (users quantum now v : ℕ) (rows : List (List Waiting)) → Fit users quantum now rows → Fit users quantum now (map (without_user v) rows)
fit-out users quantum now v rows f =
    record {
      nine = simp length-map f.nine;
      once = λ w. let a = count-out w v rows in let b = f.once w in omega (arith, a, b);
      known = λ w h. let a = count-out w v rows in let more : 1 ≤ count w rows = omega (arith, a, h) in f.known w more;
      fit = all-out (IsFit quantum now) v 0 rows f.fit;
    }

pub fit-map : (users quantum now : ℕ) (g : Waiting → Waiting) (rows : List (List Waiting)) → ((x : Waiting) → (g x).user ≡ x.user)
    → ((k : ℕ) (x : Waiting) → IsFit quantum now k x → IsFit quantum now k (g x)) → Fit users quantum now rows → Fit users quantum now (map (map g) rows)
fit-map users quantum now g rows same keeps f =
    record {
      nine = simp length-map f.nine;
      once = λ w. let a = count-map w g rows same in let b = f.once w in omega (arith, a, b);
      known = λ w h. let a = count-map w g rows same in let more : 1 ≤ count w rows = omega (arith, a, h) in f.known w more;
      fit = all-map (IsFit quantum now) (IsFit quantum now) g 0 rows keeps f.fit;
    }

-- a user that stands nowhere enters
pub fit-enter : (users quantum now l v : ℕ) (rows : List (List Waiting)) → l ≤ 8 → count v rows ≡ 0 → (1 ≤ v) × (v ≤ users) → Fit users quantum now rows
    → Fit users quantum now (set rows l (row_of l rows ++ record { user = v; left = quantum * 2 ^ l; since = now } ∷ []))
fit-enter users quantum now l v rows low none range f =
    let x : Waiting = record { user = v; left = quantum * 2 ^ l; since = now } in
    let within : l < length rows = let n = f.nine in omega (arith, n, low) in
    record {
      nine = simp length-set f.nine;
      once = λ w. once w (nat_eq v w) refl (count-enter w rows l x within);
      known = λ w. known w (nat_eq v w) refl (count-enter w rows l x within);
      fit = all-enter (IsFit quantum now) 0 l rows x (record { little = λ e. small l (let k : l ≡ 0 = omega (arith, e) in k); past = omega arith }) f.fit;
    }
  where
    x : Waiting
    x = record { user = v; left = quantum * 2 ^ l; since = now }

    small : (m : ℕ) → m ≡ 0 → quantum * 2 ^ m ≤ quantum
    small zero e = omega arith
    small (suc m) e = absurd (omega (arith, e))

    gone : (w : ℕ) → nat_eq v w ≡ true → count w rows ≡ 0
    gone w e = let s : v ≡ w = grind (arith, nat_tests) in subst (λ (z : ℕ). count z rows ≡ 0) s none

    once : (w : ℕ) (b : Bool) → nat_eq v w ≡ b → count w (set rows l (row_of l rows ++ x ∷ [])) ≡ count w rows + (cond b 1 0 + 0)
        → count w (set rows l (row_of l rows ++ x ∷ [])) ≤ 1
    once w true e c = let z = gone w e in omega (arith, c, z)
    once w false e c = let z = f.once w in omega (arith, c, z)

    known : (w : ℕ) (b : Bool) → nat_eq v w ≡ b → count w (set rows l (row_of l rows ++ x ∷ [])) ≡ count w rows + (cond b 1 0 + 0)
        → 1 ≤ count w (set rows l (row_of l rows ++ x ∷ [])) → (1 ≤ w) × (w ≤ users)
    known w true e c h = let s : v ≡ w = grind (arith, nat_tests) in subst (λ (z : ℕ). (1 ≤ z) × (z ≤ users)) s range
    known w false e c h = let more : 1 ≤ count w rows = omega (arith, c, h) in f.known w more

-- a user waits since a tick of the past
row-past : (quantum now k u : ℕ) (row : List Waiting) → AllRow (IsFit quantum now k) row → has u row ≡ true → since_of u row ≤ now
row-past quantum now k u [] f h = cc
row-past quantum now k u (x ∷ xs) f h = by_test (nat_eq x.user u) (row-past quantum now k u xs f.1) h
  where
    by_test : (b : Bool) → (has u xs ≡ true → since_of u xs ≤ now) → (b || has u xs) ≡ true → cond b x.since (since_of u xs) ≤ now
    by_test true rest h = (f.0).past
    by_test false rest h = rest h

pub fit-past : (users quantum now u k : ℕ) (rows : List (List Waiting)) → Fit users quantum now rows → has u (row_of k rows) ≡ true
    → since_of u (row_of k rows) ≤ now
fit-past users quantum now u k rows f h = row-past quantum now (0 + k) u (row_of k rows) (all-row (IsFit quantum now) 0 k rows f.fit) h

pub fit-little : (users quantum now : ℕ) (rows : List (List Waiting)) → Fit users quantum now rows → AllRow (λ x. x.left ≤ quantum) (row_of 0 rows)
fit-little users quantum now rows f =
    row-weaker (IsFit quantum now 0) (λ x. x.left ≤ quantum) (row_of 0 rows) (λ x h. h.little refl) (all-row (IsFit quantum now) 0 0 rows f.fit)

-- where a user stands nowhere, a row has the others at most
pub fit-few : (users quantum now u k : ℕ) (rows : List (List Waiting)) → Fit users quantum now rows → count u rows ≡ 0 → 1 ≤ u → u ≤ users
    → length (row_of k rows) ≤ users - 1
fit-few users quantum now u k rows f none some low =
    few_others users u k rows f.once f.known none some low
