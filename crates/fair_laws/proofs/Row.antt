-- One row of the queues, as a user in it sees it.
use Rattle.std.proofs.Common.{◌≡◌, ◌≢◌, ℕ, suc, ◌+◌, ◌-◌, ◌*◌, ◌<◌, ◌≤◌, Bool, true, false, cond, not, ◌||◌, nat_eq, nat_le, List, [], ◌∷◌, ◌++◌, length, map, Option, Some, None, refl, ◌∙◌, ap, arith, if◌then◌else◌}
use Rattle.std.specs.List.{list_any}
use Rattle.std.proofs.lemmas.Bool.Decides.{nat_tests}
use Rattle.ctss_types.specs.declared.session.Waiting.{Waiting}
use Rattle.fair_laws.specs.Waits.{since_of}
use Rattle.plan_model.specs.Levels.{is_user, without_user, one_less, from_now, has_waited, first_that, is_served}

-- whether a user stands in a row
abbrev pub has : ℕ → List Waiting → Bool
has u row = list_any (is_user u) row

-- the ticks that a turn may take: what is left of its time, one at least, and the load of the next
abbrev pub turn : (load : ℕ) → Waiting → ℕ
turn load x = suc (x.left - 1) + load

-- and all turns before a user's, and all of a row
abbrev pub ahead : (load u : ℕ) → List Waiting → ℕ
ahead load u [] = 0
ahead load u (x ∷ xs) = if nat_eq x.user u then 0 else turn load x + ahead load u xs

abbrev pub all_turns : (load : ℕ) → List Waiting → ℕ
all_turns load [] = 0
all_turns load (x ∷ xs) = turn load x + all_turns load xs

-- a user in a row is still in it, waits since the same tick, and has no more ticks ahead of it
abbrev pub Stays : (load u : ℕ) → List Waiting → List Waiting → Type 0
Stays load u row after =
    has u row ≡ true → (has u after ≡ true) × (since_of u after ≡ since_of u row) × (ahead load u after ≤ ahead load u row)

pub stays-same : (load u : ℕ) (row : List Waiting) → Stays load u row row
stays-same load u row h = (h, refl, omega arith)

pub stays-then : (load u : ℕ) (a b c : List Waiting) → Stays load u a b → Stays load u b c → Stays load u a c
stays-then load u a b c f g h =
    let x = f h in
    let y = g x.0 in
    (y.0, y.1 ∙ x.1, omega (arith, x.2, y.2))

-- a user is added at the tail
pub stays-more : (load u : ℕ) (row : List Waiting) (x : Waiting) → Stays load u row (row ++ x ∷ [])
stays-more load u [] x h = cc
stays-more load u (y ∷ row) x h = by_test (stays-more load u row x) (nat_eq y.user u) h
  where
    by_test : Stays load u row (row ++ x ∷ []) → (b : Bool) → (b || has u row) ≡ true
        → ((b || has u (row ++ x ∷ [])) ≡ true)
        × (cond b y.since (since_of u (row ++ x ∷ [])) ≡ cond b y.since (since_of u row))
        × (cond b 0 (turn load y + ahead load u (row ++ x ∷ [])) ≤ cond b 0 (turn load y + ahead load u row))
    by_test rest true h = (refl, refl, omega arith)
    by_test rest false h = let r = rest h in (r.0, r.1, omega (arith, r.2))

-- another user goes out
pub stays-out : (load u v : ℕ) (row : List Waiting) → v ≢ u → Stays load u row (without_user v row)
stays-out load u v [] other h = cc
stays-out load u v (y ∷ row) other h =
    by_test (stays-out load u v row other) (nat_eq y.user v) (nat_eq y.user u) refl (λ a b. clash a b) h
  where
    clash : nat_eq y.user v ≡ true → nat_eq y.user u ≡ true → ⊥
    clash a b = other (grind (arith, nat_tests))

    by_test : Stays load u row (without_user v row) → (d b : Bool) → nat_eq y.user u ≡ b → (d ≡ true → b ≡ true → ⊥) → (b || has u row) ≡ true
        → (has u (cond (not d) (y ∷ without_user v row) (without_user v row)) ≡ true)
        × (since_of u (cond (not d) (y ∷ without_user v row) (without_user v row)) ≡ cond b y.since (since_of u row))
        × (ahead load u (cond (not d) (y ∷ without_user v row) (without_user v row)) ≤ cond b 0 (turn load y + ahead load u row))
    by_test rest true true e clash h = absurd (clash refl refl)
    by_test rest true false e clash h = let r = rest h in (r.0, r.1, omega (arith, r.2))
    by_test rest false true e clash h = rw e (refl, refl, omega arith)
    by_test rest false false e clash h = let r = rest h in rw e (r.0, r.1, omega (arith, r.2))

-- a change of each entry that keeps a user's place and wait
pub record IsCalm (u : ℕ) (f : Waiting → Waiting) : Type 0 where
  pub user : (x : Waiting) → (f x).user ≡ x.user
  pub since : (x : Waiting) → x.user ≡ u → (f x).since ≡ x.since
  pub left : (x : Waiting) → (f x).left ≤ x.left

pub stays-map : (load u : ℕ) (f : Waiting → Waiting) (row : List Waiting) → IsCalm u f → Stays load u row (map f row)
stays-map load u f [] calm h = cc
stays-map load u f (y ∷ row) calm h = by_test (stays-map load u f row calm) (nat_eq y.user u) refl h
  where
    by_test : Stays load u row (map f row) → (b : Bool) → nat_eq y.user u ≡ b → (b || has u row) ≡ true
        → (has u (f y ∷ map f row) ≡ true)
        × (since_of u (f y ∷ map f row) ≡ cond b y.since (since_of u row))
        × (ahead load u (f y ∷ map f row) ≤ cond b 0 (turn load y + ahead load u row))
    by_test rest true e h =
        let same : nat_eq (f y).user u ≡ true = ap (λ (n : ℕ). nat_eq n u) (calm.user y) ∙ e in
        rw same (refl, calm.since y (grind (arith, nat_tests)), omega arith)
    by_test rest false e h =
        let same : nat_eq (f y).user u ≡ false = ap (λ (n : ℕ). nat_eq n u) (calm.user y) ∙ e in
        let r = rest h in
        let l = calm.left y in
        rw same (r.0, r.1, omega (arith, r.2, l))

less_calm : (b : Bool) (x : Waiting) → ((cond b (record x { left = x.left - 1 }) x).user ≡ x.user)
    × ((cond b (record x { left = x.left - 1 }) x).since ≡ x.since)
    × ((cond b (record x { left = x.left - 1 }) x).left ≤ x.left)
less_calm true x = (refl, refl, omega arith)
less_calm false x = (refl, refl, omega arith)

pub one_less-calm : (u v : ℕ) → IsCalm u (one_less v)
one_less-calm u v =
    record {
      user = λ x. (less_calm (nat_eq x.user v) x).0;
      since = λ x e. (less_calm (nat_eq x.user v) x).1;
      left = λ x. (less_calm (nat_eq x.user v) x).2;
    }

now_calm : (b : Bool) (now : ℕ) (x : Waiting) → ((cond b (record x { since = now }) x).user ≡ x.user)
    × ((cond b (record x { since = now }) x).left ≤ x.left)
now_calm true now x = (refl, omega arith)
now_calm false now x = (refl, omega arith)

pub from_now-calm : (u v now : ℕ) → v ≢ u → IsCalm u (from_now v now)
from_now-calm u v now other =
    record {
      user = λ x. (now_calm (nat_eq x.user v) now x).0;
      since = λ x e. let no : nat_eq x.user v ≡ false = grind (arith, nat_tests) in rw no refl;
      left = λ x. (now_calm (nat_eq x.user v) now x).1;
    }

-- the head goes out, or has a tick
pub head-out : (load u v : ℕ) (x : Waiting) (xs : List Waiting) → x.user ≡ v → v ≢ u → has u (x ∷ xs) ≡ true
    → ahead load u (without_user v (x ∷ xs)) + suc load ≤ ahead load u (x ∷ xs)
head-out load u v x xs is other h =
    let mine : nat_eq x.user v ≡ true = grind (arith, nat_tests) in
    let his : nat_eq x.user u ≡ false = grind (arith, nat_tests) in
    let rest : has u xs ≡ true = rw his at h in
    let r = stays-out load u v xs other rest in
    rw (mine, his) (omega (arith, r.2))

pub head-tick : (load u v : ℕ) (x : Waiting) (xs : List Waiting) → x.user ≡ v → v ≢ u → 1 < x.left → has u (x ∷ xs) ≡ true
    → suc (ahead load u (map (one_less v) (x ∷ xs))) ≤ ahead load u (x ∷ xs)
head-tick load u v x xs is other more h =
    let mine : nat_eq x.user v ≡ true = grind (arith, nat_tests) in
    let his : nat_eq x.user u ≡ false = grind (arith, nat_tests) in
    let rest : has u xs ≡ true = rw his at h in
    let r = stays-map load u (one_less v) xs (one_less-calm u v) rest in
    rw (mine, his) (omega (arith, r.2))

-- the user itself at the tail
pub has-self : (u : ℕ) (row : List Waiting) (x : Waiting) → x.user ≡ u → has u (row ++ x ∷ []) ≡ true
has-self u [] x is = let mine : nat_eq x.user u ≡ true = grind (arith, nat_tests) in rw mine refl
has-self u (y ∷ row) x is = by_test (nat_eq y.user u) (has-self u row x is)
  where
    by_test : (b : Bool) → has u (row ++ x ∷ []) ≡ true → (b || has u (row ++ x ∷ [])) ≡ true
    by_test true h = refl
    by_test false h = h

pub since-self : (u : ℕ) (row : List Waiting) (x : Waiting) → x.user ≡ u → has u row ≡ false → since_of u (row ++ x ∷ []) ≡ x.since
since-self u [] x is none = let mine : nat_eq x.user u ≡ true = grind (arith, nat_tests) in rw mine refl
since-self u (y ∷ row) x is none = by_test (nat_eq y.user u) (since-self u row x is) none
  where
    by_test : (b : Bool) → (has u row ≡ false → since_of u (row ++ x ∷ []) ≡ x.since) → (b || has u row) ≡ false
        → cond b y.since (since_of u (row ++ x ∷ [])) ≡ x.since
    by_test true rest h = cc
    by_test false rest h = rest h

pub ahead-self : (load u : ℕ) (row : List Waiting) (x : Waiting) → x.user ≡ u → ahead load u (row ++ x ∷ []) ≤ all_turns load row
ahead-self load u [] x is = let mine : nat_eq x.user u ≡ true = grind (arith, nat_tests) in rw mine (omega arith)
ahead-self load u (y ∷ row) x is = by_test (nat_eq y.user u) (ahead-self load u row x is)
  where
    by_test : (b : Bool) → ahead load u (row ++ x ∷ []) ≤ all_turns load row
        → cond b 0 (turn load y + ahead load u (row ++ x ∷ [])) ≤ turn load y + all_turns load row
    by_test true h = omega arith
    by_test false h = omega (arith, h)

-- every entry of a row is so
abbrev pub AllRow : (Waiting → Type 0) → List Waiting → Type 0
AllRow Q [] = Unit {0}
AllRow Q (x ∷ xs) = Q x × AllRow Q xs

pub turns-few : (quantum load : ℕ) (row : List Waiting) → 0 < quantum → AllRow (λ x. x.left ≤ quantum) row
    → all_turns load row ≤ length row * (quantum + load)
turns-few quantum load [] some h = omega arith
turns-few quantum load (x ∷ xs) some h = let r = turns-few quantum load xs some h.1 in let l = h.0 in omega (arith, r, l)

-- of a row nobody has waited for long enough
pub not_yet : (age now u : ℕ) (served : Option ℕ) (row : List Waiting) → is_served served u ≡ false
    → first_that (has_waited age served now) row ≡ None → has u row ≡ true → now < since_of u row + age
not_yet age now u served [] out none h = cc
not_yet age now u served (x ∷ xs) out none h = by_test (not_yet age now u served xs out) (has_waited age served now x) refl none
  where
    mine : has_waited age served now x ≡ false → nat_eq x.user u ≡ true → now < x.since + age
    mine e same =
        let is : x.user ≡ u = grind (arith, nat_tests) in
        let o : is_served served x.user ≡ false = ap (is_served served) is ∙ out in
        let late : nat_le (x.since + age) now ≡ false = rw o at e in
        grind (arith, nat_tests)

    by_user : (first_that (has_waited age served now) xs ≡ None → has u xs ≡ true → now < since_of u xs + age)
        → first_that (has_waited age served now) xs ≡ None → has_waited age served now x ≡ false
        → (b : Bool) → nat_eq x.user u ≡ b → (b || has u xs) ≡ true → now < cond b x.since (since_of u xs) + age
    by_user rest none e true same h = mine e same
    by_user rest none e false same h = rest none h

    by_test : (first_that (has_waited age served now) xs ≡ None → has u xs ≡ true → now < since_of u xs + age)
        → (p : Bool) → has_waited age served now x ≡ p → cond p (Some x) (first_that (has_waited age served now) xs) ≡ None
        → now < since_of u (x ∷ xs) + age
    by_test rest true e none = cc
    by_test rest false e none = by_user rest none e (nat_eq x.user u) refl h

-- the first user that has waited long enough is in the row
pub that-has : (p : Waiting → Bool) (row : List Waiting) (x : Waiting) → first_that p row ≡ Some x → has x.user row ≡ true
that-has p [] x e = cc
that-has p (y ∷ row) x e = by_test (that-has p row x) (p y) e
  where
    more : (b : Bool) → has x.user row ≡ true → (b || has x.user row) ≡ true
    more true h = refl
    more false h = h

    by_test : (first_that p row ≡ Some x → has x.user row ≡ true) → (b : Bool) → cond b (Some y) (first_that p row) ≡ Some x
        → has x.user (y ∷ row) ≡ true
    by_test rest true e =
        let same : y ≡ x = cc in
        let s : y.user ≡ x.user = ap (λ (z : Waiting). z.user) same in
        let t : nat_eq y.user x.user ≡ true = grind (arith, nat_tests) in
        rw t refl
    by_test rest false e = more (nat_eq y.user x.user) (rest e)
