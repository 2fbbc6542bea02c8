-- All rows of the queues, as a user that is in one of them sees them.
use Rattle.std.proofs.Common.{◌≡◌, ◌≢◌, ℕ, suc, zero, ◌+◌, ◌-◌, ◌*◌, ◌<◌, ◌≤◌, Bool, true, false, cond, List, [], ◌∷◌, ◌++◌, get_or, set, map, drop, Option, Some, None, refl, ◌∙◌, ap, arith, ◌⊎◌, inl, inr}
use Rattle.std.proofs.lemmas.Bool.Decides.{eqb_tells}
use Rattle.ctss_types.specs.declared.session.Waiting.{Waiting}
use Rattle.plan_model.specs.Levels.{without_user, first_of, user_of, first_that, at_or, first_with, has_waited, is_served}
use Rattle.fair_laws.specs.Waits.{since_of}
use Rattle.fair_laws.proofs.Row.{has, ahead, Stays, stays-same, stays-then, stays-more, stays-out, IsCalm, stays-map, head-out, not_yet, that-has}

abbrev pub row_of : ℕ → List (List Waiting) → List Waiting
row_of k rows = get_or rows k []

-- the user at the head of the first row that isn't empty
abbrev pub head_user : List (List Waiting) → Option ℕ
head_user rows = user_of (first_of 0 rows)

-- A user that is in the rows still is; and if it is in the first row, the head is the same, or a turn has passed.
pub record Moves (load u : ℕ) (rows after : List (List Waiting)) : Type 0 where
  pub stay : (k : ℕ) → Stays load u (row_of k rows) (row_of k after)
  pub turn : has u (row_of 0 rows) ≡ true
      → (head_user after ≡ head_user rows) ⊎ (ahead load u (row_of 0 after) + suc load ≤ ahead load u (row_of 0 rows))

pub moves-same : (load u : ℕ) (rows : List (List Waiting)) → Moves load u rows rows
moves-same load u rows = record { stay = λ k. stays-same load u (row_of k rows); turn = λ h. inl refl }

pub moves-then : (load u : ℕ) (a b c : List (List Waiting)) → Moves load u a b → Moves load u b c → Moves load u a c
moves-then load u a b c f g =
    record {
      stay = λ k. stays-then load u (row_of k a) (row_of k b) (row_of k c) (f.stay k) (g.stay k);
      turn = λ h. joined h (f.turn h) (g.turn (f.stay 0 h).0);
    }
  where
    joined : has u (row_of 0 a) ≡ true
        → (head_user b ≡ head_user a) ⊎ (ahead load u (row_of 0 b) + suc load ≤ ahead load u (row_of 0 a))
        → (head_user c ≡ head_user b) ⊎ (ahead load u (row_of 0 c) + suc load ≤ ahead load u (row_of 0 b))
        → (head_user c ≡ head_user a) ⊎ (ahead load u (row_of 0 c) + suc load ≤ ahead load u (row_of 0 a))
    joined h (inl x) (inl y) = inl (y ∙ x)
    joined h (inl x) (inr y) = inr (let s = (f.stay 0 h).2 in omega (arith, s, y))
    joined h (inr x) y = inr (let s = (g.stay 0 (f.stay 0 h).0).2 in omega (arith, s, x))

-- a user is added at a tail
stay-enter : (load u : ℕ) (rows : List (List Waiting)) (l k : ℕ) (x : Waiting)
    → Stays load u (row_of k rows) (row_of k (set rows l (row_of l rows ++ x ∷ [])))
stay-enter load u [] l k x = stays-same load u []
stay-enter load u (row ∷ rows) zero zero x = stays-more load u row x
stay-enter load u (row ∷ rows) zero (suc k) x = stays-same load u (row_of k rows)
stay-enter load u (row ∷ rows) (suc l) zero x = stays-same load u row
stay-enter load u (row ∷ rows) (suc l) (suc k) x = stay-enter load u rows l k x

head-enter : (u : ℕ) (rows : List (List Waiting)) (l : ℕ) (x : Waiting) → has u (row_of 0 rows) ≡ true
    → head_user (set rows l (row_of l rows ++ x ∷ [])) ≡ head_user rows
head-enter u [] l x h = cc
head-enter u ([] ∷ rows) l x h = cc
head-enter u ((y ∷ ys) ∷ rows) zero x h = refl
head-enter u ((y ∷ ys) ∷ rows) (suc l) x h = refl

pub moves-enter : (load u : ℕ) (rows : List (List Waiting)) (l : ℕ) (x : Waiting) → Moves load u rows (set rows l (row_of l rows ++ x ∷ []))
moves-enter load u rows l x = record { stay = λ k. stay-enter load u rows l k x; turn = λ h. inl (head-enter u rows l x h) }

-- a change of each entry that keeps the user's place
stay-map : (load u : ℕ) (f : Waiting → Waiting) (rows : List (List Waiting)) (k : ℕ) → IsCalm u f
    → Stays load u (row_of k rows) (row_of k (map (map f) rows))
stay-map load u f [] k calm = stays-same load u []
stay-map load u f (row ∷ rows) zero calm = stays-map load u f row calm
stay-map load u f (row ∷ rows) (suc k) calm = stay-map load u f rows k calm

head-map : (u : ℕ) (f : Waiting → Waiting) (rows : List (List Waiting)) → IsCalm u f → has u (row_of 0 rows) ≡ true
    → head_user (map (map f) rows) ≡ head_user rows
head-map u f [] calm h = cc
head-map u f ([] ∷ rows) calm h = cc
head-map u f ((y ∷ ys) ∷ rows) calm h = ap Some (calm.user y)

pub moves-map : (load u : ℕ) (f : Waiting → Waiting) (rows : List (List Waiting)) → IsCalm u f → Moves load u rows (map (map f) rows)
moves-map load u f rows calm = record { stay = λ k. stay-map load u f rows k calm; turn = λ h. inl (head-map u f rows calm h) }

-- another user goes out
pub stay-out : (load u v : ℕ) (rows : List (List Waiting)) (k : ℕ) → v ≢ u
    → Stays load u (row_of k rows) (row_of k (map (without_user v) rows))
stay-out load u v [] k other = stays-same load u []
stay-out load u v (row ∷ rows) zero other = stays-out load u v row other
stay-out load u v (row ∷ rows) (suc k) other = stay-out load u v rows k other

pub turn-out : (load u v : ℕ) (rows : List (List Waiting)) → v ≢ u → has u (row_of 0 rows) ≡ true
    → ((head_user (map (without_user v) rows) ≡ head_user rows) × (head_user rows ≢ Some v))
    ⊎ (ahead load u (row_of 0 (map (without_user v) rows)) + suc load ≤ ahead load u (row_of 0 rows))
turn-out load u v [] other h = cc
turn-out load u v ([] ∷ rows) other h = cc
turn-out load u v ((y ∷ ys) ∷ rows) other h =
    elim (eqb_tells y.user v) [
      | inl e ↦ inr (head-out load u v y ys e.1 other h)
      | inr e ↦ inl (rw e.0 refl, λ k. e.1 (cc k))
    ]

pub moves-out : (load u v : ℕ) (rows : List (List Waiting)) → v ≢ u → Moves load u rows (map (without_user v) rows)
moves-out load u v rows other =
    record {
      stay = λ k. stay-out load u v rows k other;
      turn = λ h. elim (turn-out load u v rows other h) [ inl e ↦ inl e.0 | inr e ↦ inr e ];
    }

-- where a user is, and the tick by which it is served

-- the ticks that levels below may take
abbrev pub rest_of : (age load last below : ℕ) → ℕ
rest_of age load last below = below * (age + (load - 1)) + last

-- at level 0
pub record First (load u by : ℕ) (must : Bool) (now : ℕ) (rows : List (List Waiting)) : Type 0 where
  pub here : has u (row_of 0 rows) ≡ true
  pub soon : now + (ahead load u (row_of 0 rows) + cond must load 0 + 1) ≤ by

-- at a level with the given number of levels below it
pub record Deep (age load last u by now : ℕ) (rows : List (List Waiting)) : Type 0 where
  pub aged : 0 < age
  pub below : ℕ
  pub here : has u (row_of (suc below) rows) ≡ true
  pub rises : since_of u (row_of (suc below) rows) + (age + (load - 1)) + rest_of age load last below ≤ by
  pub soon : now + rest_of age load last below ≤ by

abbrev pub Stands : (age load last u by : ℕ) (must : Bool) (now : ℕ) (rows : List (List Waiting)) → Type 0
Stands age load last u by must now rows = First load u by must now rows ⊎ Deep age load last u by now rows

-- the tick doesn't change
pub stands_on : (age load last u by : ℕ) (must must' : Bool) (now later : ℕ) (rows after : List (List Waiting))
    → ((k : ℕ) → Stays load u (row_of k rows) (row_of k after))
    → (has u (row_of 0 rows) ≡ true
    → later + (ahead load u (row_of 0 after) + cond must' load 0) ≤ now + (ahead load u (row_of 0 rows) + cond must load 0))
    → ((k : ℕ) → 0 < age → has u (row_of (suc k) rows) ≡ true
    → (later ≤ now) ⊎ (later ≤ since_of u (row_of (suc k) rows) + (age + (load - 1))))
    → Stands age load last u by must now rows → Stands age load last u by must' later after
stands_on age load last u by must must' now later rows after stay first deep (inl f) =
    let less = first f.here in
    let soon = f.soon in
    inl (record { here = (stay 0 f.here).0; soon = omega (arith, less, soon) })
stands_on age load last u by must must' now later rows after stay first deep (inr d) =
    let s = stay (suc d.below) d.here in
    let rises = d.rises in
    let soon = d.soon in
    let since = s.1 in
    inr (record {
      aged = d.aged;
      below = d.below;
      here = s.0;
      rises = omega (arith, rises, since);
      soon = elim (deep d.below d.aged d.here) [ inl e ↦ omega (arith, soon, e) | inr e ↦ omega (arith, rises, e) ];
    })

no_more : (load : ℕ) (must must' : Bool) → (must ≡ false → must' ≡ false) → cond must' load 0 ≤ cond must load 0
no_more load true true h = omega arith
no_more load true false h = omega arith
no_more load false true h = let e = h refl in cc
no_more load false false h = omega arith

pub at_most : (load : ℕ) (must : Bool) → cond must load 0 ≤ load
at_most load true = omega arith
at_most load false = omega arith

-- no tick goes by
pub stands-moves : (age load last u by : ℕ) (must must' : Bool) (now : ℕ) (rows after : List (List Waiting))
    → Moves load u rows after → (head_user after ≡ head_user rows → must ≡ false → must' ≡ false)
    → Stands age load last u by must now rows → Stands age load last u by must' now after
stands-moves age load last u by must must' now rows after moves flag s =
    stands_on age load last u by must must' now now rows after moves.stay
    (λ h. elim (moves.turn h) [
      | inl e ↦ let a = (moves.stay 0 h).2 in let b = no_more load must must' (flag e) in omega (arith, a, b)
      | inr e ↦ let b = at_most load must' in omega (arith, e, b)
    ])
    (λ k a h. inl (omega arith)) s

-- another user goes out, that may be the head
pub stands-out : (age load last u v by : ℕ) (must must' : Bool) (now : ℕ) (rows : List (List Waiting)) → v ≢ u
    → (head_user (map (without_user v) rows) ≡ head_user rows → head_user rows ≢ Some v → must ≡ false → must' ≡ false)
    → Stands age load last u by must now rows → Stands age load last u by must' now (map (without_user v) rows)
stands-out age load last u v by must must' now rows other flag s =
    let after = map (without_user v) rows in
    stands_on age load last u by must must' now now rows after (λ k. stay-out load u v rows k other)
    (λ h. elim (turn-out load u v rows other h) [
      | inl e ↦ let a = (stay-out load u v rows 0 other h).2 in let b = no_more load must must' (flag e.0 e.1) in omega (arith, a, b)
      | inr e ↦ let b = at_most load must' in omega (arith, e, b)
    ])
    (λ k a h. inl (omega arith)) s

-- a load takes its ticks while nobody is due to rise
pub stands-loads : (age load last u by now more : ℕ) (rows : List (List Waiting)) → more ≤ load
    → ((k : ℕ) → 0 < age → has u (row_of (suc k) rows) ≡ true → now < since_of u (row_of (suc k) rows) + age)
    → Stands age load last u by true now rows → Stands age load last u by false (now + more) rows
stands-loads age load last u by now more rows few waits s =
    stands_on age load last u by true false now (now + more) rows rows (λ k. stays-same load u (row_of k rows))
    (λ h. omega (arith, few)) (λ k a h. inr (let w = waits k a h in omega (arith, w, few))) s

-- a tick goes by
pub stands-tick : (age load last u by now : ℕ) (must' : Bool) (rows after : List (List Waiting))
    → ((k : ℕ) → Stays load u (row_of k rows) (row_of k after))
    → (has u (row_of 0 rows) ≡ true → ahead load u (row_of 0 after) + suc (cond must' load 0) ≤ ahead load u (row_of 0 rows))
    → ((k : ℕ) → 0 < age → has u (row_of (suc k) rows) ≡ true → now < since_of u (row_of (suc k) rows) + age)
    → Stands age load last u by false now rows → Stands age load last u by must' (suc now) after
stands-tick age load last u by now must' rows after stay first waits s =
    stands_on age load last u by false must' now (suc now) rows after stay
    (λ h. let f = first h in omega (arith, f)) (λ k a h. inr (let w = waits k a h in omega (arith, w))) s

-- that tick is yet to come
pub stands-now : (age load last u by : ℕ) (must : Bool) (now : ℕ) (rows : List (List Waiting)) → 0 < last
    → Stands age load last u by must now rows → now < by
stands-now age load last u by must now rows some (inl f) = let s = f.soon in omega (arith, s)
stands-now age load last u by must now rows some (inr d) = let s = d.soon in omega (arith, s, some)

-- rises

-- nobody of the rows has waited for long enough
pub with-none : (age now u l : ℕ) (served : Option ℕ) (rows : List (List Waiting)) → is_served served u ≡ false
    → first_with (has_waited age served now) l rows ≡ None → (k : ℕ) → has u (row_of k rows) ≡ true
    → now < since_of u (row_of k rows) + age
with-none age now u l served [] out none k h = cc
with-none age now u l served (row ∷ rows) out none k h =
    by_first (first_that (has_waited age served now) row) refl none k (with-none age now u (suc l) served rows out) h
  where
    by_first : (o : Option Waiting) → first_that (has_waited age served now) row ≡ o
        → at_or l o (first_with (has_waited age served now) (suc l) rows) ≡ None → (k : ℕ)
        → (first_with (has_waited age served now) (suc l) rows ≡ None → (j : ℕ) → has u (row_of j rows) ≡ true
        → now < since_of u (row_of j rows) + age)
        → has u (row_of k (row ∷ rows)) ≡ true → now < since_of u (row_of k (row ∷ rows)) + age
    by_first None e none zero rest h = not_yet age now u served row out e h
    by_first None e none (suc k) rest h = rest none k h
    by_first (Some x) e none k rest h = cc

-- a user that rises is in a row
pub with-has : (p : Waiting → Bool) (l : ℕ) (rows : List (List Waiting)) (m : ℕ) (x : Waiting) → first_with p l rows ≡ Some (m, x)
    → (j : ℕ) × (m ≡ l + j) × (has x.user (row_of j rows) ≡ true)
with-has p l [] m x e = cc
with-has p l (row ∷ rows) m x e = by_first (with-has p (suc l) rows m x) (first_that p row) refl e
  where
    by_first : (first_with p (suc l) rows ≡ Some (m, x) → (j : ℕ) × (m ≡ suc l + j) × (has x.user (row_of j rows) ≡ true))
        → (o : Option Waiting) → first_that p row ≡ o → at_or l o (first_with p (suc l) rows) ≡ Some (m, x)
        → (j : ℕ) × (m ≡ l + j) × (has x.user (row_of j (row ∷ rows)) ≡ true)
    by_first rest None is e = let r = rest e in (suc r.0, (let k = r.1 in omega (arith, k)), r.2)
    by_first rest (Some y) is e =
        let both : ◌≡◌ {A = ℕ × Waiting} (l, y) (m, x) = cc in
        let there : l ≡ m = ap (λ (q : ℕ × Waiting). q.0) both in
        let same : y ≡ x = ap (λ (q : ℕ × Waiting). q.1) both in
        (zero, omega (arith, there), that-has p row x (is ∙ ap (λ (z : Waiting). Some z) same))

-- the rows behind the first
pub row-behind : (k : ℕ) (rows : List (List Waiting)) → row_of k (drop 1 rows) ≡ row_of (suc k) rows
row-behind k [] = refl
row-behind k (row ∷ rows) = refl
