-- A user that is chosen stays so while its time goes by.
use Rattle.std.proofs.Common.{◌≡◌, ℕ, suc, ◌-◌, ◌<◌, Bool, true, false, cond, nat_eq, nat_lt, List, [], ◌∷◌, map, Option, Some, None, drop, refl, ap, ◌∙◌, arith, eq-eqb, lt-ltb}
use Rattle.ctss_types.specs.declared.session.Waiting.{Waiting}
use Rattle.plan_model.specs.Levels.{Levels, first_of, chosen, user_of, left_in, has_time, one_less, ticked, charged, sunk, has_waited, first_that, at_or, first_with, riser}
use Rattle.plan_model.specs.Spent.{less, spent}

abbrev spent_in : ℕ → ℕ → Option (ℕ × Waiting) → Option (ℕ × Waiting)
spent_in n u None = None
spent_in n u (Some x) = Some (x.0, less n u x.1)

first_spent : (l n u : ℕ) (rows : List (List Waiting)) → first_of l (map (map (less n u)) rows) ≡ spent_in n u (first_of l rows)
first_spent l n u [] = refl
first_spent l n u ([] ∷ rows) = first_spent (suc l) n u rows
first_spent l n u ((x ∷ row) ∷ rows) = refl

chosen_spent : (n u : ℕ) (q : Levels) → chosen (spent n u q) ≡ spent_in n u (chosen q)
unfolding chosen spent
chosen_spent n u q = first_spent 0 n u q.rows

mine : (n u l : ℕ) (w : Waiting) → w.user ≡ u → less n u w ≡ record w { left = w.left - n }
mine n u l w e = ap (λ (b : Bool). cond b (record w { left = w.left - n }) w) (eq-eqb w.user u e)

still : (n u l : ℕ) (w : Waiting) (q : Levels) → chosen q ≡ Some (l, w) → w.user ≡ u → chosen (spent n u q) ≡ Some (l, record w { left = w.left - n })
still n u l w q is e = chosen_spent n u q ∙ ap (spent_in n u) is ∙ ap (λ (x : Waiting). Some (l, x)) (mine n u l w e)

pub still_chosen : (n u l : ℕ) (w : Waiting) (q : Levels) → chosen q ≡ Some (l, w) → w.user ≡ u → user_of (chosen (spent n u q)) ≡ Some u
still_chosen n u l w q is e = ap user_of (still n u l w q is e) ∙ ap (λ (k : ℕ). Some k) e

pub still_time : (n u l : ℕ) (w : Waiting) (q : Levels) → chosen q ≡ Some (l, w) → w.user ≡ u → suc n < w.left → has_time (spent n u q) ≡ true
still_time n u l w q is e h = ap (λ (o : Option (ℕ × Waiting)). nat_lt 1 (left_in o)) (still n u l w q is e) ∙ lt-ltb 1 (w.left - n) (omega (arith, h))

-- who has waited stays so, and who hasn't
waited_spent : (n u age now : ℕ) (served : Option ℕ) (x : Waiting) → has_waited age served now (less n u x) ≡ has_waited age served now x
waited_spent n u age now served x = by_test (nat_eq x.user u)
  where
    by_test : (b : Bool) → has_waited age served now (cond b (record x { left = x.left - n }) x) ≡ has_waited age served now x
    by_test true = refl
    by_test false = refl

abbrev one_spent : ℕ → ℕ → Option Waiting → Option Waiting
one_spent n u None = None
one_spent n u (Some x) = Some (less n u x)

that_spent : (n u age now : ℕ) (served : Option ℕ) (row : List Waiting) → first_that (has_waited age served now) (map (less n u) row) ≡ one_spent n u (first_that (has_waited age served now) row)
that_spent n u age now served [] = refl
that_spent n u age now served (x ∷ row) = by_test (has_waited age served now x) (has_waited age served now (less n u x)) (waited_spent n u age now served x) (that_spent n u age now served row)
  where
    by_test : (a b : Bool) → b ≡ a → first_that (has_waited age served now) (map (less n u) row) ≡ one_spent n u (first_that (has_waited age served now) row) →
        cond b (Some (less n u x)) (first_that (has_waited age served now) (map (less n u) row)) ≡ one_spent n u (cond a (Some x) (first_that (has_waited age served now) row))
    by_test true true e rest = refl
    by_test true false e rest = cc
    by_test false true e rest = cc
    by_test false false e rest = rest

in_spent : (n u age now l : ℕ) (served : Option ℕ) (rows : List (List Waiting)) → first_with (has_waited age served now) l (map (map (less n u)) rows) ≡ spent_in n u (first_with (has_waited age served now) l rows)
in_spent n u age now l served [] = refl
in_spent n u age now l served (row ∷ rows) =
    ap (λ (o : Option Waiting). at_or l o (first_with (has_waited age served now) (suc l) (map (map (less n u)) rows))) (that_spent n u age now served row)
    ∙ by_first (first_that (has_waited age served now) row) (in_spent n u age now (suc l) served rows)
  where
    by_first : (o : Option Waiting) → first_with (has_waited age served now) (suc l) (map (map (less n u)) rows) ≡ spent_in n u (first_with (has_waited age served now) (suc l) rows) →
        at_or l (one_spent n u o) (first_with (has_waited age served now) (suc l) (map (map (less n u)) rows)) ≡ spent_in n u (at_or l o (first_with (has_waited age served now) (suc l) rows))
    by_first None rest = rest
    by_first (Some x) rest = refl

dropped_spent : (n u age now : ℕ) (served : Option ℕ) (rows : List (List Waiting)) → first_with (has_waited age served now) 1 (drop 1 (map (map (less n u)) rows)) ≡ spent_in n u (first_with (has_waited age served now) 1 (drop 1 rows))
dropped_spent n u age now served [] = refl
dropped_spent n u age now served (row ∷ rows) = in_spent n u age now 1 served rows

-- nobody rises for the time that a user's steps take
pub still_none : (n u now : ℕ) (served : Option ℕ) (q : Levels) → riser served now q ≡ None → riser served now (spent n u q) ≡ None
unfolding riser spent
still_none n u now served q none = by_age (nat_eq q.age 0) none
  where
    by_age : (b : Bool) → cond b None (first_with (has_waited q.age served now) 1 (drop 1 q.rows)) ≡ None → cond b None (first_with (has_waited q.age served now) 1 (drop 1 (map (map (less n u)) q.rows))) ≡ None
    by_age true e = refl
    by_age false e = dropped_spent n u q.age now served q.rows ∙ ap (spent_in n u) e

-- one tick more
once_more : (n u : ℕ) (x : Waiting) → one_less u (less n u x) ≡ less (suc n) u x
once_more n u x = by_test (nat_eq x.user u) refl
  where
    by_test : (b : Bool) → nat_eq x.user u ≡ b → one_less u (cond b (record x { left = x.left - n }) x) ≡ cond b (record x { left = x.left - suc n }) x
    by_test true is =
        ap (λ (b : Bool). cond b (record x { left = x.left - n - 1 }) (record x { left = x.left - n })) is
        ∙ (let e : x.left - n - 1 ≡ x.left - suc n = omega arith in ap (λ (k : ℕ). record x { left = k }) e)
    by_test false is = ap (λ (b : Bool). cond b (record x { left = x.left - 1 }) x) is

row_more : (n u : ℕ) (row : List Waiting) → map (one_less u) (map (less n u) row) ≡ map (less (suc n) u) row
row_more n u [] = refl
row_more n u (x ∷ row) = λ j. once_more n u x j ∷ row_more n u row j

rows_more : (n u : ℕ) (rows : List (List Waiting)) → map (map (one_less u)) (map (map (less n u)) rows) ≡ map (map (less (suc n) u)) rows
rows_more n u [] = refl
rows_more n u (row ∷ rows) = λ j. row_more n u row j ∷ rows_more n u rows j

pub charged_more : (n u now : ℕ) (q : Levels) → has_time (spent n u q) ≡ true → charged u now (spent n u q) ≡ spent (suc n) u q
unfolding charged ticked spent
charged_more n u now q time =
    ap (λ (b : Bool). cond b (ticked u (spent n u q)) (sunk u now (spent n u q))) time ∙ ap (λ (rows : List (List Waiting)). record q { rows = rows }) (rows_more n u q.rows)

-- none
same : (u : ℕ) (x : Waiting) → less 0 u x ≡ x
same u x = by_test (nat_eq x.user u)
  where
    by_test : (b : Bool) → cond b (record x { left = x.left - 0 }) x ≡ x
    by_test true = let e : x.left - 0 ≡ x.left = omega arith in ap (λ (k : ℕ). record x { left = k }) e
    by_test false = refl

row_same : (u : ℕ) (row : List Waiting) → map (less 0 u) row ≡ row
row_same u [] = refl
row_same u (x ∷ row) = λ j. same u x j ∷ row_same u row j

rows_same : (u : ℕ) (rows : List (List Waiting)) → map (map (less 0 u)) rows ≡ rows
rows_same u [] = refl
rows_same u (row ∷ rows) = λ j. row_same u row j ∷ rows_same u rows j

pub spent_none : (u : ℕ) (q : Levels) → spent 0 u q ≡ q
unfolding spent
spent_none u q = ap (λ (rows : List (List Waiting)). record q { rows = rows }) (rows_same u q.rows)
