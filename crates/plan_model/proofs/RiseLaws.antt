-- What a plan owes, so that each run ends: a rise lowers the sum of the levels, and what else changes them raises it by at most 8.
use Rattle.std.proofs.Common.{◌≡◌, ℕ, zero, suc, ◌+◌, ◌-◌, ◌*◌, ◌<◌, ◌≤◌, ◌^◌, min, Bool, true, false, cond, not, nat_eq, nat_le, List, [], ◌∷◌, ◌++◌, map, drop, set, get_or, Option, Some, None, refl, ap, ◌∙◌, subst, arith}
use Rattle.std.proofs.lemmas.Bool.Decides.{nat_tests}
use Rattle.ctss_types.specs.declared.session.Waiting.{Waiting}
use Rattle.plan_model.specs.Levels.{Levels, greatest, level_of_words, without_user, first_of, user_of, level_in, has_time, one_less, chosen, waits, entered, dropped, ticked, sunk, charged, woken, entered_again, command_blocks, from_now, preempted, first_that, at_or, first_with, has_waited, riser, goes_up, risen, so_much_each, levels_from, sum_of_levels}

-- a list with one more, and without a user
each-more : (l : ℕ) (row : List Waiting) (x : Waiting) → so_much_each l (row ++ x ∷ []) ≡ so_much_each l row + l
each-more l [] x = omega arith
each-more l (y ∷ row) x = omega (arith, each-more l row x)

each-out_by : (l : ℕ) (b : Bool) (x : Waiting) (xs row : List Waiting) → so_much_each l xs ≤ so_much_each l row → so_much_each l (cond (not b) (x ∷ xs) xs) ≤ l + so_much_each l row
each-out_by l true x xs row h = omega (arith, h)
each-out_by l false x xs row h = omega (arith, h)

each-out : (l u : ℕ) (row : List Waiting) → so_much_each l (without_user u row) ≤ so_much_each l row
each-out l u [] = omega arith
each-out l u (x ∷ row) = each-out_by l (nat_eq x.user u) x (without_user u row) row (each-out l u row)

same_number : (n : ℕ) → nat_eq n n ≡ true
same_number n = grind (arith, nat_tests)

each-without : (l : ℕ) (p : Waiting → Bool) (row : List Waiting) (x : Waiting) → first_that p row ≡ Some x → so_much_each l (without_user x.user row) + l ≤ so_much_each l row
each-without l p [] x e = cc
each-without l p (y ∷ row) x e = by_test (each-without l p row x) (p y) e
  where
    by_user : (b : Bool) → so_much_each l (without_user x.user row) + l ≤ so_much_each l row → so_much_each l (cond (not b) (y ∷ without_user x.user row) (without_user x.user row)) + l ≤ l + so_much_each l row
    by_user true h = omega (arith, h)
    by_user false h = omega (arith, h)

    here : (b : Bool) → b ≡ true → so_much_each l (cond (not b) (y ∷ without_user x.user row) (without_user x.user row)) + l ≤ l + so_much_each l row
    here true e = omega (arith, each-out l x.user row)
    here false e = cc

    by_test : (first_that p row ≡ Some x → so_much_each l (without_user x.user row) + l ≤ so_much_each l row) → (b : Bool) → cond b (Some y) (first_that p row) ≡ Some x
        → so_much_each l (without_user x.user (y ∷ row)) + l ≤ so_much_each l (y ∷ row)
    by_test rest true e = let same : y ≡ x = cc in here (nat_eq y.user x.user) (ap (λ (z : Waiting). nat_eq z.user x.user) same ∙ same_number x.user)
    by_test rest false e = by_user (nat_eq y.user x.user) (rest e)

-- all lists
from-out : (l u : ℕ) (rows : List (List Waiting)) → levels_from l (map (without_user u) rows) ≤ levels_from l rows
from-out l u [] = omega arith
from-out l u (row ∷ rows) = omega (arith, each-out l u row, from-out (suc l) u rows)

from-without : (p : Waiting → Bool) (l : ℕ) (rows : List (List Waiting)) (k : ℕ) (x : Waiting) → first_with p l rows ≡ Some (k, x) → levels_from l (map (without_user x.user) rows) + k ≤ levels_from l rows
from-without p l [] k x e = cc
from-without p l (row ∷ rows) k x e = by_first (from-without p (suc l) rows k x) (first_that p row) refl e
  where
    by_first : (first_with p (suc l) rows ≡ Some (k, x) → levels_from (suc l) (map (without_user x.user) rows) + k ≤ levels_from (suc l) rows) → (o : Option Waiting) → first_that p row ≡ o
        → at_or l o (first_with p (suc l) rows) ≡ Some (k, x) → levels_from l (map (without_user x.user) (row ∷ rows)) + k ≤ levels_from l (row ∷ rows)
    by_first rest None is e = omega (arith, each-out l x.user row, rest e)
    by_first rest (Some y) is e =
        let both : ◌≡◌ {A = ℕ × Waiting} (l, y) (k, x) = cc in
        let there : l ≡ k = ap (λ (q : ℕ × Waiting). q.0) both in
        let same : y ≡ x = ap (λ (q : ℕ × Waiting). q.1) both in
        omega (arith, there, each-without l p row x (is ∙ ap (λ (z : Waiting). Some z) same), from-out (suc l) x.user rows)

from-enter : (l k : ℕ) (rows : List (List Waiting)) (x : Waiting) → levels_from l (set rows k (get_or rows k [] ++ x ∷ [])) ≤ levels_from l rows + (l + k)
from-enter l k [] x = omega arith
from-enter l zero (row ∷ rows) x = omega (arith, each-more l row x)
from-enter l (suc k) (row ∷ rows) x = omega (arith, from-enter (suc l) k rows x)

each-map : (f : Waiting → Waiting) (l : ℕ) (row : List Waiting) → so_much_each l (map f row) ≡ so_much_each l row
each-map f l [] = refl
each-map f l (x ∷ row) = omega (arith, each-map f l row)

from-map : (f : Waiting → Waiting) (l : ℕ) (rows : List (List Waiting)) → levels_from l (map (map f) rows) ≡ levels_from l rows
from-map f l [] = refl
from-map f l (row ∷ rows) = omega (arith, each-map f l row, from-map f (suc l) rows)

greatest_within : (l n : ℕ) → greatest l n ≤ l
unfolding greatest
greatest_within zero n = omega arith
greatest_within (suc l) n = by_test (nat_le (2 ^ suc l) n) (greatest_within l n)
  where
    by_test : (b : Bool) → greatest l n ≤ l → elim b as (λ _. ℕ) [ true ↦ suc l | false ↦ greatest l n ] ≤ suc l
    by_test true h = omega arith
    by_test false h = omega (arith, h)

pub level_within : (wq words : ℕ) → level_of_words wq words ≤ 8
unfolding level_of_words
level_within wq words = greatest_within 8 _

-- what changes levels, and the sum
pub sum-dropped : (u : ℕ) (q : Levels) → sum_of_levels (dropped u q) ≤ sum_of_levels q
unfolding dropped sum_of_levels
sum-dropped u q = from-out 0 u q.rows

pub sum-entered : (blocks u now : ℕ) (q : Levels) → sum_of_levels (entered blocks u now q) ≤ sum_of_levels q + 8
unfolding entered sum_of_levels
sum-entered blocks u now q = omega (arith, from-enter 0 (level_of_words q.wq (256 * blocks)) q.rows (record { user = u; left = q.quantum * 2 ^ level_of_words q.wq (256 * blocks); since = now }), level_within q.wq (256 * blocks))

sum-sunk : (u now : ℕ) (q : Levels) → sum_of_levels (sunk u now q) ≤ sum_of_levels q + 8
unfolding sunk dropped sum_of_levels
sum-sunk u now q =
    omega (arith, from-enter 0 (min (level_in (chosen q) + 1) 8) (map (without_user u) q.rows) (record { user = u; left = q.quantum * 2 ^ min (level_in (chosen q) + 1) 8; since = now }), from-out 0 u q.rows)

sum-ticked : (u : ℕ) (q : Levels) → sum_of_levels (ticked u q) ≡ sum_of_levels q
unfolding ticked sum_of_levels
sum-ticked u q = from-map (one_less u) 0 q.rows

pub sum-charged : (u now : ℕ) (q : Levels) → sum_of_levels (charged u now q) ≤ sum_of_levels q + 8
unfolding charged
sum-charged u now q = by_time (has_time q)
  where
    by_time : (b : Bool) → sum_of_levels (cond b (ticked u q) (sunk u now q)) ≤ sum_of_levels q + 8
    by_time true = omega (arith, sum-ticked u q)
    by_time false = sum-sunk u now q

pub sum-woken : (blocks u now : ℕ) (q : Levels) → sum_of_levels (woken blocks u now q) ≤ sum_of_levels q + 8
unfolding woken
sum-woken blocks u now q = by_in (waits u q)
  where
    by_in : (b : Bool) → sum_of_levels (cond b q (entered blocks u now q)) ≤ sum_of_levels q + 8
    by_in true = omega arith
    by_in false = sum-entered blocks u now q

pub sum-again : (b : Bool) (u now : ℕ) (q : Levels) → sum_of_levels (entered_again b u now q) ≤ sum_of_levels q + 8
sum-again false u now q = omega arith
sum-again true u now q = sum-entered command_blocks u now q

pub sum-preempted : (u now : ℕ) (q : Levels) → sum_of_levels (preempted u now q) ≤ sum_of_levels q
unfolding preempted sum_of_levels
sum-preempted u now q = omega (arith, from-map (from_now u now) 0 q.rows)

-- a rise
into : (q : Levels) (k : ℕ) (x : Waiting) (now : ℕ) → 0 < k → levels_from 0 (map (without_user x.user) q.rows) + k ≤ levels_from 0 q.rows → sum_of_levels (risen x.user (k - 1) now q) < sum_of_levels q
unfolding risen dropped sum_of_levels
into q k x now up out = omega (arith, up, out, from-enter 0 (k - 1) (map (without_user x.user) q.rows) (record { user = x.user; left = q.quantum * 2 ^ (k - 1); since = now }))

above : (p : Waiting → Bool) (l : ℕ) (rows : List (List Waiting)) (k : ℕ) (x : Waiting) → first_with p l rows ≡ Some (k, x) → l ≤ k
above p l [] k x e = cc
above p l (row ∷ rows) k x e = by_first (above p (suc l) rows k x) (first_that p row) e
  where
    by_first : (first_with p (suc l) rows ≡ Some (k, x) → suc l ≤ k) → (o : Option Waiting) → at_or l o (first_with p (suc l) rows) ≡ Some (k, x) → l ≤ k
    by_first rest None e = omega (arith, rest e)
    by_first rest (Some y) e =
        let both : ◌≡◌ {A = ℕ × Waiting} (l, y) (k, x) = cc in
        let there : l ≡ k = ap (λ (q : ℕ × Waiting). q.0) both in omega (arith, there)

behind : (p : Waiting → Bool) (rows : List (List Waiting)) (k : ℕ) (x : Waiting) → first_with p 1 (drop 1 rows) ≡ Some (k, x) → levels_from 0 (map (without_user x.user) rows) + k ≤ levels_from 0 rows
behind p [] k x e = cc
behind p (row ∷ rows) k x e = omega (arith, each-out 0 x.user row, from-without p 1 rows k x e)

pub sum-risen : (served : Option ℕ) (now u l : ℕ) (q : Levels) → goes_up (riser served now q) ≡ Some (u, l) → sum_of_levels (risen u l now q) < sum_of_levels q
unfolding riser
sum-risen served now u l q e = by_age (nat_eq q.age 0) e
  where
    of : (o : Option (ℕ × Waiting)) → first_with (has_waited q.age served now) 1 (drop 1 q.rows) ≡ o → goes_up o ≡ Some (u, l) → sum_of_levels (risen u l now q) < sum_of_levels q
    of None is e = cc
    of (Some x) is e =
        let both : ◌≡◌ {A = ℕ × ℕ} ((x.1).user, x.0 - 1) (u, l) = cc in
        let who : (x.1).user ≡ u = ap (λ (q : ℕ × ℕ). q.0) both in
        let where_to : x.0 - 1 ≡ l = ap (λ (q : ℕ × ℕ). q.1) both in
        subst (λ (v : ℕ). sum_of_levels (risen v l now q) < sum_of_levels q) who
        (subst (λ (k : ℕ). sum_of_levels (risen (x.1).user k now q) < sum_of_levels q) where_to
        (into q x.0 x.1 now (above (has_waited q.age served now) 1 (drop 1 q.rows) x.0 x.1 is) (behind (has_waited q.age served now) q.rows x.0 x.1 is)))

    by_age : (b : Bool) → goes_up (cond b None (first_with (has_waited q.age served now) 1 (drop 1 q.rows))) ≡ Some (u, l) → sum_of_levels (risen u l now q) < sum_of_levels q
    by_age true e = cc
    by_age false e = of _ refl e

-- where nobody is chosen nobody rises
empty : (p : Waiting → Bool) (l k : ℕ) (rows : List (List Waiting)) → first_of l rows ≡ None → first_with p k rows ≡ None
empty p l k [] e = refl
empty p l k ([] ∷ rows) e = empty p (suc l) (suc k) rows e
empty p l k ((x ∷ row) ∷ rows) e = cc

empty_behind : (p : Waiting → Bool) (rows : List (List Waiting)) → first_of 0 rows ≡ None → first_with p 1 (drop 1 rows) ≡ None
empty_behind p [] e = refl
empty_behind p ([] ∷ rows) e = empty p 1 1 rows e
empty_behind p ((x ∷ row) ∷ rows) e = cc

nobody : (o : Option (ℕ × Waiting)) → user_of o ≡ None → o ≡ None
nobody None e = refl
nobody (Some x) e = cc

pub none-rises : (served : Option ℕ) (now : ℕ) (q : Levels) → user_of (chosen q) ≡ None → goes_up (riser served now q) ≡ None
unfolding riser chosen
none-rises served now q e = by_age (nat_eq q.age 0)
  where
    by_age : (b : Bool) → goes_up (cond b None (first_with (has_waited q.age served now) 1 (drop 1 q.rows))) ≡ None
    by_age true = refl
    by_age false = ap goes_up (empty_behind (has_waited q.age served now) q.rows (nobody (first_of 0 q.rows) e))
