-- What each change of the queues does to their order, and to a user that waits in them.
use Rattle.std.proofs.Common.{◌≡◌, ◌≢◌, ℕ, suc, zero, ◌+◌, ◌-◌, ◌*◌, ◌^◌, min, ◌<◌, ◌≤◌, Bool, true, false, cond, not, ◌||◌, nat_eq, nat_lt, List, [], ◌∷◌, ◌++◌, length, set, map, drop, Option, Some, None, refl, sym, ◌∙◌, ap, subst, arith, ltb-true, get_or-set_same, inl, inr}
use Rattle.std.specs.List.{list_any}
use Rattle.std.proofs.lemmas.Bool.Decides.{nat_tests}
use Rattle.std.proofs.lemmas.List.{length-map}
use Rattle.ctss_types.specs.declared.session.Waiting.{Waiting}
use Rattle.plan_model.specs.Levels.{Levels, level_of_words, is_user, is_in, without_user, one_less, from_now, first_of, user_of, level_in, has_time, chosen, waits, entered, dropped, ticked, sunk, charged, woken, entered_again, command_blocks, preempted, is_served, has_waited, first_with, riser, goes_up, risen}
use Rattle.fair_laws.specs.Bound.{wait_at_zero}
use Rattle.plan_model.specs.Times.{count}
use Rattle.plan_model.proofs.Times.{none_count, out-row, first_counts}
use Rattle.plan_model.proofs.RiseLaws.{level_within}
use Rattle.fair_laws.specs.Waits.{before, since_of}
use Rattle.fair_laws.proofs.Row.{has, ahead, all_turns, AllRow, Stays, stays-then, one_less-calm, from_now-calm, head-tick, has-self, since-self, ahead-self, turns-few}
use Rattle.fair_laws.proofs.Queue.{row_of, head_user, Moves, moves-same, moves-then, moves-enter, moves-map, moves-out, turn-out, Stands, rest_of, at_most, with-none, with-has, row-behind}
use Rattle.fair_laws.proofs.Fit.{one_row, has-count, count-gone, IsFit, Fit, fit-later, fit-out, fit-map, fit-enter, fit-little, fit-few, fit-past}

-- parts

-- a user that stands in the rows stands in one
pub in-row : (u : ℕ) (rows : List (List Waiting)) → is_in u rows ≡ true → (k : ℕ) × (has u (row_of k rows) ≡ true)
in-row u [] h = cc
in-row u (row ∷ rows) h = by_test (in-row u rows) (list_any (is_user u) row) refl h
  where
    by_test : (is_in u rows ≡ true → (k : ℕ) × (has u (row_of k rows) ≡ true)) → (b : Bool) → list_any (is_user u) row ≡ b
        → (b || is_in u rows) ≡ true → (k : ℕ) × (has u (row_of k (row ∷ rows)) ≡ true)
    by_test rest true e h = (zero, e)
    by_test rest false e h = let r = rest h in (suc r.0, r.1)

pub has-within : (u k : ℕ) (rows : List (List Waiting)) → has u (row_of k rows) ≡ true → k < length rows
has-within u k [] h = cc
has-within u zero (row ∷ rows) h = omega arith
has-within u (suc k) (row ∷ rows) h = let r = has-within u k rows h in omega (arith, r)

head_counts : (v : ℕ) (rows : List (List Waiting)) → head_user rows ≡ Some v → 1 ≤ count v rows
head_counts v rows h = by_first (first_of 0 rows) refl h
  where
    by_first : (o : Option (ℕ × Waiting)) → first_of 0 rows ≡ o → user_of o ≡ Some v → 1 ≤ count v rows
    by_first None e h = cc
    by_first (Some p) e h = let s : (p.1).user ≡ v = cc in subst (λ (w : ℕ). 1 ≤ count w rows) s (first_counts 0 rows p e)

-- the order of the queues
abbrev pub Good : (users now : ℕ) → Levels → Type 0
Good users now q = Fit users q.quantum now q.rows

pub known-chosen : (users now v : ℕ) (q : Levels) → Good users now q → user_of (chosen q) ≡ Some v → (1 ≤ v) × (v ≤ users)
unfolding chosen
known-chosen users now v q good is = good.known v (head_counts v q.rows is)

pub good-dropped : (users now v : ℕ) (q : Levels) → Good users now q → Good users now (dropped v q)
unfolding dropped
good-dropped users now v q good = fit-out users q.quantum now v q.rows good

good-entered_in : (users now blocks v : ℕ) (q : Levels) → count v q.rows ≡ 0 → (1 ≤ v) × (v ≤ users) → Good users now q → Good users now (entered blocks v now q)
unfolding entered
good-entered_in users now blocks v q none range good =
    fit-enter users q.quantum now (level_of_words q.wq (256 * blocks)) v q.rows (level_within q.wq (256 * blocks)) none range good

pub good-entered : (users now blocks v : ℕ) (q : Levels) → (1 ≤ v) × (v ≤ users) → Good users now q → Good users now (entered blocks v now (dropped v q))
unfolding dropped
good-entered users now blocks v q range good =
    good-entered_in users now blocks v (dropped v q) (count-gone v q.rows) range (good-dropped users now v q good)

pub good-again : (users now v : ℕ) (b : Bool) (q : Levels) → (1 ≤ v) × (v ≤ users) → Good users now q → Good users now (entered_again b v now (dropped v q))
good-again users now v false q range good = good-dropped users now v q good
good-again users now v true q range good = good-entered users now command_blocks v q range good

pub good-woken : (users now blocks v : ℕ) (q : Levels) → (1 ≤ v) × (v ≤ users) → Good users now q → Good users now (woken blocks v now q)
unfolding woken waits
good-woken users now blocks v q range good = by_test (is_in v q.rows) refl
  where
    by_test : (b : Bool) → is_in v q.rows ≡ b → Good users now (cond b q (entered blocks v now q))
    by_test true e = good
    by_test false e = good-entered_in users now blocks v q (none_count v q.rows e) range good

pub now_same : (b : Bool) (now : ℕ) (x : Waiting) → (cond b (record x { since = now }) x).user ≡ x.user
now_same true now x = refl
now_same false now x = refl

now_fit : (quantum now k : ℕ) (b : Bool) (x : Waiting) → IsFit quantum now k x → IsFit quantum now k (cond b (record x { since = now }) x)
now_fit quantum now k true x h = record { little = h.little; past = omega arith }
now_fit quantum now k false x h = h

pub good-preempted : (users now v : ℕ) (q : Levels) → Good users now q → Good users now (preempted v now q)
unfolding preempted
good-preempted users now v q good =
    fit-map users q.quantum now (from_now v now) q.rows (λ x. now_same (nat_eq x.user v) now x) (λ k x h. now_fit q.quantum now k (nat_eq x.user v) x h) good

pub less_same : (b : Bool) (x : Waiting) → (cond b (record x { left = x.left - 1 }) x).user ≡ x.user
less_same true x = refl
less_same false x = refl

less_fit : (quantum now k : ℕ) (b : Bool) (x : Waiting) → IsFit quantum now k x → IsFit quantum now k (cond b (record x { left = x.left - 1 }) x)
less_fit quantum now k true x h = record { little = λ e. let l = h.little e in omega (arith, l); past = h.past }
less_fit quantum now k false x h = h

pub good-charged : (users now v : ℕ) (q : Levels) → user_of (chosen q) ≡ Some v → Good users now q → Good users (suc now) (charged v (suc now) q)
unfolding charged ticked sunk dropped
good-charged users now v q is good = by_time (has_time q)
  where
    later : Good users (suc now) q
    later = fit-later users q.quantum now (suc now) q.rows (omega arith) good

    by_time : (b : Bool) → Good users (suc now) (cond b (ticked v q) (sunk v (suc now) q))
    by_time true = fit-map users q.quantum (suc now) (one_less v) q.rows (λ x. less_same (nat_eq x.user v) x) (λ k x h. less_fit q.quantum (suc now) k (nat_eq x.user v) x h) later
    by_time false =
        let l = min (level_in (chosen q) + 1) 8 in
        fit-enter users q.quantum (suc now) l v (map (without_user v) q.rows) (omega arith) (count-gone v q.rows) (known-chosen users now v q good is)
        (fit-out users q.quantum (suc now) v q.rows later)

-- rises

-- the level that a user rises to is that of a row, and the user stands in the row behind it
pub rises-from : (served : Option ℕ) (now v l : ℕ) (q : Levels) → goes_up (riser served now q) ≡ Some (v, l) → has v (row_of (suc l) q.rows) ≡ true
unfolding riser
rises-from served now v l q is = by_age (nat_eq q.age 0) is
  where
    rows : List (List Waiting)
    rows = drop 1 q.rows

    by_first : (o : Option (ℕ × Waiting)) → first_with (has_waited q.age served now) 1 (drop 1 q.rows) ≡ o → goes_up o ≡ Some (v, l) → has v (row_of (suc l) q.rows) ≡ true
    by_first None e is = cc
    by_first (Some p) e is =
        let both : ◌≡◌ {A = ℕ × ℕ} ((p.1).user, p.0 - 1) (v, l) = cc in
        let mine : (p.1).user ≡ v = ap (λ (z : ℕ × ℕ). z.0) both in
        let to : p.0 - 1 ≡ l = ap (λ (z : ℕ × ℕ). z.1) both in
        let r = with-has (has_waited q.age served now) 1 (drop 1 q.rows) p.0 p.1 e in
        let level : r.0 ≡ l = let a = r.1 in omega (arith, a, to) in
        let there : has (p.1).user (row_of (suc r.0) q.rows) ≡ true = ap (has (p.1).user) (sym (row-behind r.0 q.rows)) ∙ r.2 in
        subst (λ (w : ℕ). has w (row_of (suc l) q.rows) ≡ true) mine (subst (λ (k : ℕ). has (p.1).user (row_of (suc k) q.rows) ≡ true) level there)

    by_age : (b : Bool) → goes_up (cond b None (first_with (has_waited q.age served now) 1 (drop 1 q.rows))) ≡ Some (v, l) → has v (row_of (suc l) q.rows) ≡ true
    by_age true is = cc
    by_age false is = by_first (first_with (has_waited q.age served now) 1 (drop 1 q.rows)) refl is

pub good-risen : (users now v l : ℕ) (served : Option ℕ) (q : Levels) → goes_up (riser served now q) ≡ Some (v, l) → Good users now q → Good users now (risen v l now q)
unfolding risen dropped
good-risen users now v l served q is good =
    let h = rises-from served now v l q is in
    let low : l ≤ 8 = let a = has-within v (suc l) q.rows h in let n = good.nine in omega (arith, a, n) in
    fit-enter users q.quantum now l v (map (without_user v) q.rows) low (count-gone v q.rows) (good.known v (has-count v q.rows (suc l) h))
    (fit-out users q.quantum now v q.rows good)

-- where nobody rises, nobody has waited for long enough
pub waiting : (served : Option ℕ) (now u : ℕ) (q : Levels) → 0 < q.age → goes_up (riser served now q) ≡ None → is_served served u ≡ false
    → (k : ℕ) → has u (row_of (suc k) q.rows) ≡ true → now < since_of u (row_of (suc k) q.rows) + q.age
unfolding riser
waiting served now u q some none out k h =
    by_age (nat_eq q.age 0) (grind (arith, nat_tests)) none
  where
    by_first : (o : Option (ℕ × Waiting)) → first_with (has_waited q.age served now) 1 (drop 1 q.rows) ≡ o → goes_up o ≡ None
        → now < since_of u (row_of (suc k) q.rows) + q.age
    by_first None e none =
        let there : has u (row_of k (drop 1 q.rows)) ≡ true = ap (has u) (row-behind k q.rows) ∙ h in
        let w = with-none q.age now u 1 served (drop 1 q.rows) out e k there in
        subst (λ (row : List Waiting). now < since_of u row + q.age) (row-behind k q.rows) w
    by_first (Some p) e none = cc

    by_age : (b : Bool) → b ≡ false → goes_up (cond b None (first_with (has_waited q.age served now) 1 (drop 1 q.rows))) ≡ None
        → now < since_of u (row_of (suc k) q.rows) + q.age
    by_age true e none = cc
    by_age false e none = by_first (first_with (has_waited q.age served now) 1 (drop 1 q.rows)) refl none

-- moves that take no tick

pub moves-woken : (load u blocks v now : ℕ) (q : Levels) → Moves load u q.rows (woken blocks v now q).rows
unfolding woken waits entered
moves-woken load u blocks v now q = by_test (is_in v q.rows)
  where
    by_test : (b : Bool) → Moves load u q.rows (cond b q (entered blocks v now q)).rows
    by_test true = moves-same load u q.rows
    by_test false = moves-enter load u q.rows (level_of_words q.wq (256 * blocks)) _

pub moves-preempted : (load u v now : ℕ) (q : Levels) → v ≢ u → Moves load u q.rows (preempted v now q).rows
unfolding preempted
moves-preempted load u v now q other = moves-map load u (from_now v now) q.rows (from_now-calm u v now other)

pub moves-risen : (load u v l now : ℕ) (q : Levels) → v ≢ u → Moves load u q.rows (risen v l now q).rows
unfolding risen dropped
moves-risen load u v l now q other =
    moves-then load u q.rows (map (without_user v) q.rows) _ (moves-out load u v q.rows other) (moves-enter load u (map (without_user v) q.rows) l _)

-- moves that take one

pub record Ticks (load u extra : ℕ) (rows after : List (List Waiting)) : Type 0 where
  pub stay : (k : ℕ) → Stays load u (row_of k rows) (row_of k after)
  pub first : has u (row_of 0 rows) ≡ true → ahead load u (row_of 0 after) + extra ≤ ahead load u (row_of 0 rows)

ticks-then : (load u extra : ℕ) (a b c : List (List Waiting)) → Ticks load u extra a b → Moves load u b c → Ticks load u extra a c
ticks-then load u extra a b c f g =
    record {
      stay = λ k. stays-then load u (row_of k a) (row_of k b) (row_of k c) (f.stay k) (g.stay k);
      first = λ h. let x = f.first h in let y = (g.stay 0 (f.stay 0 h).0).2 in omega (arith, x, y);
    }

-- the head goes out
ticks-out : (load u v : ℕ) (rows : List (List Waiting)) → head_user rows ≡ Some v → v ≢ u → Ticks load u (suc load) rows (map (without_user v) rows)
ticks-out load u v rows is other =
    record {
      stay = (moves-out load u v rows other).stay;
      first = λ h. elim (turn-out load u v rows other h) [ inl e ↦ absurd (e.1 is) | inr e ↦ e ];
    }

first_time : (u : ℕ) (rows : List (List Waiting)) (k : ℕ) (load v : ℕ) → head_user rows ≡ Some v → v ≢ u → nat_lt 1 (Rattle.plan_model.specs.Levels.left_in (first_of 0 rows)) ≡ true
    → has u (row_of 0 rows) ≡ true → ahead load u (row_of 0 (map (map (one_less v)) rows)) + 1 ≤ ahead load u (row_of 0 rows)
first_time u [] k load v is other more h = cc
first_time u ([] ∷ rows) k load v is other more h = cc
first_time u ((y ∷ ys) ∷ rows) k load v is other more h =
    let same : y.user ≡ v = cc in
    let t = head-tick load u v y ys same other (ltb-true 1 y.left more) h in
    omega (arith, t)

-- a tick, with time left or without
pub ticks-goes : (load u v now : ℕ) (q : Levels) → user_of (chosen q) ≡ Some v → v ≢ u → has_time q ≡ true → Ticks load u 1 q.rows (charged v now q).rows
unfolding charged ticked chosen
ticks-goes load u v now q is other more =
    rw more (record {
      stay = (moves-map load u (one_less v) q.rows (one_less-calm u v)).stay;
      first = λ h. first_time u q.rows 0 load v is other more h;
    })

pub ticks-time : (load u v now : ℕ) (q : Levels) → user_of (chosen q) ≡ Some v → v ≢ u → has_time q ≡ false → Ticks load u (suc load) q.rows (charged v now q).rows
unfolding charged sunk dropped chosen
ticks-time load u v now q is other none =
    rw none (ticks-then load u (suc load) q.rows (map (without_user v) q.rows) _ (ticks-out load u v q.rows is other)
    (moves-enter load u (map (without_user v) q.rows) (min (level_in (chosen q) + 1) 8) _))

-- and then the user goes out
pub ticks-leaves : (load u v now : ℕ) (q : Levels) → user_of (chosen q) ≡ Some v → v ≢ u → Ticks load u (suc load) q.rows (dropped v (charged v now q)).rows
unfolding charged ticked sunk dropped chosen
ticks-leaves load u v now q is other = by_time (has_time q) refl
  where
    head_is : (rows : List (List Waiting)) → head_user rows ≡ Some v → head_user (map (map (one_less v)) rows) ≡ Some v
    head_is rows e = by_first rows 0 e
      where
        by_first : (rs : List (List Waiting)) (l : ℕ) → user_of (first_of l rs) ≡ Some v → user_of (first_of l (map (map (one_less v)) rs)) ≡ Some v
        by_first [] l e = e
        by_first ([] ∷ rs) l e = by_first rs (suc l) e
        by_first ((y ∷ ys) ∷ rs) l e = ap Some (less_same (nat_eq y.user v) y) ∙ e

    by_time : (b : Bool) → has_time q ≡ b → Ticks load u (suc load) q.rows (map (without_user v) (cond b (ticked v q) (sunk v now q)).rows)
    by_time true e =
        let less : List (List Waiting) = map (map (one_less v)) q.rows in
        let m = moves-map load u (one_less v) q.rows (one_less-calm u v) in
        let o = ticks-out load u v less (head_is q.rows is) other in
        record {
          stay = λ k. stays-then load u (row_of k q.rows) (row_of k less) (row_of k (map (without_user v) less)) (m.stay k) (o.stay k);
          first = λ h. let x = (m.stay 0 h).2 in let y = o.first (m.stay 0 h).0 in omega (arith, x, y);
        }
    by_time false e =
        let out : List (List Waiting) = map (without_user v) q.rows in
        let t = ticks-then load u (suc load) q.rows out _ (ticks-out load u v q.rows is other) (moves-enter load u out (min (level_in (chosen q) + 1) 8) _) in
        ticks-then load u (suc load) q.rows _ _ t (moves-out load u v _ other)

-- and enters again
pub ticks-entered : (load u v now blocks : ℕ) (q : Levels) → user_of (chosen q) ≡ Some v → v ≢ u → Ticks load u (suc load) q.rows (entered blocks v now (dropped v (charged v now q))).rows
unfolding entered
ticks-entered load u v now blocks q is other =
    ticks-then load u (suc load) q.rows (dropped v (charged v now q)).rows _ (ticks-leaves load u v now q is other)
    (moves-enter load u (dropped v (charged v now q)).rows (level_of_words _ (256 * blocks)) _)

pub ticks-again : (load u v now : ℕ) (b : Bool) (q : Levels) → user_of (chosen q) ≡ Some v → v ≢ u → Ticks load u (suc load) q.rows (entered_again b v now (dropped v (charged v now q))).rows
ticks-again load u v now false q is other = ticks-leaves load u v now q is other
ticks-again load u v now true q is other = ticks-entered load u v now command_blocks q is other

-- the user itself rises

pub row-map : (f : List Waiting → List Waiting) (k : ℕ) (rows : List (List Waiting)) → f [] ≡ [] → row_of k (map f rows) ≡ f (row_of k rows)
row-map f k [] e = sym e
row-map f zero (row ∷ rows) e = refl
row-map f (suc k) (row ∷ rows) e = row-map f k rows e

pub times_le : (a b c : ℕ) → a ≤ b → a * c ≤ b * c
times_le a b c h = grind arith

one_level : (now below each last by : ℕ) → now + (suc below * each + last) ≤ by → now + each + (below * each + last) ≤ by
one_level now below each last by h = omega (arith, h)

no_level : (now each last by : ℕ) → now + (0 * each + last) ≤ by → now + last ≤ by
no_level now each last by h = omega (arith, h)

first_level : (now a r load c by : ℕ) → a ≤ r → c ≤ load → now + (r + load + 1) ≤ by → now + (a + c + 1) ≤ by
first_level now a r load c by h k l = omega (arith, h, k, l)

-- the rows without the user, the user anew, and the rows with it
abbrev out_of_rows : ℕ → Levels → List (List Waiting)
out_of_rows u q = map (without_user u) q.rows

abbrev anew : (u now l : ℕ) → Levels → Waiting
anew u now l q = record { user = u; left = q.quantum * 2 ^ l; since = now }

abbrev risen_rows : (u now l : ℕ) → Levels → List (List Waiting)
risen_rows u now l q = set (out_of_rows u q) l (row_of l (out_of_rows u q) ++ anew u now l q ∷ [])

pub stands-risen : (load u by now l users : ℕ) (must must' : Bool) (served : Option ℕ) (q : Levels) → 0 < q.quantum
    → goes_up (riser served now q) ≡ Some (u, l) → Good users now q
    → Stands q.age load (wait_at_zero q.quantum load users) u by must now q.rows
    → Stands q.age load (wait_at_zero q.quantum load users) u by must' now (risen u l now q).rows
unfolding risen dropped
stands-risen load u by now l users must must' served q some is good s = by_stand s
  where
    h : has u (row_of (suc l) q.rows) ≡ true
    h = rises-from served now u l q is

    row_is : row_of l (risen_rows u now l q) ≡ row_of l (out_of_rows u q) ++ (anew u now l q) ∷ []
    row_is =
        let within : l < length (map (without_user u) q.rows) = let a = has-within u (suc l) q.rows h in let e : length (map (without_user u) q.rows) ≡ length q.rows = simp length-map in omega (arith, a, e) in
        get_or-set_same (map (without_user u) q.rows) l _ [] within

    free : has u (row_of l (out_of_rows u q)) ≡ false
    free = ap (has u) (row-map (without_user u) l q.rows refl) ∙ out-row u (row_of l q.rows)

    here : has u (row_of l (risen_rows u now l q)) ≡ true
    here = ap (has u) row_is ∙ has-self u (row_of l (out_of_rows u q)) (anew u now l q) refl

    since : since_of u (row_of l (risen_rows u now l q)) ≡ now
    since = ap (since_of u) row_is ∙ since-self u (row_of l (out_of_rows u q)) (anew u now l q) refl free

    turns : ahead load u (row_of l (risen_rows u now l q)) ≤ all_turns load (row_of l (out_of_rows u q))
    turns = subst (λ (row : List Waiting). ahead load u row ≤ all_turns load (row_of l (out_of_rows u q))) (sym row_is) (ahead-self load u (row_of l (out_of_rows u q)) (anew u now l q) refl)

    fit_out : Fit users q.quantum now (out_of_rows u q)
    fit_out = fit-out users q.quantum now u q.rows good

    few : (m : ℕ) → m ≡ 0 → all_turns load (row_of m (out_of_rows u q)) ≤ (users - 1) * (q.quantum + load)
    few zero e =
        let a = turns-few q.quantum load (row_of 0 (out_of_rows u q)) some (fit-little users q.quantum now (out_of_rows u q) fit_out) in
        let range = good.known u (has-count u q.rows (suc l) h) in
        let n = fit-few users q.quantum now u 0 (out_of_rows u q) fit_out (none_out) range.0 range.1 in
        let m = times_le (length (row_of 0 (out_of_rows u q))) (users - 1) (q.quantum + load) n in
        omega (arith, a, m)
      where
        none_out : count u (out_of_rows u q) ≡ 0
        none_out = count-gone u q.rows
    few (suc m) e = absurd (omega (arith, e))

    by_level : (m : ℕ) → 0 < q.age → l ≡ m → now + rest_of q.age load (wait_at_zero q.quantum load users) m ≤ by
        → Stands q.age load (wait_at_zero q.quantum load users) u by must' now (risen_rows u now l q)
    by_level zero aged e soon =
        inl (record {
          here = subst (λ (k : ℕ). has u (row_of k (risen_rows u now l q)) ≡ true) e here;
          soon =
              let t = subst (λ (k : ℕ). ahead load u (row_of k (risen_rows u now l q)) ≤ all_turns load (row_of k (out_of_rows u q))) e turns in
              let f = few 0 refl in
              let n = no_level now (q.age + (load - 1)) (wait_at_zero q.quantum load users) by soon in
              first_level now (ahead load u (row_of 0 (risen_rows u now l q))) ((users - 1) * (q.quantum + load)) load (cond must' load 0) by (omega (arith, t, f)) (at_most load must') (omega (arith, n));
        })
    by_level (suc m) aged e soon =
        let n = one_level now m (q.age + (load - 1)) (wait_at_zero q.quantum load users) by soon in
        inr (record {
          aged = aged;
          below = m;
          here = subst (λ (k : ℕ). has u (row_of k (risen_rows u now l q)) ≡ true) e here;
          rises = let c = subst (λ (k : ℕ). since_of u (row_of k (risen_rows u now l q)) ≡ now) e since in rw c n;
          soon = omega (arith, n);
        })

    by_stand : Stands q.age load (wait_at_zero q.quantum load users) u by must now q.rows → Stands q.age load (wait_at_zero q.quantum load users) u by must' now (risen_rows u now l q)
    by_stand (inl f) = absurd (let e = one_row u q.rows 0 (suc l) f.here h (good.once u) in omega (arith, e))
    by_stand (inr d) =
        let e = one_row u q.rows (suc d.below) (suc l) d.here h (good.once u) in
        let same : l ≡ d.below = omega (arith, e) in
        by_level d.below d.aged same d.soon

-- a user that stands in a row, at any moment

ahead-before : (quantum load u : ℕ) (row : List Waiting) → 0 < quantum → AllRow (λ x. x.left ≤ quantum) row → ahead load u row ≤ before u row * (quantum + load)
ahead-before quantum load u [] some h = omega arith
ahead-before quantum load u (x ∷ xs) some h = by_test (nat_eq x.user u) (ahead-before quantum load u xs some h.1)
  where
    by_test : (b : Bool) → ahead load u xs ≤ before u xs * (quantum + load) → cond b 0 (suc (x.left - 1) + load + ahead load u xs) ≤ cond b 0 (suc (before u xs)) * (quantum + load)
    by_test true r = omega arith
    by_test false r = let l = h.0 in omega (arith, r, l, some)

before-others : (u : ℕ) (row : List Waiting) → before u row ≤ length (without_user u row)
before-others u [] = omega arith
before-others u (x ∷ xs) = by_test (nat_eq x.user u) (before-others u xs)
  where
    by_test : (b : Bool) → before u xs ≤ length (without_user u xs) → cond b 0 (suc (before u xs)) ≤ length (cond (not b) (x ∷ without_user u xs) (without_user u xs))
    by_test true r = omega arith
    by_test false r = omega (arith, r)

pub before-few : (users now u k : ℕ) (q : Levels) → Good users now q → has u (row_of k q.rows) ≡ true → before u (row_of k q.rows) ≤ users - 1
before-few users now u k q good h =
    let range = good.known u (has-count u q.rows k h) in
    let out = fit-out users q.quantum now u q.rows good in
    let n = fit-few users q.quantum now u k (out_of_rows u q) out (count-gone u q.rows) range.0 range.1 in
    let e = ap length (row-map (without_user u) k q.rows refl) in
    let b = before-others u (row_of k q.rows) in
    omega (arith, n, e, b)

-- at level 0, with so many before it
pub stands-first : (load u now users last : ℕ) (must : Bool) (q : Levels) → 0 < q.quantum → Good users now q → has u (row_of 0 q.rows) ≡ true
    → Stands q.age load last u (now + (before u (row_of 0 q.rows) * (q.quantum + load) + load + 1)) must now q.rows
stands-first load u now users last must q some good h =
    let a = ahead-before q.quantum load u (row_of 0 q.rows) some (fit-little users q.quantum now q.rows good) in
    let m = at_most load must in
    inl (record { here = h; soon = omega (arith, a, m) })

-- at another level
pub stands-deep : (load u now users last level : ℕ) (must : Bool) (q : Levels) → 0 < q.age → Good users now q → has u (row_of (suc level) q.rows) ≡ true
    → Stands q.age load last u (now + (suc level * (q.age + (load - 1)) + last)) must now q.rows
stands-deep load u now users last level must q aged good h =
    let p = fit-past users q.quantum now u (suc level) q.rows good h in
    let n = one_level now level (q.age + (load - 1)) last (now + (suc level * (q.age + (load - 1)) + last)) (omega arith) in
    inr (record { aged = aged; below = level; here = h; rises = omega (arith, p, n); soon = omega (arith, n) })
