-- A user in the queues stays there but for its own way out, and a user that enters is there.
use Rattle.std.proofs.Common.{◌≡◌, ◌≢◌, ℕ, zero, suc, ◌+◌, ◌-◌, ◌*◌, ◌^◌, min, ◌<◌, ◌≤◌, Bool, true, false, cond, ◌||◌, nat_eq, List, [], ◌∷◌, ◌++◌, length, get_or, set, map, Option, Some, None, refl, sym, ◌∙◌, ap, subst, arith, get_or-set_same, inl, inr}
use Rattle.std.specs.List.{list_any}
use Rattle.std.proofs.lemmas.Bool.Decides.{nat_tests, eqb_tells}
use Rattle.std.proofs.lemmas.List.{length-map}
use Rattle.ctss_types.specs.declared.session.Waiting.{Waiting}
use Rattle.plan_model.specs.Levels.{Levels, level_of_words, is_user, is_in, without_user, one_less, from_now, first_of, user_of, level_in, has_time, chosen, waits, entered, dropped, ticked, sunk, charged, woken, preempted, riser, goes_up, risen}
use Rattle.plan_model.proofs.RiseLaws.{level_within}
use Rattle.fair_laws.proofs.Row.{has, has-self}
use Rattle.fair_laws.proofs.Queue.{row_of, stay-out}
use Rattle.fair_laws.proofs.Turns.{now_same, less_same, in-row, has-within, rises-from, moves-woken, moves-risen, Ticks}

-- a user is in some row
abbrev pub In : ℕ → Levels → Type 0
In v q = (k : ℕ) × (has v (row_of k q.rows) ≡ true)

row-in : (v k : ℕ) (rows : List (List Waiting)) → has v (row_of k rows) ≡ true → is_in v rows ≡ true
row-in v k [] h = cc
row-in v zero (row ∷ rows) h = rw h refl
row-in v (suc k) (row ∷ rows) h = by_test (list_any (is_user v) row) (row-in v k rows h)
  where
    by_test : (b : Bool) → is_in v rows ≡ true → (b || is_in v rows) ≡ true
    by_test true h = refl
    by_test false h = h

pub in-waits : (v : ℕ) (q : Levels) → In v q → waits v q ≡ true
unfolding waits
in-waits v q h = row-in v h.0 q.rows h.1

pub waits-in : (v : ℕ) (q : Levels) → waits v q ≡ true → In v q
unfolding waits
waits-in v q h = in-row v q.rows h

-- a change of entries that leaves users
has-map : (v : ℕ) (f : Waiting → Waiting) (row : List Waiting) → ((x : Waiting) → (f x).user ≡ x.user) → has v row ≡ true → has v (map f row) ≡ true
has-map v f [] same h = cc
has-map v f (x ∷ xs) same h = rw (same x) (by_test (nat_eq x.user v) (has-map v f xs same) h)
  where
    by_test : (b : Bool) → (has v xs ≡ true → has v (map f xs) ≡ true) → (b || has v xs) ≡ true → (b || has v (map f xs)) ≡ true
    by_test true rest h = refl
    by_test false rest h = rest h

pub row-mapped : (v k : ℕ) (f : Waiting → Waiting) (rows : List (List Waiting)) → ((x : Waiting) → (f x).user ≡ x.user) → has v (row_of k rows) ≡ true → has v (row_of k (map (map f) rows)) ≡ true
row-mapped v k f [] same h = cc
row-mapped v zero f (row ∷ rows) same h = has-map v f row same h
row-mapped v (suc k) f (row ∷ rows) same h = row-mapped v k f rows same h

pub in-preempted : (v y now : ℕ) (q : Levels) → In v q → In v (preempted y now q)
unfolding preempted
in-preempted v y now q h = (h.0, row-mapped v h.0 (from_now y now) q.rows (λ x. now_same (nat_eq x.user y) now x) h.1)

-- a user that enters
at_tail : (v l : ℕ) (rows : List (List Waiting)) (x : Waiting) → l < length rows → x.user ≡ v → has v (row_of l (set rows l (row_of l rows ++ x ∷ []))) ≡ true
at_tail v l rows x within is = ap (has v) (get_or-set_same rows l (row_of l rows ++ x ∷ []) [] within) ∙ has-self v (row_of l rows) x is

pub in-entered : (blocks v now : ℕ) (q : Levels) → length q.rows ≡ 9 → In v (entered blocks v now q)
unfolding entered
in-entered blocks v now q nine =
    let l = level_of_words q.wq (256 * blocks) in
    let low = level_within q.wq (256 * blocks) in
    (l, at_tail v l q.rows (record { user = v; left = q.quantum * 2 ^ l; since = now }) (omega (arith, nine, low)) refl)

pub in-entered_anew : (blocks v now : ℕ) (q : Levels) → length q.rows ≡ 9 → In v (entered blocks v now (dropped v q))
unfolding dropped
in-entered_anew blocks v now q nine = in-entered blocks v now (dropped v q) (simp length-map nine)

pub in-woken : (blocks v now : ℕ) (q : Levels) → length q.rows ≡ 9 → In v (woken blocks v now q)
unfolding woken waits
in-woken blocks v now q nine = by_test (is_in v q.rows) refl
  where
    by_test : (b : Bool) → is_in v q.rows ≡ b → In v (cond b q (entered blocks v now q))
    by_test true e = in-row v q.rows e
    by_test false e = in-entered blocks v now q nine

pub in-others_woken : (x blocks v now : ℕ) (q : Levels) → In x q → In x (woken blocks v now q)
in-others_woken x blocks v now q h = (h.0, ((moves-woken 0 x blocks v now q).stay h.0 h.1).0)

pub in-dropped : (x v : ℕ) (q : Levels) → v ≢ x → In x q → In x (dropped v q)
unfolding dropped
in-dropped x v q other h = (h.0, (stay-out 0 x v q.rows h.0 other h.1).0)

pub in-risen : (served : Option ℕ) (x v l now : ℕ) (q : Levels) → length q.rows ≡ 9 → goes_up (riser served now q) ≡ Some (v, l) → In x q → In x (risen v l now q)
unfolding risen dropped
in-risen served x v l now q nine is h =
    elim (eqb_tells v x) [
      | inl e ↦
          let from = has-within v (suc l) q.rows (rises-from served now v l q is) in
          let same : length (map (without_user v) q.rows) ≡ length q.rows = simp length-map in
          (l, at_tail x l (map (without_user v) q.rows) (record { user = v; left = q.quantum * 2 ^ l; since = now }) (omega (arith, from, same)) e.1)
      | inr e ↦ (h.0, ((moves-risen 0 x v l now q e.1).stay h.0 h.1).0)
    ]

-- the user that has a tick
chosen-in : (v : ℕ) (rows : List (List Waiting)) (l : ℕ) → user_of (first_of l rows) ≡ Some v → (k : ℕ) × (has v (row_of k rows) ≡ true)
chosen-in v [] l e = cc
chosen-in v ([] ∷ rows) l e = let r = chosen-in v rows (suc l) e in (suc r.0, r.1)
chosen-in v ((y ∷ ys) ∷ rows) l e =
    let same : y.user ≡ v = cc in
    let t : nat_eq y.user v ≡ true = grind (arith, nat_tests) in
    (zero, rw t refl)

pub in-charged : (v now : ℕ) (q : Levels) → length q.rows ≡ 9 → user_of (chosen q) ≡ Some v → In v (charged v now q)
unfolding charged ticked sunk dropped chosen
in-charged v now q nine is = by_time (has_time q)
  where
    by_time : (b : Bool) → In v (cond b (ticked v q) (sunk v now q))
    by_time true = let r = chosen-in v q.rows 0 is in (r.0, row-mapped v r.0 (one_less v) q.rows (λ x. less_same (nat_eq x.user v) x) r.1)
    by_time false =
        let l = min (level_in (chosen q) + 1) 8 in
        let same : length (map (without_user v) q.rows) ≡ 9 = simp length-map nine in
        (l, at_tail v l (map (without_user v) q.rows) (record { user = v; left = q.quantum * 2 ^ l; since = now }) (omega (arith, same)) refl)

pub nine-charged : (v now : ℕ) (q : Levels) → length q.rows ≡ 9 → length (charged v now q).rows ≡ 9
unfolding charged ticked sunk dropped
nine-charged v now q nine = by_time (has_time q)
  where
    by_time : (b : Bool) → length (cond b (ticked v q) (sunk v now q)).rows ≡ 9
    by_time true = simp length-map nine
    by_time false = simp (Rattle.std.proofs.Common.length-set, length-map) nine

pub in-ticks : (load extra x : ℕ) (rows after : List (List Waiting)) → Ticks load x extra rows after → (k : ℕ) × (has x (row_of k rows) ≡ true) → (k : ℕ) × (has x (row_of k after) ≡ true)
in-ticks load extra x rows after t h = (h.0, (t.stay h.0 h.1).0)
