-- First come, first served: no change of the queues puts a user before another that waits on at its level.
use Rattle.std.proofs.Common.{◌≡◌, ◌≢◌, ℕ, zero, suc, ◌+◌, ◌*◌, min, Bool, true, false, cond, not, ◌&&◌, ◌||◌, nat_eq, List, [], ◌∷◌, ◌++◌, set, map, Option, Some, inl, inr}
use Rattle.std.proofs.Common.{refl, sym, ap, subst, ◌∙◌, arith}
use Rattle.std.proofs.lemmas.Bool.Decides.{nat_tests, eqb_tells}
use Rattle.ctss_types.specs.declared.session.Waiting.{Waiting}
use Rattle.plan_model.specs.Levels.{Levels, level_of_words, without_user, one_less, from_now, level_in, has_time, chosen, waits, entered, dropped, ticked, sunk, charged, woken, entered_again, command_blocks, preempted, riser, goes_up, risen}
use Rattle.plan_model.proofs.Times.{out-row}
use Rattle.fair_laws.specs.Waits.{since_of, is_before}
use Rattle.fair_laws.proofs.Row.{has, since-self}
use Rattle.fair_laws.proofs.Queue.{row_of, stay-out, moves-enter}
use Rattle.fair_laws.proofs.Fit.{one_row, fit-past}
use Rattle.fair_laws.proofs.Turns.{Good, row-map, rises-from, now_same, less_same}
use Rattle.fair_laws.proofs.Standing.{row-mapped}

-- one list

either : (b c : Bool) → c ≡ true → (b || c) ≡ true
either true c h = refl
either false c h = h

order-more : (v u : ℕ) (row : List Waiting) (x : Waiting) → has u row ≡ true → is_before v u (row ++ x ∷ []) ≡ true → is_before v u row ≡ true
order-more v u [] x h e = cc
order-more v u (y ∷ row) x h e = by_user (order-more v u row x) (nat_eq y.user u) h e
  where
    by_other : (has u row ≡ true → is_before v u (row ++ x ∷ []) ≡ true → is_before v u row ≡ true) → has u row ≡ true → (c : Bool)
        → (c || is_before v u (row ++ x ∷ [])) ≡ true → (c || is_before v u row) ≡ true
    by_other rest h true e = refl
    by_other rest h false e = rest h e

    by_user : (has u row ≡ true → is_before v u (row ++ x ∷ []) ≡ true → is_before v u row ≡ true) → (b : Bool) → (b || has u row) ≡ true
        → (not b && (nat_eq y.user v || is_before v u (row ++ x ∷ []))) ≡ true → (not b && (nat_eq y.user v || is_before v u row)) ≡ true
    by_user rest true h e = cc
    by_user rest false h e = by_other rest h (nat_eq y.user v) e

order-out : (v u x : ℕ) (row : List Waiting) → x ≢ u → is_before v u (without_user x row) ≡ true → is_before v u row ≡ true
order-out v u x [] other e = e
order-out v u x (y ∷ row) other e = by_gone (order-out v u x row other) (nat_eq y.user x) (nat_eq y.user u) refl (λ a b. clash a b) e
  where
    clash : nat_eq y.user x ≡ true → nat_eq y.user u ≡ true → ⊥
    clash a b = other (grind (arith, nat_tests))

    by_other : (is_before v u (without_user x row) ≡ true → is_before v u row ≡ true) → (c : Bool)
        → (c || is_before v u (without_user x row)) ≡ true → (c || is_before v u row) ≡ true
    by_other rest true e = refl
    by_other rest false e = rest e

    by_gone : (is_before v u (without_user x row) ≡ true → is_before v u row ≡ true) → (d b : Bool) → nat_eq y.user u ≡ b → (d ≡ true → b ≡ true → ⊥)
        → is_before v u (cond (not d) (y ∷ without_user x row) (without_user x row)) ≡ true → (not b && (nat_eq y.user v || is_before v u row)) ≡ true
    by_gone rest true true is clash e = absurd (clash refl refl)
    by_gone rest true false is clash e = either (nat_eq y.user v) (is_before v u row) (rest e)
    by_gone rest false true is clash e = absurd (let k = ap (λ (b : Bool). not b && (nat_eq y.user v || is_before v u (without_user x row))) is in cc (k, e))
    by_gone rest false false is clash e =
        by_other rest (nat_eq y.user v) (sym (ap (λ (b : Bool). not b && (nat_eq y.user v || is_before v u (without_user x row))) is) ∙ e)

order-map : (v u : ℕ) (f : Waiting → Waiting) (row : List Waiting) → ((x : Waiting) → (f x).user ≡ x.user) → is_before v u (map f row) ≡ is_before v u row
order-map v u f [] same = refl
order-map v u f (y ∷ row) same =
    ap (λ (n : ℕ). not (nat_eq n u) && (nat_eq n v || is_before v u (map f row))) (same y)
    ∙ ap (λ (b : Bool). not (nat_eq y.user u) && (nat_eq y.user v || b)) (order-map v u f row same)

-- all lists: where a user is it still is, and no other comes before it
abbrev pub Moved : (v u : ℕ) → List (List Waiting) → List (List Waiting) → Type 0
Moved v u rows after =
    (k : ℕ) → has u (row_of k rows) ≡ true → (has u (row_of k after) ≡ true) × (is_before v u (row_of k after) ≡ true → is_before v u (row_of k rows) ≡ true)

moved-then : (v u : ℕ) (a b c : List (List Waiting)) → Moved v u a b → Moved v u b c → Moved v u a c
moved-then v u a b c f g k h = let x = f k h in let y = g k x.0 in (y.0, λ e. x.1 (y.1 e))

moved-enter : (v u : ℕ) (rows : List (List Waiting)) (l : ℕ) (x : Waiting) → Moved v u rows (set rows l (row_of l rows ++ x ∷ []))
moved-enter v u rows l x k h = (((moves-enter 0 u rows l x).stay k h).0, λ e. order rows l k h e)
  where
    order : (rows : List (List Waiting)) (l k : ℕ) → has u (row_of k rows) ≡ true → is_before v u (row_of k (set rows l (row_of l rows ++ x ∷ []))) ≡ true
        → is_before v u (row_of k rows) ≡ true
    order [] l k h e = e
    order (row ∷ rows) zero zero h e = order-more v u row x h e
    order (row ∷ rows) zero (suc k) h e = e
    order (row ∷ rows) (suc l) zero h e = e
    order (row ∷ rows) (suc l) (suc k) h e = order rows l k h e

moved-out : (v u x : ℕ) (rows : List (List Waiting)) → x ≢ u → Moved v u rows (map (without_user x) rows)
moved-out v u x rows other k h =
    ((stay-out 0 u x rows k other h).0, λ e. order-out v u x (row_of k rows) other (sym (ap (is_before v u) (row-map (without_user x) k rows refl)) ∙ e))

moved-map : (v u : ℕ) (f : Waiting → Waiting) (rows : List (List Waiting)) → ((x : Waiting) → (f x).user ≡ x.user) → Moved v u rows (map (map f) rows)
moved-map v u f rows same k h =
    (row-mapped u k f rows same h, λ e. sym (order-map v u f (row_of k rows) same) ∙ sym (ap (is_before v u) (row-map (map f) k rows refl)) ∙ e)

-- the changes of the queues for another user

moved-charged : (v u x now : ℕ) (q : Levels) → x ≢ u → Moved v u q.rows (charged x now q).rows
unfolding charged ticked sunk dropped
moved-charged v u x now q other = by_time (has_time q)
  where
    by_time : (b : Bool) → Moved v u q.rows (cond b (ticked x q) (sunk x now q)).rows
    by_time true = moved-map v u (one_less x) q.rows (λ y. less_same (nat_eq y.user x) y)
    by_time false =
        moved-then v u q.rows (map (without_user x) q.rows) _ (moved-out v u x q.rows other)
        (moved-enter v u (map (without_user x) q.rows) (min (level_in (chosen q) + 1) 8) _)

moved-dropped : (v u x : ℕ) (q : Levels) → x ≢ u → Moved v u q.rows (dropped x q).rows
unfolding dropped
moved-dropped v u x q other = moved-out v u x q.rows other

moved-entered : (v u x blocks now : ℕ) (q : Levels) → Moved v u q.rows (entered blocks x now q).rows
unfolding entered
moved-entered v u x blocks now q = moved-enter v u q.rows (level_of_words q.wq (256 * blocks)) _

-- what a step keeps: a user that is at its level since the same tick has nobody new before it

abbrev pub Keeps : (v u : ℕ) → List (List Waiting) → List (List Waiting) → Type 0
Keeps v u rows after =
    (k : ℕ) → has u (row_of k rows) ≡ true → has u (row_of k after) ≡ true → since_of u (row_of k after) ≡ since_of u (row_of k rows)
    → is_before v u (row_of k after) ≡ true → is_before v u (row_of k rows) ≡ true

pub keeps-moved : (v u : ℕ) (rows after : List (List Waiting)) → Moved v u rows after → Keeps v u rows after
keeps-moved v u rows after f k h there since e = (f k h).1 e

-- the user itself goes out
none_out : (u k : ℕ) (rows : List (List Waiting)) → has u (row_of k (map (without_user u) rows)) ≡ false
none_out u k rows = ap (has u) (row-map (without_user u) k rows refl) ∙ out-row u (row_of k rows)

keeps-gone : (v u : ℕ) (rows before : List (List Waiting)) → Keeps v u rows (map (without_user u) before)
keeps-gone v u rows before k h there since e = absurd (let n = none_out u k before in cc (n, there))

-- or it comes to a tail later than it came before
since_entered : (u l k : ℕ) (rows : List (List Waiting)) (x : Waiting) → x.user ≡ u → ((j : ℕ) → has u (row_of j rows) ≡ false)
    → has u (row_of k (set rows l (row_of l rows ++ x ∷ []))) ≡ true → since_of u (row_of k (set rows l (row_of l rows ++ x ∷ []))) ≡ x.since
since_entered u l k [] x is none there = cc
since_entered u zero zero (row ∷ rows) x is none there = since-self u row x is (none 0)
since_entered u zero (suc k) (row ∷ rows) x is none there = absurd (let n = none (suc k) in cc (n, there))
since_entered u (suc l) zero (row ∷ rows) x is none there = absurd (let n = none 0 in cc (n, there))
since_entered u (suc l) (suc k) (row ∷ rows) x is none there = since_entered u l k rows x is (λ j. none (suc j)) there

keeps-anew : (users now v u l : ℕ) (q : Levels) (out : List (List Waiting)) (x : Waiting) → Good users now q → x.user ≡ u → x.since ≡ suc now
    → Keeps v u q.rows (set (map (without_user u) out) l (row_of l (map (without_user u) out) ++ x ∷ []))
keeps-anew users now v u l q out x good is late k h there since e =
    absurd (
    let past = fit-past users q.quantum now u k q.rows good h in
    let mine = since_entered u l k (map (without_user u) out) x is (λ j. none_out u j out) there in
    omega (arith, past, mine, since, late)
    )

-- each change, whoever's it is

pub keeps-woken : (v u x blocks now : ℕ) (q : Levels) → Keeps v u q.rows (woken blocks x now q).rows
unfolding woken
keeps-woken v u x blocks now q = by_test (waits x q)
  where
    by_test : (b : Bool) → Keeps v u q.rows (cond b q (entered blocks x now q)).rows
    by_test true = λ k h there since e. e
    by_test false = keeps-moved v u q.rows (entered blocks x now q).rows (moved-entered v u x blocks now q)

pub keeps-preempted : (v u x now : ℕ) (q : Levels) → Keeps v u q.rows (preempted x now q).rows
unfolding preempted
keeps-preempted v u x now q = keeps-moved v u q.rows _ (moved-map v u (from_now x now) q.rows (λ y. now_same (nat_eq y.user x) now y))

pub keeps-dropped : (v u x : ℕ) (q : Levels) → Keeps v u q.rows (dropped x q).rows
unfolding dropped
keeps-dropped v u x q =
    elim (eqb_tells x u) [
      | inl e ↦ subst (λ (z : ℕ). Keeps v u q.rows (map (without_user z) q.rows)) (sym e.1) (keeps-gone v u q.rows q.rows)
      | inr e ↦ keeps-moved v u q.rows (map (without_user x) q.rows) (moved-out v u x q.rows e.1)
    ]

-- a user that rises stood at the level above, and stands there no more
keeps-own_rise : (users now v u l : ℕ) (served : Option ℕ) (q : Levels) → Good users now q → goes_up (riser served now q) ≡ Some (u, l)
    → Keeps v u q.rows (risen u l now q).rows
unfolding risen dropped
keeps-own_rise users now v u l served q good is k h there since e =
    absurd (
    let from = one_row u q.rows k (suc l) h (rises-from served now u l q is) (good.once u) in
    let to = entered_at u l k (map (without_user u) q.rows) _ (λ j. none_out u j q.rows) there in
    omega (arith, from, to)
    )
  where
    entered_at : (u l k : ℕ) (rows : List (List Waiting)) (x : Waiting) → ((j : ℕ) → has u (row_of j rows) ≡ false)
        → has u (row_of k (set rows l (row_of l rows ++ x ∷ []))) ≡ true → k ≡ l
    entered_at u l k [] x none there = cc
    entered_at u zero zero (row ∷ rows) x none there = refl
    entered_at u zero (suc k) (row ∷ rows) x none there = absurd (let n = none (suc k) in cc (n, there))
    entered_at u (suc l) zero (row ∷ rows) x none there = absurd (let n = none 0 in cc (n, there))
    entered_at u (suc l) (suc k) (row ∷ rows) x none there = ap suc (entered_at u l k rows x (λ j. none (suc j)) there)

pub keeps-risen : (users now v u x l : ℕ) (served : Option ℕ) (q : Levels) → Good users now q → goes_up (riser served now q) ≡ Some (x, l)
    → Keeps v u q.rows (risen x l now q).rows
unfolding risen
keeps-risen users now v u x l served q good is =
    elim (eqb_tells x u) [
      | inl e ↦
          subst (λ (z : ℕ). Keeps v u q.rows (risen z l now q).rows) (sym e.1)
          (keeps-own_rise users now v u l served q good (subst (λ (z : ℕ). goes_up (riser served now q) ≡ Some (z, l)) e.1 is))
      | inr e ↦
          keeps-moved v u q.rows (risen x l now q).rows
          (moved-then v u q.rows (dropped x q).rows _ (moved-dropped v u x q e.1) (moved-enter v u (dropped x q).rows l _))
    ]

-- a tick, and where the user goes then
keeps-own_tick : (users now v u : ℕ) (q : Levels) → Good users now q → Keeps v u q.rows (charged u (suc now) q).rows
unfolding charged ticked sunk dropped
keeps-own_tick users now v u q good = by_time (has_time q)
  where
    by_time : (b : Bool) → Keeps v u q.rows (cond b (ticked u q) (sunk u (suc now) q)).rows
    by_time true = keeps-moved v u q.rows _ (moved-map v u (one_less u) q.rows (λ y. less_same (nat_eq y.user u) y))
    by_time false = keeps-anew users now v u (min (level_in (chosen q) + 1) 8) q q.rows _ good refl refl

pub keeps-charged : (users now v u x : ℕ) (q : Levels) → Good users now q → Keeps v u q.rows (charged x (suc now) q).rows
keeps-charged users now v u x q good =
    elim (eqb_tells x u) [
      | inl e ↦ subst (λ (z : ℕ). Keeps v u q.rows (charged z (suc now) q).rows) (sym e.1) (keeps-own_tick users now v u q good)
      | inr e ↦ keeps-moved v u q.rows (charged x (suc now) q).rows (moved-charged v u x (suc now) q e.1)
    ]

keeps-own_leave : (now v u : ℕ) (q : Levels) → Keeps v u q.rows (dropped u (charged u (suc now) q)).rows
unfolding dropped
keeps-own_leave now v u q = keeps-gone v u q.rows (charged u (suc now) q).rows

moved-leaves : (v u x now : ℕ) (q : Levels) → x ≢ u → Moved v u q.rows (dropped x (charged x (suc now) q)).rows
moved-leaves v u x now q other =
    moved-then v u q.rows (charged x (suc now) q).rows (dropped x (charged x (suc now) q)).rows (moved-charged v u x (suc now) q other)
    (moved-dropped v u x (charged x (suc now) q) other)

pub keeps-leaves : (now v u x : ℕ) (q : Levels) → Keeps v u q.rows (dropped x (charged x (suc now) q)).rows
keeps-leaves now v u x q =
    elim (eqb_tells x u) [
      | inl e ↦ subst (λ (z : ℕ). Keeps v u q.rows (dropped z (charged z (suc now) q)).rows) (sym e.1) (keeps-own_leave now v u q)
      | inr e ↦ keeps-moved v u q.rows (dropped x (charged x (suc now) q)).rows (moved-leaves v u x now q e.1)
    ]

keeps-own_entry : (users now v u blocks : ℕ) (q : Levels) → Good users now q → Keeps v u q.rows (entered blocks u (suc now) (dropped u (charged u (suc now) q))).rows
unfolding entered dropped
keeps-own_entry users now v u blocks q good = keeps-anew users now v u _ q (charged u (suc now) q).rows _ good refl refl

pub keeps-entered : (users now v u x blocks : ℕ) (q : Levels) → Good users now q → Keeps v u q.rows (entered blocks x (suc now) (dropped x (charged x (suc now) q))).rows
keeps-entered users now v u x blocks q good =
    elim (eqb_tells x u) [
      | inl e ↦ subst (λ (z : ℕ). Keeps v u q.rows (entered blocks z (suc now) (dropped z (charged z (suc now) q))).rows) (sym e.1) (keeps-own_entry users now v u blocks q good)
      | inr e ↦
          keeps-moved v u q.rows _ (moved-then v u q.rows (dropped x (charged x (suc now) q)).rows _ (moved-leaves v u x now q e.1)
          (moved-entered v u x blocks (suc now) (dropped x (charged x (suc now) q))))
    ]

pub keeps-again : (users now v u x : ℕ) (b : Bool) (q : Levels) → Good users now q → Keeps v u q.rows (entered_again b x (suc now) (dropped x (charged x (suc now) q))).rows
keeps-again users now v u x false q good = keeps-leaves now v u x q
keeps-again users now v u x true q good = keeps-entered users now v u x command_blocks q good
