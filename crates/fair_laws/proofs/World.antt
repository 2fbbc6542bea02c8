-- The queues and loads of the system are fair: what `Wait` asks of a world.
use Rattle.std.proofs.Common.{◌≡◌, ◌≢◌, ℕ, zero, suc, ◌+◌, ◌-◌, ◌*◌, ◌<◌, ◌≤◌, Bool, true, false, cond, not}
use Rattle.std.proofs.Common.{nat_eq, List, [], ◌∷◌, map, Option, Some, None, inl, inr}
use Rattle.std.proofs.Common.{refl, sym, ap, subst, ◌∙◌, arith}
use Rattle.std.proofs.lemmas.Bool.Decides.{eqb_tells}
use Rattle.ctss_types.specs.declared.session.Waiting.{Waiting}
use Rattle.time_sharing.specs.Machine.{Machine, Line, CutKind, CommonOp, Reply}
use Rattle.time_sharing.specs.Machine.{Ending, Went, Stopped, Resized, Replaced, LoggedOut}
use Rattle.time_sharing.specs.System as system
use Rattle.time_sharing.specs.System.{World, Cause, Time, Wait, Stop, Size, Preempt, AtEnd, cause_of, clock_for}
use Rattle.plan_model.specs.Levels.{Levels, one_less, first_of, user_of, level_in, has_time, chosen, waits, entered, dropped, ticked, sunk, charged, woken, entered_again, preempted, is_served, riser, goes_up, risen, sum_of_levels}
use Rattle.plan_model.specs.Plan.{Plan, must_load, with_load, move_of, places_after, places_cut}
use Rattle.plan_model.specs.Loads as loads
use Rattle.plan_model.specs.Loads.{Places, count_below, given_up, stays, dumps, reads, base_for, others_from, owned, is_read, based}
use Rattle.plan_model.proofs.Counts.{count_most}
use Rattle.plan_model.proofs.LoadLaws.{loaded_is, owned_and_others, least_below, base_moves, dumps_stays, dumps_moves, reads_based}
use Rattle.plan_model.proofs.StaysLoaded.{cut_stays}
use Rattle.fair_laws.specs.Waits.{since_of}
use Rattle.fair_laws.specs.Bound.{longest_load, wait_at_zero}
use Rattle.fair_laws.proofs.Row.{has}
use Rattle.fair_laws.proofs.Queue.{row_of, head_user, moves-same, Stands, stands-moves, stands-out, stands-loads, stands-tick, stands-now}
use Rattle.fair_laws.proofs.Fit.{fit-later}
use Rattle.fair_laws.proofs.Turns.{Good, known-chosen, good-dropped, good-entered, good-again, good-woken, good-preempted, good-charged, good-risen, waiting, moves-woken, moves-preempted, moves-risen, Ticks, ticks-goes, ticks-time, ticks-leaves, ticks-entered, ticks-again, stands-risen}
use Rattle.fair_laws.proofs.Wait.{Fair}

-- what a load moves

dumps_few : (p : Places) (u n : ℕ) → n ≤ 128 → dumps p u n ≤ 128
dumps_few p u n small = by_stay (stays p u n) refl
  where
    by_stay : (b : Bool) → stays p u n ≡ b → dumps p u n ≤ 128
    by_stay true e =
        let d = dumps_stays p u n e in
        let c = count_most n (λ k. loads.is_other (p.owner (base_for p u n + k)) u) in
        omega (arith, d, c, small)
    by_stay false e =
        let d = dumps_moves p u n e in
        let b = base_moves p u n e in
        let l = least_below (128 - n) (others_from p.owner u n) in
        let o = owned_and_others p.owner u n (base_for p u n) (omega (arith, b, l, small)) in
        omega (arith, d, o)

reads_few : (p : Places) (u n : ℕ) → n ≤ 128 → reads p u n ≤ 128
reads_few p u n small =
    let r = reads_based p (based p u n) u n refl in
    let c = count_most n (is_read (based p u n) u) in
    omega (arith, r, c, small)

cost_few : (swap a b : ℕ) → a ≤ 128 → b ≤ 128 → swap * (a + b) ≤ 256 * swap
cost_few swap a b h k = let m = more swap (a + b) (omega (arith, h, k)) in omega (arith, m)
  where
    more : (x y : ℕ) → y ≤ 256 → x * y ≤ x * 256
    more x y h = grind arith

pub moves_few : (swap : ℕ) (places : Places) (u n : ℕ) → n ≤ 128 → (move_of swap places u n).ticks ≤ longest_load swap
moves_few swap places u n small = cost_few swap (dumps places u n) (reads places u n) (dumps_few places u n small) (reads_few places u n small)

-- the order of the queues, of these users, with this age and quantum
pub record InOrder (age quantum users now : ℕ) (q : Levels) : Type 0 where
  pub age_is : q.age ≡ age
  pub quantum_is : q.quantum ≡ quantum
  pub good : Good users now q

-- what no move changes
Kept : Levels → Levels → Type 0
Kept q r = (r.age ≡ q.age) × (r.quantum ≡ q.quantum)

kept-woken : (blocks v now : ℕ) (q : Levels) → Kept q (woken blocks v now q)
unfolding woken entered Kept
kept-woken blocks v now q = by_test (waits v q)
  where
    by_test : (b : Bool) → Kept q (cond b q (entered blocks v now q))
    by_test true = (refl, refl)
    by_test false = (refl, refl)

kept-charged : (v now : ℕ) (q : Levels) → Kept q (charged v now q)
unfolding charged ticked sunk dropped Kept
kept-charged v now q = by_test (has_time q)
  where
    by_test : (b : Bool) → Kept q (cond b (ticked v q) (sunk v now q))
    by_test true = (refl, refl)
    by_test false = (refl, refl)

kept-again : (b : Bool) (v now : ℕ) (q : Levels) → Kept q (entered_again b v now (dropped v q))
unfolding entered dropped Kept
kept-again true v now q = (refl, refl)
kept-again false v now q = (refl, refl)

kept-entered : (blocks v now : ℕ) (q : Levels) → Kept q (entered blocks v now (dropped v q))
unfolding entered dropped Kept
kept-entered blocks v now q = (refl, refl)

kept-dropped : (v : ℕ) (q : Levels) → Kept q (dropped v q)
unfolding dropped Kept
kept-dropped v q = (refl, refl)

kept-preempted : (v now : ℕ) (q : Levels) → Kept q (preempted v now q)
unfolding preempted Kept
kept-preempted v now q = (refl, refl)

kept-risen : (v l now : ℕ) (q : Levels) → Kept q (risen v l now q)
unfolding risen dropped Kept
kept-risen v l now q = (refl, refl)

ordered : (age quantum users now later : ℕ) (q r : Levels) → Kept q r → InOrder age quantum users now q → Good users later r → InOrder age quantum users later r
unfolding Kept
ordered age quantum users now later q r kept o good = record { age_is = kept.0 ∙ o.age_is; quantum_is = kept.1 ∙ o.quantum_is; good = good }

-- the head has a tick, and is the head
head-less : (v : ℕ) (rows : List (List Waiting)) → head_user (map (map (one_less v)) rows) ≡ head_user rows
head-less v rows = by_first rows 0
  where
    same : (b : Bool) (x : Waiting) → (cond b (record x { left = x.left - 1 }) x).user ≡ x.user
    same true x = refl
    same false x = refl

    by_first : (rs : List (List Waiting)) (l : ℕ) → user_of (first_of l (map (map (one_less v)) rs)) ≡ user_of (first_of l rs)
    by_first [] l = refl
    by_first ([] ∷ rs) l = by_first rs (suc l)
    by_first ((y ∷ ys) ∷ rs) l = ap Some (same (nat_eq y.user v) y)

chosen-goes : (v now : ℕ) (q : Levels) → has_time q ≡ true → user_of (chosen (charged v now q)) ≡ user_of (chosen q)
unfolding charged ticked chosen
chosen-goes v now q more = rw more (head-less v q.rows)

-- rows with a user have a head
some-chosen : (u k : ℕ) (rows : List (List Waiting)) → has u (row_of k rows) ≡ true → head_user rows ≢ None
some-chosen u k rows h e = by_first u k rows 0 h e
  where
    by_first : (u k : ℕ) (rs : List (List Waiting)) (l : ℕ) → has u (row_of k rs) ≡ true → user_of (first_of l rs) ≡ None → ⊥
    by_first u k [] l h e = cc
    by_first u zero ([] ∷ rs) l h e = cc
    by_first u (suc k) ([] ∷ rs) l h e = by_first u k rs (suc l) h e
    by_first u k ((y ∷ ys) ∷ rs) l h e = cc

out-served : (served : Option ℕ) (u : ℕ) → served ≢ Some u → is_served served u ≡ false
out-served None u h = refl
out-served (Some v) u h = elim (eqb_tells v u) [ inl e ↦ absurd (h (ap Some e.1)) | inr e ↦ e.0 ]

module _ {S F : Type 0} (blocks line_blocks : S → ℕ) (unread : S → Bool) (leaves : Levels → ℕ → Cause → S → ℕ → Levels) (swap : ℕ)
    (files_after : F → CommonOp → F) (reply_to : F → CommonOp → Reply) (asked : Line → Option ℕ) (check : ℕ → Line → Option ℕ) (nobody : S) where
  abbrev pub queue_world : World S Plan F
  queue_world =
      record {
        choose = λ q. user_of (chosen q.levels);
        level = λ q u. level_in (chosen q.levels);
        time_left = λ q u. has_time q.levels;
        rises = λ q served now. goes_up (riser served now q.levels);
        must_load = λ q u p. must_load q u (blocks p);
        load = λ q u p now. with_load q u (blocks p);
        move = λ q u p. move_of swap q.places u (blocks p);
        sum_of_levels = λ q. sum_of_levels q.levels;
        risen = λ q u l now. record q { levels = risen u l now q.levels };
        charged = λ q u now. record q { levels = charged u now q.levels };
        preempted = λ q u now. record q { levels = preempted u now q.levels };
        leaves = λ q u cause p now. record q { levels = leaves q.levels u cause p now };
        gave_up = λ q u p ending now. record q { places = places_after ending u (blocks p) q.places };
        line_came = λ q u was p now. record q { levels = woken (line_blocks was) u now q.levels };
        cut_came = λ q u kind p now. record q { levels = dropped u q.levels; places = places_cut kind u q.places };
        files_after = files_after;
        reply_to = reply_to;
        asked = asked;
        check = check;
        nobody = nobody;
      }

  -- where a user goes whose service has ended
  pub record Leaves : Type 0 where
    pub time : (q : Levels) (v : ℕ) (p : S) (now : ℕ) → leaves q v Time p now ≡ q
    pub wait : (q : Levels) (v : ℕ) (p : S) (now : ℕ) → leaves q v Wait p now ≡ dropped v q
    pub stop : (q : Levels) (v : ℕ) (p : S) (now : ℕ) → leaves q v Stop p now ≡ entered_again (unread p) v now (dropped v q)
    pub size : (q : Levels) (v : ℕ) (p : S) (now : ℕ) → leaves q v Size p now ≡ entered (blocks p) v now (dropped v q)
    pub preempt : (q : Levels) (v : ℕ) (p : S) (now : ℕ) → leaves q v Preempt p now ≡ q
    pub at_end : (q : Levels) (v : ℕ) (p : S) (now : ℕ) → leaves q v AtEnd p now ≡ q

  -- what a machine owes
  pub record Sized (m : Machine S) (Small : S → Type 0) : Type 0 where
    pub typed : (p : S) (l : Line) → blocks (m.typed p l) ≡ blocks p
    pub opened : (p : S) → blocks (m.opened p) ≡ blocks p
    pub went : (p : S) (t : ℕ) (r : Reply) → m.ending p (clock_for (m.asks_clock p) t) r ≡ Went → blocks (m.step p (clock_for (m.asks_clock p) t) r) ≡ blocks p
    pub small : (p : S) → Small p → blocks p ≤ 128
    pub typed_small : (p : S) (l : Line) → Small p → Small (m.typed p l)
    pub opened_small : (p : S) → Small p → Small (m.opened p)
    pub cut_small : (kind : CutKind) (p : S) → Small p → Small (m.cut kind p)
    pub step_small : (p : S) (t : ℕ) (r : Reply) → Small p → Small (m.step p t r)

  module _ (leave : Leaves) (m : Machine S) (Small : S → Type 0) (sized : Sized m Small) (age quantum users u by : ℕ) (some : 0 < quantum)
      (known : (name : ℕ) (l : Line) (v : ℕ) → check name l ≡ Some v → (1 ≤ v) × (v ≤ users)) where
    abbrev load : ℕ
    load = longest_load swap

    abbrev pub Known : ℕ → Type 0
    Known v = (1 ≤ v) × (v ≤ users)

    abbrev pub Order : Plan → ℕ → Type 0
    Order plan now = InOrder age quantum users now plan.levels

    abbrev pub Waits : Bool → ℕ → Plan → Type 0
    Waits b now plan = Stands age load (wait_at_zero quantum load users) u by b now plan.levels.rows

    -- where nobody rises, before any user has waited for long enough
    early : (q : Levels) (served : Option ℕ) (now : ℕ) → InOrder age quantum users now q → goes_up (riser served now q) ≡ None → served ≢ Some u
        → (k : ℕ) → 0 < age → has u (row_of (suc k) q.rows) ≡ true → now < since_of u (row_of (suc k) q.rows) + age
    early q served now o none out k aged h =
        let is = o.age_is in
        let w = waiting served now u q (omega (arith, is, aged)) none (out-served served u out) k h in
        omega (arith, w, is)

    tick : (q after : Levels) (served : Option ℕ) (now extra : ℕ) (c : Bool) → InOrder age quantum users now q → goes_up (riser served now q) ≡ None → served ≢ Some u
        → Ticks load u extra q.rows after.rows → suc (cond c load 0) ≤ extra
        → Stands age load (wait_at_zero quantum load users) u by false now q.rows → Stands age load (wait_at_zero quantum load users) u by c (suc now) after.rows
    tick q after served now extra c o none out t enough s =
        stands-tick age load (wait_at_zero quantum load users) u by now c q.rows after.rows t.stay
        (λ h. let f = t.first h in omega (arith, f, enough)) (early q served now o none out) s

    full : (c : Bool) → suc (cond c load 0) ≤ suc load
    full true = omega arith
    full false = omega arith

    one : (c : Bool) → c ≡ false → suc (cond c load 0) ≤ 1
    one true e = cc
    one false e = omega arith

    -- the plan after a step
    abbrev after : Plan → ℕ → Option Cause → S → Ending → ℕ → Plan
    after plan v cause p e now = queue_world.gave_up (system.plan_after m queue_world (queue_world.charged plan v now) v cause p now) v p e now

    line_order : (plan : Plan) (x : ℕ) (was p : S) (now : ℕ) → Known x → Order plan now → Order (queue_world.line_came plan x was p now) now
    line_order plan x was p now k o =
        ordered age quantum users now now plan.levels _ (kept-woken (line_blocks was) x now plan.levels) o (good-woken users now (line_blocks was) x plan.levels k o.good)

    cut_order : (plan : Plan) (x : ℕ) (kind : CutKind) (p : S) (now : ℕ) → Order plan now → Order (queue_world.cut_came plan x kind p now) now
    cut_order plan x kind p now o = ordered age quantum users now now plan.levels _ (kept-dropped x plan.levels) o (good-dropped users now x plan.levels o.good)

    preempted_order : (plan : Plan) (x now : ℕ) → Order plan now → Order (queue_world.preempted plan x now) now
    preempted_order plan x now o = ordered age quantum users now now plan.levels _ (kept-preempted x now plan.levels) o (good-preempted users now x plan.levels o.good)

    risen_order : (plan : Plan) (served : Option ℕ) (x l now : ℕ) → queue_world.rises plan served now ≡ Some (x, l) → Order plan now → Order (queue_world.risen plan x l now) now
    risen_order plan served x l now is o =
        ordered age quantum users now now plan.levels _ (kept-risen x l now plan.levels) o (good-risen users now x l served plan.levels is o.good)

    charged_order : (q : Levels) (v now : ℕ) → user_of (chosen q) ≡ Some v → InOrder age quantum users now q → InOrder age quantum users (suc now) (charged v (suc now) q)
    charged_order q v now is o = ordered age quantum users now (suc now) q _ (kept-charged v (suc now) q) o (good-charged users now v q is o.good)

    leaves_order : (q : Levels) (v : ℕ) (cause : Cause) (p : S) (now : ℕ) → Known v → InOrder age quantum users now q → InOrder age quantum users now (leaves q v cause p now)
    leaves_order q v Time p now k o = subst (InOrder age quantum users now) (sym (leave.time q v p now)) o
    leaves_order q v Wait p now k o =
        subst (InOrder age quantum users now) (sym (leave.wait q v p now)) (ordered age quantum users now now q _ (kept-dropped v q) o (good-dropped users now v q o.good))
    leaves_order q v Stop p now k o =
        subst (InOrder age quantum users now) (sym (leave.stop q v p now)) (ordered age quantum users now now q _ (kept-again (unread p) v now q) o (good-again users now v (unread p) q k o.good))
    leaves_order q v Size p now k o =
        subst (InOrder age quantum users now) (sym (leave.size q v p now)) (ordered age quantum users now now q _ (kept-entered (blocks p) v now q) o (good-entered users now (blocks p) v q k o.good))
    leaves_order q v Preempt p now k o = subst (InOrder age quantum users now) (sym (leave.preempt q v p now)) o
    leaves_order q v AtEnd p now k o = subst (InOrder age quantum users now) (sym (leave.at_end q v p now)) o

    step_order : (plan : Plan) (v : ℕ) (cause : Option Cause) (p : S) (e : Ending) (now : ℕ) → queue_world.choose plan ≡ Some v → Order plan now
        → Order (after plan v cause p e (suc now)) (suc now)
    step_order plan v None p e now is o = charged_order plan.levels v now is o
    step_order plan v (Some cause) p e now is o =
        leaves_order (charged v (suc now) plan.levels) v cause p (suc now) (known-chosen users now v plan.levels o.good is) (charged_order plan.levels v now is o)

    -- waits

    line_waits : (plan : Plan) (x : ℕ) (was p : S) (now : ℕ) (b c : Bool)
        → (queue_world.choose (queue_world.line_came plan x was p now) ≡ queue_world.choose plan → b ≡ false → c ≡ false)
        → Waits b now plan → Waits c now (queue_world.line_came plan x was p now)
    unfolding chosen
    line_waits plan x was p now b c flag s =
        stands-moves age load (wait_at_zero quantum load users) u by b c now plan.levels.rows _ (moves-woken load u (line_blocks was) x now plan.levels) flag s

    cut_waits : (plan : Plan) (x : ℕ) (kind : CutKind) (p : S) (now : ℕ) (b c : Bool) → x ≢ u
        → (queue_world.choose (queue_world.cut_came plan x kind p now) ≡ queue_world.choose plan → queue_world.choose plan ≢ Some x → b ≡ false → c ≡ false)
        → Waits b now plan → Waits c now (queue_world.cut_came plan x kind p now)
    unfolding chosen dropped
    cut_waits plan x kind p now b c other flag s = stands-out age load (wait_at_zero quantum load users) u x by b c now plan.levels.rows other flag s

    preempted_waits : (plan : Plan) (x now : ℕ) (b c : Bool) → x ≢ u
        → (queue_world.choose (queue_world.preempted plan x now) ≡ queue_world.choose plan → b ≡ false → c ≡ false)
        → Waits b now plan → Waits c now (queue_world.preempted plan x now)
    unfolding chosen
    preempted_waits plan x now b c other flag s =
        stands-moves age load (wait_at_zero quantum load users) u by b c now plan.levels.rows _ (moves-preempted load u x now plan.levels other) flag s

    own_rise : (q : Levels) (served : Option ℕ) (l now : ℕ) (b c : Bool) → goes_up (riser served now q) ≡ Some (u, l) → InOrder age quantum users now q
        → Stands age load (wait_at_zero quantum load users) u by b now q.rows → Stands age load (wait_at_zero quantum load users) u by c now (risen u l now q).rows
    own_rise q served l now b c is o s =
        let before = subst (λ (a : ℕ). Stands a load (wait_at_zero q.quantum load users) u by b now q.rows) (sym o.age_is)
        (subst (λ (n : ℕ). Stands age load (wait_at_zero n load users) u by b now q.rows) (sym o.quantum_is) s) in
        let later = stands-risen load u by now l users b c served q (subst (λ (n : ℕ). 0 < n) (sym o.quantum_is) some) is o.good before in
        subst (λ (n : ℕ). Stands age load (wait_at_zero n load users) u by c now (risen u l now q).rows) o.quantum_is
        (subst (λ (a : ℕ). Stands a load (wait_at_zero q.quantum load users) u by c now (risen u l now q).rows) o.age_is later)

    risen_waits : (plan : Plan) (served : Option ℕ) (x l now : ℕ) (b c : Bool) → queue_world.rises plan served now ≡ Some (x, l) → Order plan now
        → (queue_world.choose (queue_world.risen plan x l now) ≡ queue_world.choose plan → b ≡ false → c ≡ false)
        → Waits b now plan → Waits c now (queue_world.risen plan x l now)
    unfolding chosen
    risen_waits plan served x l now b c is o flag s =
        elim (eqb_tells x u) [
          | inl e ↦
              let mine : goes_up (riser served now plan.levels) ≡ Some (u, l) = subst (λ (v : ℕ). goes_up (riser served now plan.levels) ≡ Some (v, l)) e.1 is in
              subst (λ (v : ℕ). Stands age load (wait_at_zero quantum load users) u by c now (risen v l now plan.levels).rows) (sym e.1) (own_rise plan.levels served l now b c mine o s)
          | inr e ↦ stands-moves age load (wait_at_zero quantum load users) u by b c now plan.levels.rows _ (moves-risen load u x l now plan.levels e.1) flag s
        ]

    load_waits : (plan : Plan) (served : Option ℕ) (v : ℕ) (p : S) (now more : ℕ) → queue_world.rises plan served now ≡ None → served ≢ Some u → more ≤ load
        → Order plan now → Waits true now plan → Waits false (now + more) (queue_world.load plan v p now)
    load_waits plan served v p now more none out few o s =
        stands-loads age load (wait_at_zero quantum load users) u by now more plan.levels.rows few (early plan.levels served now o none out) s

    -- a step that goes on
    went_waits : (plan : Plan) (served : Option ℕ) (v : ℕ) (p : S) (now : ℕ) (c : Bool) → queue_world.choose plan ≡ Some v → v ≢ u
        → queue_world.rises plan served now ≡ None → served ≢ Some u → Order plan now → Waits false now plan
        → (left : Bool) → has_time plan.levels ≡ left → (cause_of Went left ≡ None → c ≡ false)
        → Waits c (suc now) (after plan v (cause_of Went left) p Went (suc now))
    went_waits plan served v p now c is other none out o s true more flag =
        tick plan.levels (charged v (suc now) plan.levels) served now 1 c o none out (ticks-goes load u v (suc now) plan.levels is other more) (one c (flag refl)) s
    went_waits plan served v p now c is other none out o s false more flag =
        subst (λ (r : Levels). Stands age load (wait_at_zero quantum load users) u by c (suc now) r.rows) (sym (leave.time (charged v (suc now) plan.levels) v p (suc now)))
        (tick plan.levels (charged v (suc now) plan.levels) served now (suc load) c o none out (ticks-time load u v (suc now) plan.levels is other more) (full c) s)

    stop_waits : (plan : Plan) (served : Option ℕ) (v : ℕ) (p : S) (now : ℕ) (c : Bool) → queue_world.choose plan ≡ Some v → v ≢ u
        → queue_world.rises plan served now ≡ None → served ≢ Some u → Order plan now → Waits false now plan
        → Stands age load (wait_at_zero quantum load users) u by c (suc now) (leaves (charged v (suc now) plan.levels) v Stop p (suc now)).rows
    stop_waits plan served v p now c is other none out o s =
        subst (λ (r : Levels). Stands age load (wait_at_zero quantum load users) u by c (suc now) r.rows) (sym (leave.stop (charged v (suc now) plan.levels) v p (suc now)))
        (tick plan.levels (entered_again (unread p) v (suc now) (dropped v (charged v (suc now) plan.levels))) served now (suc load) c o none out (ticks-again load u v (suc now) (unread p) plan.levels is other) (full c) s)

    size_waits : (plan : Plan) (served : Option ℕ) (v : ℕ) (p : S) (now : ℕ) (c : Bool) → queue_world.choose plan ≡ Some v → v ≢ u
        → queue_world.rises plan served now ≡ None → served ≢ Some u → Order plan now → Waits false now plan
        → Stands age load (wait_at_zero quantum load users) u by c (suc now) (leaves (charged v (suc now) plan.levels) v Size p (suc now)).rows
    size_waits plan served v p now c is other none out o s =
        subst (λ (r : Levels). Stands age load (wait_at_zero quantum load users) u by c (suc now) r.rows) (sym (leave.size (charged v (suc now) plan.levels) v p (suc now)))
        (tick plan.levels (entered (blocks p) v (suc now) (dropped v (charged v (suc now) plan.levels))) served now (suc load) c o none out (ticks-entered load u v (suc now) (blocks p) plan.levels is other) (full c) s)

    step_waits : (plan : Plan) (served : Option ℕ) (v : ℕ) (e : Ending) (p : S) (now : ℕ) (c : Bool) → queue_world.choose plan ≡ Some v → v ≢ u
        → queue_world.rises plan served now ≡ None → served ≢ Some u → (cause_of e (queue_world.time_left plan v) ≡ None → c ≡ false)
        → Order plan now → Waits false now plan → Waits c (suc now) (after plan v (cause_of e (queue_world.time_left plan v)) p e (suc now))
    step_waits plan served v Went p now c is other none out flag o s = went_waits plan served v p now c is other none out o s (has_time plan.levels) refl flag
    step_waits plan served v Stopped p now c is other none out flag o s = stop_waits plan served v p now c is other none out o s
    step_waits plan served v Resized p now c is other none out flag o s = size_waits plan served v p now c is other none out o s
    step_waits plan served v Replaced p now c is other none out flag o s = size_waits plan served v p now c is other none out o s
    step_waits plan served v LoggedOut p now c is other none out flag o s = stop_waits plan served v p now c is other none out o s

    wait_waits : (plan : Plan) (served : Option ℕ) (v : ℕ) (p : S) (now : ℕ) (c : Bool) → queue_world.choose plan ≡ Some v → v ≢ u
        → queue_world.rises plan served now ≡ None → served ≢ Some u
        → Order plan now → Waits false now plan → Waits c (suc now) (queue_world.leaves (queue_world.charged plan v (suc now)) v Wait p (suc now))
    wait_waits plan served v p now c is other none out o s =
        subst (λ (r : Levels). Stands age load (wait_at_zero quantum load users) u by c (suc now) r.rows) (sym (leave.wait (charged v (suc now) plan.levels) v p (suc now)))
        (tick plan.levels (dropped v (charged v (suc now) plan.levels)) served now (suc load) c o none out (ticks-leaves load u v (suc now) plan.levels is other) (full c) s)

    some_chosen : (plan : Plan) (b : Bool) (now : ℕ) → Waits b now plan → queue_world.choose plan ≢ None
    unfolding chosen
    some_chosen plan b now (inl f) = some-chosen u 0 plan.levels.rows f.here
    some_chosen plan b now (inr d) = some-chosen u (suc d.below) plan.levels.rows d.here

    same_waits : (plan : Plan) (b c : Bool) (now : ℕ) → (b ≡ false → c ≡ false) → Waits b now plan → Waits c now plan
    same_waits plan b c now flag s =
        stands-moves age load (wait_at_zero quantum load users) u by b c now plan.levels.rows plan.levels.rows (moves-same load u plan.levels.rows) (λ e. flag) s

    pub fair : Fair m queue_world u load by Known Small Order Waits
    fair =
        record {
          typed = λ plan v p l h. subst (λ (n : ℕ). must_load plan v n ≡ false) (sym (sized.typed p l)) h;
          opened = λ plan v p h. subst (λ (n : ℕ). must_load plan v n ≡ false) (sym (sized.opened p)) h;
          went = λ plan v p t r e h. subst (λ (n : ℕ). must_load plan v n ≡ false) (sym (sized.went p t r e)) h;
          charged = λ plan v p q now h. h;
          risen = λ plan v x level q now h. h;
          preempted = λ plan v x q now h. h;
          line = λ plan v x was p q now h. h;
          cut = λ plan v x kind p q now other h. cut_stays (dropped x plan.levels) plan.places v x (blocks q) kind other h;
          loaded = λ plan v p now. ap not (loaded_is plan.places v (blocks p));
          same_choice = λ plan v p now. refl;
          goes_same = λ plan v p now is more. chosen-goes v now plan.levels more ∙ is;
          typed_small = sized.typed_small;
          opened_small = sized.opened_small;
          cut_small = sized.cut_small;
          step_small = sized.step_small;
          costs = λ plan v p small. moves_few swap plan.places v (blocks p) (sized.small p small);
          checked = known;
          later_order = λ plan now later le o. record { age_is = o.age_is; quantum_is = o.quantum_is; good = fit-later users plan.levels.quantum now later plan.levels.rows le o.good };
          load_order = λ plan v p now later o. o;
          line_order = line_order;
          cut_order = cut_order;
          preempted_order = preempted_order;
          risen_order = risen_order;
          step_order = step_order;
          wait_order = λ plan v p now is o.
              leaves_order (charged v (suc now) plan.levels) v Wait p (suc now) (known-chosen users now v plan.levels o.good is) (charged_order plan.levels v now is o);
          same_waits = same_waits;
          chosen = some_chosen;
          now_waits = λ plan b now s. stands-now age load (wait_at_zero quantum load users) u by b now plan.levels.rows (omega arith) s;
          line_waits = line_waits;
          cut_waits = cut_waits;
          preempted_waits = preempted_waits;
          risen_waits = risen_waits;
          load_waits = load_waits;
          step_waits = step_waits;
          wait_waits = wait_waits;
        }
