-- A wait in the machine of all users: each step keeps the tick by which a user that waits is served.
use Rattle.std.proofs.Common.{◌≡◌, ◌≢◌, ℕ, zero, suc, ◌+◌, ◌<◌, ◌≤◌, Bool, true, false, if◌then◌else◌}
use Rattle.std.proofs.Common.{nat_eq, nat_lt, nat_le, List, [], ◌∷◌, ◌++◌, Option, Some, None, ◌⊎◌, inl, inr}
use Rattle.std.proofs.Common.{refl, sym, ap, subst, ◌∙◌, arith, ltb-true, ltb-false, leb-false, eq-eqb, append-nil, append_assoc, replicate}
use Rattle.std.proofs.lemmas.Bool.Decides.{eqb_tells}
use Rattle.time_sharing.specs.Machine.{Machine, Line, CutKind, Quit, Hang, Spent, End, CommonOp, Reply}
use Rattle.time_sharing.specs.Machine.{Ending, Went, Stopped, Resized, Replaced, LoggedOut}
use Rattle.time_sharing.specs.System as system
use Rattle.time_sharing.specs.System.{SystemState, World, Timed, Service, Console, Off, On, Password, Session, Cause}
use Rattle.time_sharing.specs.System.{Dials, Types, Quits, Hangs, LineTaken, DialTaken, Stop, Preempt, AtEnd}
use Rattle.time_sharing.specs.System.{Wait as WaitCause}
use Rattle.time_sharing.specs.System.{Entry, Taken, Login, Refused, Idle, Swap, Rise, Serve, Clock, Common}
use Rattle.time_sharing.specs.System.{at, put, without, state_of, next, next_tick, cause_of, clock_for, served_of}
use Rattle.time_sharing.specs.System.{clock_entry, common_entry, service_after, service_entry, consoles_after}
use Rattle.time_sharing.specs.Repeat.{repeat}
use Rattle.time_sharing.specs.Record.{clock_is_below, iterate, measure, must_load_of, start, Ends}
use Rattle.time_sharing.proofs.RepeatLaws as laws
use Rattle.time_sharing.proofs.Ending as ending
use Rattle.time_sharing.specs.Feeds.{ran_of}
use Rattle.time_sharing.proofs.Tables.{at-put_other, put_was, without_was}
use Rattle.record_laws.proofs.Cover.{same_service, put_keeps, goes_on_went}
use Rattle.fair_laws.specs.Served.{ticks_in, ticks_of, cuts_in}

-- parts

put_all : {S : Type 0} (Q : S → Type 0) (d : S) (xs : List S) (u v : ℕ) (a : S) → Q (at d xs v) → Q a → Q (at d (put xs u a) v)
put_all Q d xs u v a h k = put_keeps Q d xs u v a h (λ e. k)

pub ticks-append : (u : ℕ) (es fs : List Entry) → ticks_in u (es ++ fs) ≡ ticks_in u es + ticks_in u fs
ticks-append u [] fs = omega arith
ticks-append u (Serve tick v level ran cause ∷ es) fs = let h = ticks-append u es fs in omega (arith, h)
ticks-append u (Taken a b c d e ∷ es) fs = ticks-append u es fs
ticks-append u (_ ∷ es) fs = ticks-append u es fs

pub cuts-append : (u : ℕ) (es fs : List Entry) → cuts_in u (es ++ fs) ≡ cuts_in u es + cuts_in u fs
cuts-append u [] fs = omega arith
cuts-append u (Taken tick console kind v own ∷ es) fs = let h = cuts-append u es fs in omega (arith, h)
cuts-append u (Serve a b c d e ∷ es) fs = cuts-append u es fs
cuts-append u (_ ∷ es) fs = cuts-append u es fs

-- entries are added at the end
abbrev pub Grows : List Entry → List Entry → Type 0
Grows es fs = (more : List Entry) × (fs ≡ es ++ more)

grows-same : (es : List Entry) → Grows es es
grows-same es = ([], sym (append-nil es))

grows-then : (a b c : List Entry) → Grows a b → Grows b c → Grows a c
grows-then a b c f g = (f.0 ++ g.0, g.1 ∙ ap (λ z. z ++ g.0) f.1 ∙ append_assoc a f.0 g.0)

no_fewer_ticks : (u : ℕ) (es fs : List Entry) → Grows es fs → ticks_in u es ≤ ticks_in u fs
no_fewer_ticks u es fs g = let a = ticks-append u es g.0 in let e = ap (ticks_in u) g.1 in omega (arith, a, e)

no_fewer_cuts : (u : ℕ) (es fs : List Entry) → Grows es fs → cuts_in u es ≤ cuts_in u fs
no_fewer_cuts u es fs g = let a = cuts-append u es g.0 in let e = ap (cuts_in u) g.1 in omega (arith, a, e)

-- a quit, a hang and a spent session each cut their user off
one_cut : (kind : CutKind) (tick c x own u : ℕ) → nat_eq x u ≡ true → cuts_in u (Taken tick c (system.kind_of kind) x own ∷ []) ≡ 1
one_cut Quit tick c x own u e = rw e refl
one_cut Hang tick c x own u e = rw e refl
one_cut Spent tick c x own u e = rw e refl
one_cut End tick c x own u e = rw e refl

-- the entries of a step before the end of its service are of no service
pub before_service : (u : ℕ) (b : Bool) (t v : ℕ) (c : Option CommonOp) (r : Reply) (more : List Entry)
    → ticks_in u (clock_entry b t v ++ (common_entry c v r ++ more)) ≡ ticks_in u more
before_service u false t v None r more = refl
before_service u false t v (Some op) r more = refl
before_service u true t v None r more = refl
before_service u true t v (Some op) r more = refl

not_ran : (u : ℕ) (o : Option Service) → ((v : Service) → o ≡ Some v → v.user ≢ u) → ran_of u o ≡ 0
not_ran u None h = refl
not_ran u (Some v) h = elim (eqb_tells v.user u) [ inl e ↦ absurd (h v refl e.1) | inr e ↦ rw e.0 refl ]

not_served : (u : ℕ) (o : Option Service) → ((v : Service) → o ≡ Some v → v.user ≢ u) → served_of o ≢ Some u
not_served u None h e = cc
not_served u (Some v) h e = h v refl (cc e)

module _ {S P F : Type 0} (m : Machine S) (w : World S P F) (u load by : ℕ) (Known : ℕ → Type 0) (Small : S → Type 0)
    (Order : P → ℕ → Type 0) (Waits : Bool → ℕ → P → Type 0) where
  -- what the plan after a step is
  abbrev plan_after : P → ℕ → Option Cause → S → Ending → ℕ → P
  plan_after plan v cause p e now = w.gave_up (system.plan_after m w (w.charged plan v now) v cause p now) v p e now

  -- What a machine and a world owe: a user that is loaded stays so, but for its own steps that end a service and its own cuts; the
  -- order of the queues is kept; a user that waits does so by the same tick, but for its own step and its own cut.
  pub record Fair : Type 0 where
    pub typed : (plan : P) (v : ℕ) (p : S) (l : Line) → w.must_load plan v p ≡ false → w.must_load plan v (m.typed p l) ≡ false
    pub opened : (plan : P) (v : ℕ) (p : S) → w.must_load plan v p ≡ false → w.must_load plan v (m.opened p) ≡ false
    pub went : (plan : P) (v : ℕ) (p : S) (t : ℕ) (r : Reply) → m.ending p (clock_for (m.asks_clock p) t) r ≡ Went
        → w.must_load plan v p ≡ false → w.must_load plan v (m.step p (clock_for (m.asks_clock p) t) r) ≡ false
    pub charged : (plan : P) (v : ℕ) (p q : S) (now : ℕ) → w.must_load plan v q ≡ false
        → w.must_load (w.gave_up (w.charged plan v now) v p Went now) v q ≡ false
    pub risen : (plan : P) (v x level : ℕ) (q : S) (now : ℕ) → w.must_load plan v q ≡ false → w.must_load (w.risen plan x level now) v q ≡ false
    pub preempted : (plan : P) (v x : ℕ) (q : S) (now : ℕ) → w.must_load plan v q ≡ false → w.must_load (w.preempted plan x now) v q ≡ false
    pub line : (plan : P) (v x : ℕ) (was p q : S) (now : ℕ) → w.must_load plan v q ≡ false → w.must_load (w.line_came plan x was p now) v q ≡ false
    pub cut : (plan : P) (v x : ℕ) (kind : CutKind) (p q : S) (now : ℕ) → v ≢ x → w.must_load plan v q ≡ false
        → w.must_load (w.cut_came plan x kind p now) v q ≡ false
    pub loaded : (plan : P) (v : ℕ) (p : S) (now : ℕ) → w.must_load (w.load plan v p now) v p ≡ false
    pub same_choice : (plan : P) (v : ℕ) (p : S) (now : ℕ) → w.choose (w.load plan v p now) ≡ w.choose plan
    pub goes_same : (plan : P) (v : ℕ) (p : S) (now : ℕ) → w.choose plan ≡ Some v → w.time_left plan v ≡ true
        → w.choose (plan_after plan v None p Went now) ≡ Some v
    -- users' sizes, and what loads cost
    pub typed_small : (p : S) (l : Line) → Small p → Small (m.typed p l)
    pub opened_small : (p : S) → Small p → Small (m.opened p)
    pub cut_small : (kind : CutKind) (p : S) → Small p → Small (m.cut kind p)
    pub step_small : (p : S) (t : ℕ) (r : Reply) → Small p → Small (m.step p t r)
    pub costs : (plan : P) (v : ℕ) (p : S) → Small p → (w.move plan v p).ticks ≤ load
    -- users
    pub checked : (name : ℕ) (l : Line) (v : ℕ) → w.check name l ≡ Some v → Known v
    -- order
    pub later_order : (plan : P) (now later : ℕ) → now ≤ later → Order plan now → Order plan later
    pub load_order : (plan : P) (v : ℕ) (p : S) (now later : ℕ) → Order plan later → Order (w.load plan v p now) later
    pub line_order : (plan : P) (x : ℕ) (was p : S) (now : ℕ) → Known x → Order plan now → Order (w.line_came plan x was p now) now
    pub cut_order : (plan : P) (x : ℕ) (kind : CutKind) (p : S) (now : ℕ) → Order plan now → Order (w.cut_came plan x kind p now) now
    pub preempted_order : (plan : P) (x now : ℕ) → Order plan now → Order (w.preempted plan x now) now
    pub risen_order : (plan : P) (served : Option ℕ) (x l now : ℕ) → w.rises plan served now ≡ Some (x, l) → Order plan now → Order (w.risen plan x l now) now
    pub step_order : (plan : P) (v : ℕ) (cause : Option Cause) (p : S) (e : Ending) (now : ℕ) → w.choose plan ≡ Some v → Order plan now
        → Order (plan_after plan v cause p e (suc now)) (suc now)
    pub wait_order : (plan : P) (v : ℕ) (p : S) (now : ℕ) → w.choose plan ≡ Some v → Order plan now
        → Order (w.leaves (w.charged plan v (suc now)) v WaitCause p (suc now)) (suc now)
    -- waits
    pub same_waits : (plan : P) (b c : Bool) (now : ℕ) → (b ≡ false → c ≡ false) → Waits b now plan → Waits c now plan
    pub chosen : (plan : P) (b : Bool) (now : ℕ) → Waits b now plan → w.choose plan ≢ None
    pub now_waits : (plan : P) (b : Bool) (now : ℕ) → Waits b now plan → now < by
    pub line_waits : (plan : P) (x : ℕ) (was p : S) (now : ℕ) (b c : Bool)
        → (w.choose (w.line_came plan x was p now) ≡ w.choose plan → b ≡ false → c ≡ false)
        → Waits b now plan → Waits c now (w.line_came plan x was p now)
    pub cut_waits : (plan : P) (x : ℕ) (kind : CutKind) (p : S) (now : ℕ) (b c : Bool) → x ≢ u
        → (w.choose (w.cut_came plan x kind p now) ≡ w.choose plan → w.choose plan ≢ Some x → b ≡ false → c ≡ false)
        → Waits b now plan → Waits c now (w.cut_came plan x kind p now)
    pub preempted_waits : (plan : P) (x now : ℕ) (b c : Bool) → x ≢ u
        → (w.choose (w.preempted plan x now) ≡ w.choose plan → b ≡ false → c ≡ false)
        → Waits b now plan → Waits c now (w.preempted plan x now)
    pub risen_waits : (plan : P) (served : Option ℕ) (x l now : ℕ) (b c : Bool) → w.rises plan served now ≡ Some (x, l) → Order plan now
        → (w.choose (w.risen plan x l now) ≡ w.choose plan → b ≡ false → c ≡ false)
        → Waits b now plan → Waits c now (w.risen plan x l now)
    pub load_waits : (plan : P) (served : Option ℕ) (v : ℕ) (p : S) (now more : ℕ) → w.rises plan served now ≡ None → served ≢ Some u → more ≤ load
        → Order plan now → Waits true now plan → Waits false (now + more) (w.load plan v p now)
    pub step_waits : (plan : P) (served : Option ℕ) (v : ℕ) (e : Ending) (p : S) (now : ℕ) (c : Bool) → w.choose plan ≡ Some v → v ≢ u
        → w.rises plan served now ≡ None → served ≢ Some u → (cause_of e (w.time_left plan v) ≡ None → c ≡ false)
        → Order plan now → Waits false now plan → Waits c (suc now) (plan_after plan v (cause_of e (w.time_left plan v)) p e (suc now))
    pub wait_waits : (plan : P) (served : Option ℕ) (v : ℕ) (p : S) (now : ℕ) (c : Bool) → w.choose plan ≡ Some v → v ≢ u
        → w.rises plan served now ≡ None → served ≢ Some u
        → Order plan now → Waits false now plan → Waits c (suc now) (w.leaves (w.charged plan v (suc now)) v WaitCause p (suc now))

  -- whether the chosen user has to be loaded
  abbrev must_of : SystemState S P F → Bool
  must_of s = must_load_of m w (w.choose s.plan) s

  -- what holds at each moment
  pub record Sound (s : SystemState S P F) : Type 0 where
    pub order : Order s.plan s.clock
    pub sits : (k v : ℕ) → at Off s.consoles k ≡ Session v → Known v
    pub small : (k : ℕ) → Small (state_of m w s k)

  -- a user waits
  pub record Waiting (s : SystemState S P F) : Type 0 where
    pub out : (v : Service) → s.service ≡ Some v → v.user ≢ u
    pub waits : Waits (must_of s) s.clock s.plan

  -- a move that takes no tick
  record Calm (s t : SystemState S P F) : Type 0 where
    clock : t.clock ≡ s.clock
    sound : Sound s → Sound t
    grows : Grows s.entries t.entries
    waiting : Sound s → Waiting s → (cuts_in u s.entries < cuts_in u t.entries) ⊎ Waiting t

  -- and keeps a user waiting
  record Still (s t : SystemState S P F) : Type 0 where
    clock : t.clock ≡ s.clock
    sound : Sound s → Sound t
    grows : Grows s.entries t.entries
    waiting : Waiting s → Waiting t

  still-calm : (s t : SystemState S P F) → Still s t → Calm s t
  still-calm s t f = record { clock = f.clock; sound = f.sound; grows = f.grows; waiting = λ i x. inr (f.waiting x) }

  still-then : (s t z : SystemState S P F) → Still s t → Calm t z → Calm s z
  still-then s t z f g =
      record {
        clock = g.clock ∙ f.clock;
        sound = λ i. g.sound (f.sound i);
        grows = grows-then s.entries t.entries z.entries f.grows g.grows;
        waiting = λ i x. elim (g.waiting (f.sound i) (f.waiting x)) [
          | inl e ↦ let c = no_fewer_cuts u s.entries t.entries f.grows in inl (omega (arith, c, e))
          | inr y ↦ inr y
        ];
      }

  -- a user that needed no load still needs none
  flag : (s t : SystemState S P F)
      → ((h : ℕ) → w.must_load s.plan h (state_of m w s h) ≡ false → w.must_load t.plan h (state_of m w t h) ≡ false)
      → w.choose t.plan ≡ w.choose s.plan → must_of s ≡ false → must_of t ≡ false
  flag s t keeps same e = by_choice (w.choose s.plan) same e
    where
      by_choice : (o : Option ℕ) → w.choose t.plan ≡ o → must_load_of m w o s ≡ false → must_of t ≡ false
      by_choice None is e = ap (λ (x : Option ℕ). must_load_of m w x t) is
      by_choice (Some h) is e = ap (λ (x : Option ℕ). must_load_of m w x t) is ∙ keeps h e

  -- but for one user, which isn't chosen
  flag_but : (s t : SystemState S P F) (x : ℕ)
      → ((h : ℕ) → h ≢ x → w.must_load s.plan h (state_of m w s h) ≡ false → w.must_load t.plan h (state_of m w t h) ≡ false)
      → w.choose t.plan ≡ w.choose s.plan → w.choose s.plan ≢ Some x → must_of s ≡ false → must_of t ≡ false
  flag_but s t x keeps same other e = by_choice (w.choose s.plan) refl same e
    where
      by_choice : (o : Option ℕ) → w.choose s.plan ≡ o → w.choose t.plan ≡ o → must_load_of m w o s ≡ false → must_of t ≡ false
      by_choice None was is e = ap (λ (x : Option ℕ). must_load_of m w x t) is
      by_choice (Some h) was is e = ap (λ (x : Option ℕ). must_load_of m w x t) is ∙ keeps h (λ q. other (was ∙ ap Some q)) e

  as_user : (s : SystemState S P F) (a v : ℕ) → a ≡ v → w.must_load s.plan v (state_of m w s v) ≡ false → w.must_load s.plan v (state_of m w s a) ≡ false
  as_user s a v same h = subst (λ (x : ℕ). w.must_load s.plan v (state_of m w s x) ≡ false) (sym same) h

  module _ (fair : Fair) where
    -- nothing but the consoles, the entries and the service, which is as it was or over
    still-same : (s t : SystemState S P F) → t.clock ≡ s.clock → t.plan ≡ s.plan → t.users ≡ s.users
        → ((v : Service) → t.service ≡ Some v → s.service ≡ Some v)
        → Grows s.entries t.entries → ((k v : ℕ) → at Off t.consoles k ≡ Session v → Sound s → Known v) → Still s t
    still-same s t clock plan users service grows sits =
        record {
          clock = clock;
          sound = λ i.
              record {
                order = subst (λ (q : P). Order q t.clock) (sym plan) (subst (λ (n : ℕ). Order s.plan n) (sym clock) i.order);
                sits = λ k v e. sits k v e i;
                small = λ k. subst (λ (ps : List S). Small (at w.nobody ps k)) (sym users) (i.small k);
              };
          grows = grows;
          waiting = λ x.
              let keeps : (h : ℕ) → w.must_load s.plan h (state_of m w s h) ≡ false → w.must_load t.plan h (state_of m w t h) ≡ false =
              λ h e. subst (λ (q : P). w.must_load q h (state_of m w t h) ≡ false) (sym plan)
              (subst (λ (ps : List S). w.must_load s.plan h (at w.nobody ps h) ≡ false) (sym users) e) in
              let z = fair.same_waits s.plan (must_of s) (must_of t) s.clock (flag s t keeps (ap w.choose plan)) x.waits in
              record {
                out = λ v e. x.out v (service v e);
                waits = subst (λ (q : P). Waits (must_of t) t.clock q) (sym plan) (subst (λ (n : ℕ). Waits (must_of t) n s.plan) (sym clock) z);
              };
        }

    heard_calm : (s : SystemState S P F) (c : ℕ) (kind : system.EventKind) (now : Console) (more : List Entry)
        → ((v : ℕ) → now ≡ Session v → Known v) → Calm s (system.heard m w c kind now more s)
    heard_calm s c kind now more known =
        still-calm s (system.heard m w c kind now more s)
        (still-same s (system.heard m w c kind now more s) refl refl refl (λ v e. e) (Taken s.clock c kind 0 0 ∷ more, refl)
        (λ k v e i. elim (put_was Off s.consoles c k now (Session v) e) [ inl p ↦ known v p | inr p ↦ i.sits k v p ]))

    -- a user's state is changed, and loaded users stay loaded
    opens_calm : (s : SystemState S P F) (c x : ℕ) → Known x → Calm s (system.opens m w c x s)
    opens_calm s c x known =
        let t = system.opens m w c x s in
        record {
          clock = refl;
          sound = λ i.
              record {
                order = i.order;
                sits = λ k v e. elim (put_was Off s.consoles c k (Session x) (Session v) e) [ inl p ↦ subst Known (cc p) known | inr p ↦ i.sits k v p ];
                small = λ k. put_all Small w.nobody s.users x k _ (i.small k) (fair.opened_small (state_of m w s x) (i.small x));
              };
          grows = (Taken s.clock c LineTaken 0 0 ∷ Login s.clock c x ∷ [], refl);
          waiting = λ i y.
              let keeps : (h : ℕ) → w.must_load s.plan h (state_of m w s h) ≡ false → w.must_load t.plan h (state_of m w t h) ≡ false =
              λ h e. put_keeps (λ (p : S). w.must_load s.plan h p ≡ false) w.nobody s.users x h _ e
              (λ same. fair.opened s.plan h (state_of m w s x) (as_user s x h same e)) in
              inr (record { out = y.out; waits = fair.same_waits s.plan (must_of s) (must_of t) s.clock (flag s t keeps refl) y.waits });
        }

    line_calm : (s : SystemState S P F) (c x : ℕ) (l : Line) → (Sound s → Known x) → Calm s (system.line_at m w c x l s)
    line_calm s c x l known =
        let t = system.line_at m w c x l s in
        let p = state_of m w s x in
        record {
          clock = refl;
          sound = λ i.
              record {
                order = fair.line_order s.plan x p (m.typed p l) s.clock (known i) i.order;
                sits = i.sits;
                small = λ k. put_all Small w.nobody s.users x k _ (i.small k) (fair.typed_small p l (i.small x));
              };
          grows = (Taken s.clock c LineTaken x (m.own p) ∷ [], refl);
          waiting = λ i y.
              let keeps : (h : ℕ) → w.must_load s.plan h (state_of m w s h) ≡ false → w.must_load t.plan h (state_of m w t h) ≡ false =
              λ h e. fair.line s.plan h x p (m.typed p l) _ s.clock
              (put_keeps (λ (q : S). w.must_load s.plan h q ≡ false) w.nobody s.users x h (m.typed p l) e
              (λ same. fair.typed s.plan h p l (as_user s x h same e))) in
              inr (record { out = y.out; waits = fair.line_waits s.plan x p (m.typed p l) s.clock (must_of s) (must_of t) (flag s t keeps) y.waits });
        }

    cut_calm : (s : SystemState S P F) (kind : CutKind) (c x : ℕ) → Calm s (system.cut_at m w kind c x s)
    cut_calm s kind c x =
        let t = system.cut_at m w kind c x s in
        let p = state_of m w s x in
        record {
          clock = refl;
          sound = λ i.
              record {
                order = fair.cut_order s.plan x kind p s.clock i.order;
                sits = λ k v e. seats kind k v e i;
                small = λ k. put_all Small w.nobody s.users x k _ (i.small k) (fair.cut_small kind p (i.small x));
              };
          grows = (Taken s.clock c (system.kind_of kind) x (m.own p) ∷ [], refl);
          waiting = λ i y.
              elim (eqb_tells x u) [
                | inl q ↦
                    let one = one_cut kind s.clock c x (m.own p) u q.0 in
                    let more = cuts-append u s.entries (Taken s.clock c (system.kind_of kind) x (m.own p) ∷ []) in
                    inl (omega (arith, one, more))
                | inr q ↦
                    let keeps : (h : ℕ) → h ≢ x → w.must_load s.plan h (state_of m w s h) ≡ false → w.must_load t.plan h (state_of m w t h) ≡ false =
                    λ h other e. fair.cut s.plan h x kind p _ s.clock other
                    (subst (λ (z : S). w.must_load s.plan h z ≡ false) (sym (at-put_other w.nobody s.users x h (m.cut kind p) other)) e) in
                    inr (record { out = y.out; waits = fair.cut_waits s.plan x kind p s.clock (must_of s) (must_of t) q.1 (flag_but s t x keeps) y.waits })
              ];
        }
      where
        seats : (kind : CutKind) (k v : ℕ) → at Off (system.consoles_cut kind c x s.consoles) k ≡ Session v → Sound s → Known v
        seats Quit k v e i = i.sits k v e
        seats Hang k v e i =
            elim (put_was Off (without x s.consoles) c k Off (Session v) e) [ inl q ↦ cc | inr q ↦ i.sits k v (without_was x s.consoles k v q).0 ]
        seats Spent k v e i = i.sits k v (without_was x s.consoles k v e).0
        seats End k v e i = i.sits k v e

    -- a user's service ends
    stop_still : (s : SystemState S P F) (x : ℕ) (o : Option Service) → Still s (system.stop_served_of m w o x s)
    stop_still s x None = still-same s s refl refl refl (λ v e. e) (grows-same s.entries) (λ k v e i. i.sits k v e)
    stop_still s x (Some v) =
        elim (nat_eq v.user x) as (λ b. Still s (if b then system.end_service m w Stop v s else s)) [
          | true ↦ still-same s (system.end_service m w Stop v s) refl refl refl (λ z e. cc) (_, refl) (λ k z e i. i.sits k z e)
          | false ↦ still-same s s refl refl refl (λ z e. e) (grows-same s.entries) (λ k z e i. i.sits k z e)
        ]

    stopped_calm : (s : SystemState S P F) (kind : CutKind) (c x : ℕ) → Calm s (system.cut_at m w kind c x (system.stop_served m w x s))
    stopped_calm s kind c x =
        still-then s (system.stop_served m w x s) _ (stop_still s x s.service) (cut_calm (system.stop_served m w x s) kind c x)

    -- an event

    console_calm : (c : ℕ) (console : Console) (event : system.Event) (s : SystemState S P F) → at Off s.consoles c ≡ console
        → Calm s (system.at_console m w c console event s)
    console_calm c Off Dials s is = heard_calm s c _ _ [] (λ v e. cc)
    console_calm c Off (Types l) s is = heard_calm s c _ _ [] (λ v e. cc)
    console_calm c Off Quits s is = heard_calm s c _ _ [] (λ v e. cc)
    console_calm c Off Hangs s is = heard_calm s c _ _ [] (λ v e. cc)
    console_calm c On Dials s is = heard_calm s c _ _ [] (λ v e. cc)
    console_calm c On (Types l) s is =
        elim (w.asked l) as (λ n. Calm s (system.asks_in m w c n s)) [
          | None ↦ heard_calm s c _ _ (Refused s.clock c 1 ∷ []) (λ v e. cc)
          | Some n ↦ heard_calm s c _ _ [] (λ v e. cc)
        ]
    console_calm c On Quits s is = heard_calm s c _ _ [] (λ v e. cc)
    console_calm c On Hangs s is = heard_calm s c _ _ [] (λ v e. cc)
    console_calm c (Password name) Dials s is = heard_calm s c _ _ [] (λ v e. cc)
    console_calm c (Password name) (Types l) s is = by_check (w.check name l) refl
      where
        by_check : (o : Option ℕ) → w.check name l ≡ o → Calm s (system.logs_in m w c o s)
        by_check None e = heard_calm s c _ _ (Refused s.clock c 1 ∷ []) (λ v e. cc)
        by_check (Some v) e =
            elim (m.is_open (state_of m w s v))
            as (λ b. Calm s (if b then system.heard m w c LineTaken On (Refused s.clock c 2 ∷ []) s else system.opens m w c v s)) [
              | true ↦ heard_calm s c _ _ (Refused s.clock c 2 ∷ []) (λ v e. cc)
              | false ↦ opens_calm s c v (fair.checked name l v e)
            ]
    console_calm c (Password name) Quits s is = heard_calm s c _ _ [] (λ v e. cc)
    console_calm c (Password name) Hangs s is = heard_calm s c _ _ [] (λ v e. cc)
    console_calm c (Session x) Dials s is =
        let t = system.noted m w (Taken s.clock c DialTaken x (m.own (state_of m w s x)) ∷ []) s in
        still-calm s t (still-same s t refl refl refl (λ v e. e) (_, refl) (λ k v e i. i.sits k v e))
    console_calm c (Session x) (Types l) s is =
        elim (nat_lt (m.lines (state_of m w s x)) system.max_lines)
        as (λ b. Calm s (if b then system.line_at m w c x l s else system.cut_at m w Spent c x (system.stop_served m w x s))) [
          | true ↦ line_calm s c x l (λ i. i.sits c x is)
          | false ↦ stopped_calm s Spent c x
        ]
    console_calm c (Session x) Quits s is = stopped_calm s Quit c x
    console_calm c (Session x) Hangs s is = stopped_calm s Hang c x

    idling_still : (s : SystemState S P F) (rest : List Timed) (o : Option ℕ) → Still s (system.end_idling_of m w o (record s { events = rest }))
    idling_still s rest None = still-same s (record s { events = rest }) refl refl refl (λ v e. e) (grows-same s.entries) (λ k v e i. i.sits k v e)
    idling_still s rest (Some from) =
        still-same s (system.end_idling_of m w (Some from) (record s { events = rest })) refl refl refl (λ v e. e) (_, refl) (λ k v e i. i.sits k v e)

    taken_calm : (e : Timed) (rest : List Timed) (s : SystemState S P F) → Calm s (system.taken m w e rest s)
    taken_calm e rest s =
        let t = system.end_idling_of m w s.idling (record s { events = rest }) in
        still-then s t _ (idling_still s rest s.idling) (console_calm e.console (at Off t.consoles e.console) e.event t refl)

    -- a rise, and a preemption

    rise_calm : (x l : ℕ) (s : SystemState S P F) → w.rises s.plan (served_of s.service) s.clock ≡ Some (x, l) → Calm s (system.rise m w x l s)
    rise_calm x l s is =
        let t = system.rise m w x l s in
        record {
          clock = refl;
          sound = λ i. record { order = fair.risen_order s.plan (served_of s.service) x l s.clock is i.order; sits = i.sits; small = i.small };
          grows = (_, refl);
          waiting = λ i y.
              let keeps : (h : ℕ) → w.must_load s.plan h (state_of m w s h) ≡ false → w.must_load t.plan h (state_of m w t h) ≡ false =
              λ h e. fair.risen s.plan h x l (state_of m w s h) s.clock e in
              inr (record { out = y.out; waits = fair.risen_waits s.plan (served_of s.service) x l s.clock (must_of s) (must_of t) is i.order (flag s t keeps) y.waits });
        }

    preempt_calm : (v : Service) (s : SystemState S P F) → s.service ≡ Some v → Calm s (system.preempt m w v s)
    preempt_calm v s is =
        let t = system.preempt m w v s in
        record {
          clock = refl;
          sound = λ i. record { order = fair.preempted_order s.plan v.user s.clock i.order; sits = i.sits; small = i.small };
          grows = (_, refl);
          waiting = λ i y.
              let keeps : (h : ℕ) → w.must_load s.plan h (state_of m w s h) ≡ false → w.must_load t.plan h (state_of m w t h) ≡ false =
              λ h e. fair.preempted s.plan h v.user (state_of m w s h) s.clock e in
              inr (record { out = λ z e. cc; waits = fair.preempted_waits s.plan v.user s.clock (must_of s) (must_of t) (y.out v is) (flag s t keeps) y.waits });
        }

    -- what a step may come to, while a user waits: it had a tick, it was cut off, or it waits on
    abbrev Goes : SystemState S P F → SystemState S P F → Type 0
    Goes s t =
        ((ticks_of u s < ticks_of u t) × (t.clock ≤ by))
        ⊎ (((cuts_in u s.entries < cuts_in u t.entries) × (t.clock ≤ by)) ⊎ (Waiting t × Grows s.entries t.entries))

    pub record Steps (s t : SystemState S P F) : Type 0 where
      pub sound : Sound s → Sound t
      pub goes : Sound s → Waiting s → Goes s t

    calm_steps : (s t : SystemState S P F) → Calm s t → Steps s t
    calm_steps s t f =
        record {
          sound = f.sound;
          goes = λ i x. elim (f.waiting i x) [
            | inl e ↦ inr (inl (e, (let n = fair.now_waits s.plan (must_of s) s.clock x.waits in let c = f.clock in omega (arith, n, c))))
            | inr y ↦ inr (inr (y, f.grows))
          ];
        }

    -- a load
    swapped_steps : (x : ℕ) (s : SystemState S P F) → w.choose s.plan ≡ Some x → w.must_load s.plan x (state_of m w s x) ≡ true
        → w.rises s.plan (served_of s.service) s.clock ≡ None → Steps s (system.swapped m w x s)
    swapped_steps x s is must none =
        let t = system.swapped m w x s in
        let p = state_of m w s x in
        let more : ℕ = (w.move s.plan x p).ticks in
        record {
          sound = λ i.
              record {
                order = fair.load_order s.plan x p s.clock (s.clock + more) (fair.later_order s.plan s.clock (s.clock + more) (omega arith) i.order);
                sits = i.sits;
                small = i.small;
              };
          goes = λ i y.
              let was : must_of s ≡ true = ap (λ (o : Option ℕ). must_load_of m w o s) is ∙ must in
              let now : must_of t ≡ false = ap (λ (o : Option ℕ). must_load_of m w o t) (fair.same_choice s.plan x p s.clock ∙ is) ∙ fair.loaded s.plan x p s.clock in
              let waits = subst (λ (b : Bool). Waits b s.clock s.plan) was y.waits in
              let after = fair.load_waits s.plan (served_of s.service) x p s.clock more none (not_served u s.service y.out) (fair.costs s.plan x p (i.small x)) i.order waits in
              inr (inr (record { out = y.out; waits = subst (λ (b : Bool). Waits b t.clock t.plan) (sym now) after }, (_, refl)));
        }

    -- a tick

    served_more : (v : Service) (cause : Option Cause) → v.user ≡ u → 0 < ticks_in u (service_entry v cause) + ran_of u (service_after v cause)
    served_more v None is = rw (eq-eqb v.user u is) (omega arith)
    served_more v (Some cause) is = rw (eq-eqb v.user u is) (omega arith)

    goes_on_left : (e : Ending) (left : Bool) → cause_of e left ≡ None → left ≡ true
    goes_on_left Went true h = refl
    goes_on_left Went false h = cc
    goes_on_left Stopped left h = cc
    goes_on_left Resized left h = cc
    goes_on_left Replaced left h = cc
    goes_on_left LoggedOut left h = cc

    other_after : (v : Service) (cause : Option Cause) → v.user ≢ u → (z : Service) → service_after v cause ≡ Some z → z.user ≢ u
    other_after v None other z e = subst (λ (x : Service). x.user ≢ u) (same_service (record v { ran = suc v.ran }) z e) other
    other_after v (Some cause) other z e = cc

    goes_steps : (v : Service) (s : SystemState S P F) → w.choose s.plan ≡ Some v.user → w.must_load s.plan v.user (state_of m w s v.user) ≡ false
        → w.rises s.plan (served_of s.service) s.clock ≡ None → Steps s (system.goes m w v (state_of m w s v.user) s)
    goes_steps v s is must none =
        record {
          sound = λ i.
              record {
                order = fair.step_order s.plan v.user cause q e s.clock is i.order;
                sits = λ k x h. seats e k x h i;
                small = λ k. put_all Small w.nobody s.users v.user k q (i.small k) (fair.step_small p a r (i.small v.user));
              };
          goes = λ i y. elim (eqb_tells v.user u) [ inl h ↦ inl (own h.1 i y) | inr h ↦ inr (inr (others h.1 i y)) ];
        }
      where
        p : S
        p = state_of m w s v.user

        a : ℕ
        a = clock_for (m.asks_clock (state_of m w s v.user)) s.clock

        r : Reply
        r = system.reply_for m w s.files (m.asks_common (state_of m w s v.user))

        q : S
        q = m.step p a r

        e : Ending
        e = m.ending p a r

        cause : Option Cause
        cause = cause_of e (w.time_left s.plan v.user)

        t : SystemState S P F
        t = system.goes m w v (state_of m w s v.user) s

        seats : (e : Ending) (k x : ℕ) → at Off (consoles_after e v.user s.consoles) k ≡ Session x → Sound s → Known x
        seats Went k x h i = i.sits k x h
        seats Stopped k x h i = i.sits k x h
        seats Resized k x h i = i.sits k x h
        seats Replaced k x h i = i.sits k x h
        seats LoggedOut k x h i = i.sits k x (without_was v.user s.consoles k x h).0

        added : ticks_in u t.entries ≡ ticks_in u s.entries + ticks_in u (service_entry v cause)
        added = ticks-append u s.entries _ ∙ ap (λ (n : ℕ). ticks_in u s.entries + n) (before_service u (m.asks_clock p) s.clock v.user (m.asks_common p) r (service_entry v cause))

        own : v.user ≡ u → Sound s → Waiting s → (ticks_of u s < ticks_of u t) × (t.clock ≤ by)
        own h i y =
            let n = fair.now_waits s.plan (must_of s) s.clock y.waits in
            let z = not_ran u s.service y.out in
            let x = served_more v cause h in
            (omega (arith, added, z, x), n)

        others : v.user ≢ u → Sound s → Waiting s → Waiting t × Grows s.entries t.entries
        others h i y =
            let was : must_of s ≡ false = ap (λ (o : Option ℕ). must_load_of m w o s) is ∙ must in
            let waits = subst (λ (b : Bool). Waits b s.clock s.plan) was y.waits in (
              record {
                out = other_after v cause h;
                waits = fair.step_waits s.plan (served_of s.service) v.user e q s.clock (must_of t) is h none (not_served u s.service y.out) (λ goes. still goes) i.order waits;
              },
              (_, refl),
            )
          where
            still : cause ≡ None → must_of t ≡ false
            still goes =
                let went : e ≡ Went = goes_on_went e (w.time_left s.plan v.user) goes in
                let left = goes_on_left e (w.time_left s.plan v.user) goes in
                let plan_is : t.plan ≡ plan_after s.plan v.user None q Went (suc s.clock) =
                ap (λ (c : Option Cause). plan_after s.plan v.user c q e (suc s.clock)) goes ∙ ap (λ (x : Ending). plan_after s.plan v.user None q x (suc s.clock)) went in
                let same : w.choose t.plan ≡ Some v.user = ap w.choose plan_is ∙ fair.goes_same s.plan v.user q (suc s.clock) is left in
                let stepped : w.must_load s.plan v.user (at w.nobody (put s.users v.user q) v.user) ≡ false =
                put_keeps (λ (x : S). w.must_load s.plan v.user x ≡ false) w.nobody s.users v.user v.user q must (λ same. fair.went s.plan v.user p s.clock r went must) in
                let held : w.must_load (plan_after s.plan v.user None q Went (suc s.clock)) v.user (state_of m w t v.user) ≡ false =
                fair.charged s.plan v.user q _ (suc s.clock) stepped in
                ap (λ (o : Option ℕ). must_load_of m w o t) same ∙ subst (λ (x : P). w.must_load x v.user (state_of m w t v.user) ≡ false) (sym plan_is) held

    waits_steps : (v : Service) (s : SystemState S P F) → w.choose s.plan ≡ Some v.user → w.must_load s.plan v.user (state_of m w s v.user) ≡ false
        → w.rises s.plan (served_of s.service) s.clock ≡ None → Steps s (system.waits m w v (state_of m w s v.user) s)
    waits_steps v s is must none =
        let p = state_of m w s v.user in
        let t = system.waits m w v p s in
        let last : List Entry = Serve v.tick v.user v.level (suc v.ran) WaitCause ∷ [] in
        let added = ticks-append u s.entries last in
        record {
          sound = λ i. record { order = fair.wait_order s.plan v.user p s.clock is i.order; sits = i.sits; small = i.small };
          goes = λ i y. elim (eqb_tells v.user u) [
            | inl h ↦
                let n = fair.now_waits s.plan (must_of s) s.clock y.waits in
                let z = not_ran u s.service y.out in
                let x = served_more v (Some WaitCause) h.1 in
                inl (omega (arith, added, z, x), n)
            | inr h ↦
                let was : must_of s ≡ false = ap (λ (o : Option ℕ). must_load_of m w o s) is ∙ must in
                let waits = subst (λ (b : Bool). Waits b s.clock s.plan) was y.waits in
                inr (inr (
                  record {
                    out = λ z e. cc;
                    waits = fair.wait_waits s.plan (served_of s.service) v.user p s.clock (must_of t) is h.1 none (not_served u s.service y.out) i.order waits;
                  },
                  (last, refl),
                ))
          ];
        }

    attended_steps : (v : Service) (s : SystemState S P F) → w.choose s.plan ≡ Some v.user
        → w.rises s.plan (served_of s.service) s.clock ≡ None → Steps s (system.attended m w v s)
    attended_steps v s is none = by_test (w.must_load s.plan v.user (state_of m w s v.user)) refl
      where
        by_test : (b : Bool) → w.must_load s.plan v.user (state_of m w s v.user) ≡ b → Steps s (if b then system.swapped m w v.user s else system.stepped m w v s)
        by_test true e = swapped_steps v.user s is e none
        by_test false e =
            elim (m.can_step (state_of m w s v.user))
            as (λ b. Steps s (if b then system.goes m w v (state_of m w s v.user) s else system.waits m w v (state_of m w s v.user) s))
            [ true ↦ goes_steps v s is e none | false ↦ waits_steps v s is e none ]

    otherwise_steps : (limit : ℕ) (s : SystemState S P F) (chosen : Option ℕ) (service : Option Service) → w.choose s.plan ≡ chosen → s.service ≡ service
        → s.clock < next_tick limit s.events → w.rises s.plan (served_of s.service) s.clock ≡ None → Steps s (system.otherwise m w limit chosen service s)
    otherwise_steps limit s None None is serves later none =
        record {
          sound = λ i. record { order = fair.later_order s.plan s.clock (next_tick limit s.events) (omega (arith, later)) i.order; sits = i.sits; small = i.small };
          goes = λ i y. absurd (fair.chosen s.plan (must_of s) s.clock y.waits is);
        }
    otherwise_steps limit s None (Some x) is serves later none = calm_steps s (system.preempt m w x s) (preempt_calm x s serves)
    otherwise_steps limit s (Some h) None is serves later none = attended_steps _ s is none
    otherwise_steps limit s (Some h) (Some x) is serves later none =
        elim (eqb_tells x.user h) [
          | inl q ↦ rw q.0 (attended_steps x s (is ∙ ap Some (sym q.1)) none)
          | inr q ↦ rw q.0 (calm_steps s (system.preempt m w x s) (preempt_calm x s serves))
        ]

    quiet_steps : (limit : ℕ) (s : SystemState S P F) → s.clock < next_tick limit s.events → Steps s (system.quiet m w limit s)
    quiet_steps limit s later = by_rising (w.rises s.plan (served_of s.service) s.clock) refl
      where
        by_rising : (o : Option (ℕ × ℕ)) → w.rises s.plan (served_of s.service) s.clock ≡ o → Steps s (system.quiet_by m w limit o s)
        by_rising None e = otherwise_steps limit s (w.choose s.plan) s.service refl refl later e
        by_rising (Some x) e = calm_steps s (system.rise m w x.0 x.1 s) (rise_calm x.0 x.1 s e)

    next_steps : (limit : ℕ) (s : SystemState S P F) (events : List Timed) → s.events ≡ events → s.clock < limit → Steps s (system.next_by m w limit events s)
    next_steps limit s [] is h = quiet_steps limit s (rw is h)
    next_steps limit s (e ∷ rest) is h = by_test (nat_le e.tick s.clock) refl
      where
        by_test : (b : Bool) → nat_le e.tick s.clock ≡ b → Steps s (if b then system.taken m w e rest s else system.quiet m w limit s)
        by_test true q = calm_steps s (system.taken m w e rest s) (taken_calm e rest s)
        by_test false q = quiet_steps limit s (rw is (omega (arith, leb-false e.tick s.clock q)))

    pub each_step : (limit : ℕ) (s : SystemState S P F) → s.clock < limit → Steps s (next m w limit s)
    each_step limit s h = next_steps limit s s.events refl h

    abbrev pub IsOver : (limit : ℕ) → SystemState S P F → SystemState S P F → Type 0
    IsOver limit s z = (z.clock ≤ by) × ((ticks_of u s < ticks_of u z) ⊎ ((cuts_in u s.entries < cuts_in u z.entries) ⊎ (limit ≤ z.clock)))

    -- a user that waits is served by that tick, or cut off, or the run is over
    abbrev pub Ended : (limit : ℕ) → SystemState S P F → ℕ → Type 0
    Ended limit s k = IsOver limit s (iterate m w limit k s)

    -- one step more
    ended_later : (limit : ℕ) (s t : SystemState S P F) (k j : ℕ) → iterate m w limit j s ≡ iterate m w limit k t → ticks_of u s ≤ ticks_of u t
        → cuts_in u s.entries ≤ cuts_in u t.entries → Ended limit t k → Ended limit s j
    ended_later limit s t k j same ticks cuts h = subst (IsOver limit s) (sym same) (h.0, over h.1)
      where
        over : (ticks_of u t < ticks_of u (iterate m w limit k t)) ⊎ ((cuts_in u t.entries < cuts_in u (iterate m w limit k t).entries) ⊎ (limit ≤ (iterate m w limit k t).clock))
            → (ticks_of u s < ticks_of u (iterate m w limit k t)) ⊎ ((cuts_in u s.entries < cuts_in u (iterate m w limit k t).entries) ⊎ (limit ≤ (iterate m w limit k t).clock))
        over (inl e) = inl (omega (arith, e, ticks))
        over (inr (inl e)) = inr (inl (omega (arith, e, cuts)))
        over (inr (inr e)) = inr (inr e)

    turn_on : (limit : ℕ) → Ends w → (k : ℕ) (s : SystemState S P F) → nat_lt s.clock limit ≡ true → iterate m w limit (suc k) s ≡ iterate m w limit k (next m w limit s)
    turn_on limit ends k s e = laws.repeat-suc (clock_is_below m w limit) (next m w limit) (measure m w limit) (ending.falls m w ends limit) k s e

    over : (limit : ℕ) (s : SystemState S P F) → Waiting s → nat_lt s.clock limit ≡ false → (k : ℕ) × Ended limit s k
    over limit s x e = (zero, ((let n = fair.now_waits s.plan (must_of s) s.clock x.waits in omega (arith, n)), inr (inr (ltb-false s.clock limit e))))

    goes_to : (limit : ℕ) → Ends w → (s : SystemState S P F) → nat_lt s.clock limit ≡ true → Waiting s
        → (Sound (next m w limit s) → Waiting (next m w limit s) → (k : ℕ) × Ended limit (next m w limit s) k)
        → Sound (next m w limit s) → Goes s (next m w limit s) → (k : ℕ) × Ended limit s k
    goes_to limit ends s e x rest i (inl h) =
        (1, subst (IsOver limit s) (sym (turn_on limit ends 0 s e)) (h.1, inl h.0))
    goes_to limit ends s e x rest i (inr (inl h)) =
        (1, subst (IsOver limit s) (sym (turn_on limit ends 0 s e)) (h.1, inr (inl h.0)))
    goes_to limit ends s e x rest i (inr (inr h)) =
        let r = rest i h.0 in
        let none = not_ran u s.service x.out in
        let ticks = no_fewer_ticks u s.entries (next m w limit s).entries h.1 in
        let cuts = no_fewer_cuts u s.entries (next m w limit s).entries h.1 in
        (suc r.0, ended_later limit s (next m w limit s) r.0 (suc r.0) (turn_on limit ends r.0 s e) (omega (arith, none, ticks)) cuts r.1)

    waited_by : (limit : ℕ) → Ends w → (fuel : ℕ) (s : SystemState S P F) (b : Bool) → nat_lt s.clock limit ≡ b → measure m w limit s ≤ suc fuel → Sound s → Waiting s
        → ((t : SystemState S P F) → measure m w limit t ≤ fuel → Sound t → Waiting t → (k : ℕ) × Ended limit t k) → (k : ℕ) × Ended limit s k
    waited_by limit ends fuel s false e few i x rest = over limit s x e
    waited_by limit ends fuel s true e few i x rest =
        let step = each_step limit s (ltb-true s.clock limit e) in
        let less = ending.falls m w ends limit s e in
        goes_to limit ends s e x (λ j y. rest (next m w limit s) (omega (arith, few, less)) j y) (step.sound i) (step.goes i x)

    none_left : (limit : ℕ) → Ends w → (s : SystemState S P F) (b : Bool) → nat_lt s.clock limit ≡ b → measure m w limit s ≤ 0 → Waiting s → (k : ℕ) × Ended limit s k
    none_left limit ends s false e few x = over limit s x e
    none_left limit ends s true e few x = absurd (let less = ending.falls m w ends limit s e in omega (arith, few, less))

    pub waited : (limit : ℕ) → Ends w → (fuel : ℕ) (s : SystemState S P F) → measure m w limit s ≤ fuel → Sound s → Waiting s → (k : ℕ) × Ended limit s k
    waited limit ends zero s few i x = none_left limit ends s (nat_lt s.clock limit) refl few x
    waited limit ends (suc fuel) s few i x = waited_by limit ends fuel s (nat_lt s.clock limit) refl few i x (λ t le j y. waited limit ends fuel t le j y)

    -- what holds at the start holds at each moment
    turns_sound : (limit n : ℕ) (s : SystemState S P F) (b : Bool) → nat_lt s.clock limit ≡ b
        → ((t : SystemState S P F) → Sound t → Sound (iterate m w limit n t)) → Sound s →
        let more = repeat (clock_is_below m w limit) (next m w limit) n (next m w limit s) in
        Sound (elim b [ true ↦ more | false ↦ s ])
    turns_sound limit n s true q turns i = turns (next m w limit s) ((each_step limit s (ltb-true s.clock limit q)).sound i)
    turns_sound limit n s false q turns i = i

    pub iterate_sound : (limit n : ℕ) (s : SystemState S P F) → Sound s → Sound (iterate m w limit n s)
    iterate_sound limit zero s i = i
    iterate_sound limit (suc n) s i = turns_sound limit n s (nat_lt s.clock limit) refl (λ t j. iterate_sound limit n t j) i

    no_session : (n k v : ℕ) → at Off (replicate n Off) k ≡ Session v → ⊥
    no_session n zero v e = cc
    no_session zero (suc k) v e = cc
    no_session (suc n) (suc zero) v e = cc
    no_session (suc n) (suc (suc k)) v e = no_session n (suc k) v e

    pub start_sound : (firsts : List S) (files : F) (plan : P) (consoles : ℕ) (events : List Timed) → Order plan 0
        → ((k : ℕ) → Small (at w.nobody firsts k)) → Sound (start m w firsts files plan consoles events)
    start_sound firsts files plan consoles events order small =
        record { order = order; sits = λ k v e. absurd (no_session consoles k v e); small = small }
