-- A user that can step is in the queues, at each moment of a run.
use Rattle.std.proofs.Common.{◌≡◌, ◌≢◌, ℕ, zero, suc, ◌<◌, Bool, true, false, if◌then◌else◌}
use Rattle.std.proofs.Common.{nat_eq, nat_lt, nat_le, List, [], ◌∷◌, get_or, set, Option, Some, None, ◌⊎◌, inl, inr}
use Rattle.std.proofs.Common.{refl, sym, ap, subst, ◌∙◌, ltb-true}
use Rattle.std.proofs.lemmas.Bool.Decides.{eqb_tells}
use Rattle.time_sharing.specs.Machine.{Machine, Line, CutKind, Quit, Hang, Spent, End, Reply, Ending}
use Rattle.time_sharing.specs.System as system
use Rattle.time_sharing.specs.System.{SystemState, World, Timed, Service, Console, Off, On, Password, Session, Cause}
use Rattle.time_sharing.specs.System.{Dials, Types, Quits, Hangs, LineTaken, Stop, Refused}
use Rattle.time_sharing.specs.System.{Wait as WaitCause}
use Rattle.time_sharing.specs.System.{at, put, state_of, next, next_tick, cause_of, clock_for, served_of}
use Rattle.time_sharing.specs.Repeat.{repeat}
use Rattle.time_sharing.specs.Record.{clock_is_below, iterate}
use Rattle.time_sharing.proofs.Tables.{at-put_other}

put_at : {S : Type 0} (d : S) (xs : List S) (u : ℕ) (a : S) → (at d (put xs u a) u ≡ a) ⊎ (at d (put xs u a) u ≡ d)
put_at d xs zero a = inr refl
put_at d xs (suc n) a = by_list xs n
  where
    by_list : (ys : List _) (k : ℕ) → (get_or (set ys k a) k d ≡ a) ⊎ (get_or (set ys k a) k d ≡ d)
    by_list [] k = inr refl
    by_list (y ∷ ys) zero = inl refl
    by_list (y ∷ ys) (suc k) = by_list ys k

module _ {S P F : Type 0} (m : Machine S) (w : World S P F) (In : ℕ → P → Type 0) (Fine : S → Type 0) (Order : P → ℕ → Type 0) where
  abbrev pub after : P → ℕ → Option Cause → S → Ending → ℕ → P
  after plan v cause p e now = w.gave_up (system.plan_after m w (w.charged plan v now) v cause p now) v p e now

  pub record Keeps : Type 0 where
    pub typed_fine : (p : S) (l : Line) → Fine p → Fine (m.typed p l)
    pub opened_fine : (p : S) → Fine p → Fine (m.opened p)
    pub cut_fine : (kind : CutKind) (p : S) → Fine p → Fine (m.cut kind p)
    pub step_fine : (p : S) (t : ℕ) (r : Reply) → Fine p → Fine (m.step p t r)
    pub opened_can : (p : S) → Fine p → m.is_open p ≡ false → m.can_step (m.opened p) ≡ false
    pub cut_can : (kind : CutKind) (p : S) → kind ≢ End → m.can_step (m.cut kind p) ≡ false
    pub nobody_can : m.can_step w.nobody ≡ false
    pub line_in : (plan : P) (x y : ℕ) (was p : S) (now : ℕ) → In x plan → In x (w.line_came plan y was p now)
    pub line_self : (plan : P) (y : ℕ) (was p : S) (now : ℕ) → Order plan now → In y (w.line_came plan y was p now)
    pub cut_in : (plan : P) (x y : ℕ) (kind : CutKind) (p : S) (now : ℕ) → y ≢ x → In x plan → In x (w.cut_came plan y kind p now)
    pub risen_in : (plan : P) (served : Option ℕ) (x y l now : ℕ) → w.rises plan served now ≡ Some (y, l) → Order plan now → In x plan → In x (w.risen plan y l now)
    pub preempted_in : (plan : P) (x y now : ℕ) → In x plan → In x (w.preempted plan y now)
    pub load_in : (plan : P) (x y : ℕ) (p : S) (now : ℕ) → In x plan → In x (w.load plan y p now)
    pub other_in : (plan : P) (v x : ℕ) (e : Ending) (p : S) (now : ℕ) → w.choose plan ≡ Some v → v ≢ x → In x plan
        → In x (after plan v (cause_of e (w.time_left plan v)) p e (suc now))
    pub step_in : (plan : P) (v : ℕ) (p : S) (t : ℕ) (r : Reply) (now : ℕ) → w.choose plan ≡ Some v → Order plan now → m.can_step (m.step p t r) ≡ true
        → In v (after plan v (cause_of (m.ending p t r) (w.time_left plan v)) (m.step p t r) (m.ending p t r) (suc now))
    pub wait_in : (plan : P) (v x : ℕ) (p : S) (now : ℕ) → w.choose plan ≡ Some v → v ≢ x → In x plan
        → In x (w.leaves (w.charged plan v (suc now)) v WaitCause p (suc now))

  pub record Ready (s : SystemState S P F) : Type 0 where
    pub stands : (x : ℕ) → m.can_step (state_of m w s x) ≡ true → In x s.plan
    pub fine : (x : ℕ) → Fine (state_of m w s x)

  module _ (keeps : Keeps) where
    -- users and plan are as they were
    same_ready : (s t : SystemState S P F) → t.users ≡ s.users → t.plan ≡ s.plan → Ready s → Ready t
    same_ready s t users plan i =
        record {
          stands = λ x can. subst (In x) (sym plan) (i.stands x (subst (λ (ps : List S). m.can_step (at w.nobody ps x) ≡ true) users can));
          fine = λ x. subst (λ (ps : List S). Fine (at w.nobody ps x)) (sym users) (i.fine x);
        }

    -- one user's state is another
    changed : (s t : SystemState S P F) (y : ℕ) (a : S) → t.users ≡ put s.users y a
        → ((x : ℕ) → y ≢ x → In x s.plan → In x t.plan) → (m.can_step a ≡ true → In y t.plan) → Fine a → Ready s → Ready t
    changed s t y a users others own fine i =
        record {
          stands = λ x can. stands x (subst (λ (ps : List S). m.can_step (at w.nobody ps x) ≡ true) users can);
          fine = λ x. subst (λ (ps : List S). Fine (at w.nobody ps x)) (sym users) (fines x);
        }
      where
        stands : (x : ℕ) → m.can_step (at w.nobody (put s.users y a) x) ≡ true → In x t.plan
        stands x can =
            elim (eqb_tells y x) [
              | inl e ↦
                  let mine : m.can_step (at w.nobody (put s.users y a) y) ≡ true = subst (λ (z : ℕ). m.can_step (at w.nobody (put s.users y a) z) ≡ true) (sym e.1) can in
                  subst (λ (z : ℕ). In z t.plan) e.1
                  (elim (put_at w.nobody s.users y a) [
                    | inl k ↦ own (ap m.can_step (sym k) ∙ mine)
                    | inr k ↦ absurd (let n = keeps.nobody_can in let c = ap m.can_step (sym k) ∙ mine in cc (n, c))
                  ])
              | inr e ↦
                  let there = at-put_other w.nobody s.users y x a (λ q. e.1 (sym q)) in
                  others x e.1 (i.stands x (ap m.can_step (sym there) ∙ can))
            ]

        fines : (x : ℕ) → Fine (at w.nobody (put s.users y a) x)
        fines x =
            elim (eqb_tells y x) [
              | inl e ↦
                  subst (λ (z : ℕ). Fine (at w.nobody (put s.users y a) z)) e.1
                  (elim (put_at w.nobody s.users y a) [ inl k ↦ subst Fine (sym k) fine | inr k ↦ subst Fine (sym k) (i.fine 0) ])
              | inr e ↦ subst Fine (sym (at-put_other w.nobody s.users y x a (λ q. e.1 (sym q)))) (i.fine x)
            ]

    heard_ready : (s : SystemState S P F) (c : ℕ) (kind : system.EventKind) (now : Console) (more : List system.Entry) → Ready s → Ready (system.heard m w c kind now more s)
    heard_ready s c kind now more i = same_ready s (system.heard m w c kind now more s) refl refl i

    cut_ready : (s : SystemState S P F) (kind : CutKind) (c y : ℕ) → kind ≢ End → Ready s → Ready (system.cut_at m w kind c y s)
    cut_ready s kind c y real i =
        let p = state_of m w s y in
        changed s (system.cut_at m w kind c y s) y (m.cut kind p) refl
        (λ x other h. keeps.cut_in s.plan x y kind p s.clock other h)
        (λ can. absurd (let n = keeps.cut_can kind p real in cc (n, can))) (keeps.cut_fine kind p (i.fine y)) i

    stopped_ready : (s : SystemState S P F) (kind : CutKind) (c y : ℕ) → kind ≢ End → Ready s → Ready (system.cut_at m w kind c y (system.stop_served m w y s))
    stopped_ready s kind c y real i = by_service s.service
      where
        by_service : (o : Option Service) → Ready (system.cut_at m w kind c y (system.stop_served_of m w o y s))
        by_service None = cut_ready s kind c y real i
        by_service (Some v) =
            elim (nat_eq v.user y) as (λ b. Ready (system.cut_at m w kind c y (if b then system.end_service m w Stop v s else s))) [
              | true ↦ cut_ready (system.end_service m w Stop v s) kind c y real (same_ready s (system.end_service m w Stop v s) refl refl i)
              | false ↦ cut_ready s kind c y real i
            ]

    line_ready : (s : SystemState S P F) (c y : ℕ) (l : Line) → Order s.plan s.clock → Ready s → Ready (system.line_at m w c y l s)
    line_ready s c y l o i =
        let p = state_of m w s y in
        changed s (system.line_at m w c y l s) y (m.typed p l) refl (λ x other h. keeps.line_in s.plan x y p (m.typed p l) s.clock h)
        (λ can. keeps.line_self s.plan y p (m.typed p l) s.clock o) (keeps.typed_fine p l (i.fine y)) i

    opens_ready : (s : SystemState S P F) (c y : ℕ) → m.is_open (state_of m w s y) ≡ false → Ready s → Ready (system.opens m w c y s)
    opens_ready s c y shut i =
        let p = state_of m w s y in
        changed s (system.opens m w c y s) y (m.opened p) refl (λ x other h. h)
        (λ can. absurd (let n = keeps.opened_can p (i.fine y) shut in cc (n, can))) (keeps.opened_fine p (i.fine y)) i

    console_ready : (c : ℕ) (console : Console) (event : system.Event) (s : SystemState S P F) → Order s.plan s.clock → Ready s → Ready (system.at_console m w c console event s)
    console_ready c Off Dials s o i = heard_ready s c _ _ [] i
    console_ready c Off (Types l) s o i = heard_ready s c _ _ [] i
    console_ready c Off Quits s o i = heard_ready s c _ _ [] i
    console_ready c Off Hangs s o i = heard_ready s c _ _ [] i
    console_ready c On Dials s o i = heard_ready s c _ _ [] i
    console_ready c On (Types l) s o i =
        elim (w.asked l) as (λ n. Ready (system.asks_in m w c n s)) [
          | None ↦ heard_ready s c _ _ (Refused s.clock c 1 ∷ []) i
          | Some n ↦ heard_ready s c _ _ [] i
        ]
    console_ready c On Quits s o i = heard_ready s c _ _ [] i
    console_ready c On Hangs s o i = heard_ready s c _ _ [] i
    console_ready c (Password name) Dials s o i = heard_ready s c _ _ [] i
    console_ready c (Password name) (Types l) s o i = by_check (w.check name l)
      where
        by_open : (v : ℕ) (b : Bool) → m.is_open (state_of m w s v) ≡ b
            → Ready (if b then system.heard m w c LineTaken On (Refused s.clock c 2 ∷ []) s else system.opens m w c v s)
        by_open v true e = heard_ready s c _ _ (Refused s.clock c 2 ∷ []) i
        by_open v false e = opens_ready s c v e i

        by_check : (o : Option ℕ) → Ready (system.logs_in m w c o s)
        by_check None = heard_ready s c _ _ (Refused s.clock c 1 ∷ []) i
        by_check (Some v) = by_open v (m.is_open (state_of m w s v)) refl
    console_ready c (Password name) Quits s o i = heard_ready s c _ _ [] i
    console_ready c (Password name) Hangs s o i = heard_ready s c _ _ [] i
    console_ready c (Session y) Dials s o i = same_ready s (system.at_console m w c (Session y) Dials s) refl refl i
    console_ready c (Session y) (Types l) s o i =
        elim (nat_lt (m.lines (state_of m w s y)) system.max_lines)
        as (λ b. Ready (if b then system.line_at m w c y l s else system.cut_at m w Spent c y (system.stop_served m w y s))) [
          | true ↦ line_ready s c y l o i
          | false ↦ stopped_ready s Spent c y (λ e. cc) i
        ]
    console_ready c (Session y) Quits s o i = stopped_ready s Quit c y (λ e. cc) i
    console_ready c (Session y) Hangs s o i = stopped_ready s Hang c y (λ e. cc) i

    taken_ready : (e : Timed) (rest : List Timed) (s : SystemState S P F) → Order s.plan s.clock → Ready s → Ready (system.taken m w e rest s)
    taken_ready e rest s o i = by_idling s.idling
      where
        by_idling : (x : Option ℕ) → let t = system.end_idling_of m w x (record s { events = rest }) in
            Ready (system.at_console m w e.console (at Off t.consoles e.console) e.event t)
        by_idling None = console_ready e.console _ e.event (record s { events = rest }) o (same_ready s (record s { events = rest }) refl refl i)
        by_idling (Some from) =
            let t = system.end_idling_of m w (Some from) (record s { events = rest }) in
            console_ready e.console _ e.event t o (same_ready s t refl refl i)

    stepped_ready : (v : Service) (s : SystemState S P F) → w.choose s.plan ≡ Some v.user → Order s.plan s.clock → Ready s → Ready (system.stepped m w v s)
    stepped_ready v s is o i = by_can (m.can_step (state_of m w s v.user)) refl
      where
        by_can : (b : Bool) → m.can_step (state_of m w s v.user) ≡ b → Ready (if b then system.goes m w v (state_of m w s v.user) s else system.waits m w v (state_of m w s v.user) s)
        by_can true e =
            let p = state_of m w s v.user in
            let a = clock_for (m.asks_clock p) s.clock in
            let r = system.reply_for m w s.files (m.asks_common p) in
            changed s (system.goes m w v p s) v.user (m.step p a r) refl
            (λ x other h. keeps.other_in s.plan v.user x (m.ending p a r) (m.step p a r) s.clock is other h)
            (λ can. keeps.step_in s.plan v.user p a r s.clock is o can) (keeps.step_fine p a r (i.fine v.user)) i
        by_can false e =
            let p = state_of m w s v.user in
            record {
              stands = λ x can.
                  elim (eqb_tells v.user x) [
                    | inl q ↦ absurd (let c = subst (λ (z : ℕ). m.can_step (state_of m w s z) ≡ true) (sym q.1) can in cc (c, e))
                    | inr q ↦ keeps.wait_in s.plan v.user x p s.clock is q.1 (i.stands x can)
                  ];
              fine = i.fine;
            }

    attended_ready : (v : Service) (s : SystemState S P F) → w.choose s.plan ≡ Some v.user → Order s.plan s.clock → Ready s → Ready (system.attended m w v s)
    attended_ready v s is o i =
        elim (w.must_load s.plan v.user (state_of m w s v.user)) as (λ b. Ready (if b then system.swapped m w v.user s else system.stepped m w v s)) [
          | true ↦ record { stands = λ x can. keeps.load_in s.plan x v.user (state_of m w s v.user) s.clock (i.stands x can); fine = i.fine }
          | false ↦ stepped_ready v s is o i
        ]

    preempt_ready : (v : Service) (s : SystemState S P F) → Ready s → Ready (system.preempt m w v s)
    preempt_ready v s i = record { stands = λ x can. keeps.preempted_in s.plan x v.user s.clock (i.stands x can); fine = i.fine }

    otherwise_ready : (limit : ℕ) (s : SystemState S P F) (chosen : Option ℕ) (service : Option Service) → w.choose s.plan ≡ chosen → Order s.plan s.clock → Ready s
        → Ready (system.otherwise m w limit chosen service s)
    otherwise_ready limit s None None is o i = same_ready s (system.idled m w limit s) refl refl i
    otherwise_ready limit s None (Some x) is o i = preempt_ready x s i
    otherwise_ready limit s (Some h) None is o i = attended_ready _ s is o i
    otherwise_ready limit s (Some h) (Some x) is o i =
        elim (eqb_tells x.user h) [
          | inl q ↦ rw q.0 (attended_ready x s (is ∙ ap Some (sym q.1)) o i)
          | inr q ↦ rw q.0 (preempt_ready x s i)
        ]

    quiet_ready : (limit : ℕ) (s : SystemState S P F) → Order s.plan s.clock → Ready s → Ready (system.quiet m w limit s)
    quiet_ready limit s o i = by_rising (w.rises s.plan (served_of s.service) s.clock) refl
      where
        by_rising : (x : Option (ℕ × ℕ)) → w.rises s.plan (served_of s.service) s.clock ≡ x → Ready (system.quiet_by m w limit x s)
        by_rising None e = otherwise_ready limit s (w.choose s.plan) s.service refl o i
        by_rising (Some x) e =
            record { stands = λ y can. keeps.risen_in s.plan (served_of s.service) y x.0 x.1 s.clock e o (i.stands y can); fine = i.fine }

    next_ready : (limit : ℕ) (s : SystemState S P F) (events : List Timed) → Order s.plan s.clock → Ready s → Ready (system.next_by m w limit events s)
    next_ready limit s [] o i = quiet_ready limit s o i
    next_ready limit s (e ∷ rest) o i =
        elim (nat_le e.tick s.clock) as (λ b. Ready (if b then system.taken m w e rest s else system.quiet m w limit s))
        [ true ↦ taken_ready e rest s o i | false ↦ quiet_ready limit s o i ]

    module _ (J : SystemState S P F → Type 0) (j_next : (limit : ℕ) (s : SystemState S P F) → s.clock < limit → J s → J (next m w limit s))
        (j_order : (s : SystemState S P F) → J s → Order s.plan s.clock) where
      turns_ready : (limit n : ℕ) (s : SystemState S P F) (b : Bool) → nat_lt s.clock limit ≡ b
          → ((t : SystemState S P F) → J t → Ready t → Ready (iterate m w limit n t)) → J s → Ready s →
          let more = repeat (clock_is_below m w limit) (next m w limit) n (next m w limit s) in
          Ready (elim b [ true ↦ more | false ↦ s ])
      turns_ready limit n s true q turns j i =
          turns (next m w limit s) (j_next limit s (ltb-true s.clock limit q) j) (next_ready limit s s.events (j_order s j) i)
      turns_ready limit n s false q turns j i = i

      pub iterate_ready : (limit n : ℕ) (s : SystemState S P F) → J s → Ready s → Ready (iterate m w limit n s)
      iterate_ready limit zero s j i = i
      iterate_ready limit (suc n) s j i = turns_ready limit n s (nat_lt s.clock limit) refl (λ t k h. iterate_ready limit n t k h) j i
