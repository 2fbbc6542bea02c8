-- What a step does to the plan: it is as it was, or one of few changes of it.
use Rattle.std.proofs.Common.{◌≡◌, ℕ, suc, true, false, if◌then◌else◌, nat_eq, nat_lt, nat_le, List, [], ◌∷◌, Option, Some, None, inl, inr}
use Rattle.std.proofs.Common.{refl, sym, ap, ◌∙◌}
use Rattle.std.proofs.lemmas.Bool.Decides.{eqb_tells}
use Rattle.time_sharing.specs.Machine.{Machine, Line, CutKind, Quit, Hang, Spent, Ending}
use Rattle.time_sharing.specs.System as system
use Rattle.time_sharing.specs.System.{SystemState, World, Timed, Service, Console, Off, On, Password, Session, Cause}
use Rattle.time_sharing.specs.System.{Dials, Types, Quits, Hangs, LineTaken, Stop}
use Rattle.time_sharing.specs.System.{Wait as WaitCause}
use Rattle.time_sharing.specs.System.{at, state_of, next, cause_of, clock_for, served_of}

module _ {S P F : Type 0} (m : Machine S) (w : World S P F) (s : SystemState S P F) (Q : P → Type 0) where
  -- the plan after a step of a user
  abbrev pub after_step : ℕ → Ending → S → P
  after_step x e p = w.gave_up (system.plan_after m w (w.charged s.plan x (suc s.clock)) x (cause_of e (w.time_left s.plan x)) p (suc s.clock)) x p e (suc s.clock)

  -- what is owed for each change
  pub record Each : Type 0 where
    pub same : Q s.plan
    pub line : (x : ℕ) (p q : S) → Q (w.line_came s.plan x p q s.clock)
    pub cut : (x : ℕ) (kind : CutKind) (p : S) → Q (w.cut_came s.plan x kind p s.clock)
    pub rises : (served : Option ℕ) (x l : ℕ) → w.rises s.plan served s.clock ≡ Some (x, l) → Q (w.risen s.plan x l s.clock)
    pub preempted : (x : ℕ) → Q (w.preempted s.plan x s.clock)
    pub load : (x : ℕ) (p : S) → Q (w.load s.plan x p s.clock)
    pub step : (x : ℕ) (e : Ending) (p : S) → w.choose s.plan ≡ Some x → Q (after_step x e p)
    pub wait : (x : ℕ) (p : S) → w.choose s.plan ≡ Some x → Q (w.leaves (w.charged s.plan x (suc s.clock)) x WaitCause p (suc s.clock))

  module _ (each : Each) where
    -- an event, at a state with this plan and clock
    abbrev Alike : SystemState S P F → Type 0
    Alike t = (t.plan ≡ s.plan) × (t.clock ≡ s.clock)

    same_at : (t : SystemState S P F) → Alike t → Q t.plan
    same_at t a = let e = a.0 in rw e each.same

    stopped_alike : (t : SystemState S P F) (x : ℕ) (o : Option Service) → Alike t → Alike (system.stop_served_of m w o x t)
    stopped_alike t x None a = a
    stopped_alike t x (Some v) a =
        elim (nat_eq v.user x) as (λ b. Alike (if b then system.end_service m w Stop v t else t)) [ true ↦ a | false ↦ a ]

    cut_at : (t : SystemState S P F) (kind : CutKind) (c x : ℕ) → Alike t → Q (system.cut_at m w kind c x (system.stop_served m w x t)).plan
    cut_at t kind c x a =
        let z = system.stop_served m w x t in
        let b = stopped_alike t x t.service a in
        let e = b.0 in
        let f = b.1 in
        rw (e, f) (each.cut x kind (state_of m w z x))

    line_at : (t : SystemState S P F) (c x : ℕ) (l : Line) → Alike t → Q (system.line_at m w c x l t).plan
    line_at t c x l a = let e = a.0 in let f = a.1 in rw (e, f) (each.line x (state_of m w t x) (m.typed (state_of m w t x) l))

    console_at : (c : ℕ) (console : Console) (event : system.Event) (t : SystemState S P F) → Alike t → Q (system.at_console m w c console event t).plan
    console_at c On (Types l) t a = elim (w.asked l) as (λ n. Q (system.asks_in m w c n t).plan) [ None ↦ same_at t a | Some n ↦ same_at t a ]
    console_at c (Password name) (Types l) t a =
        elim (w.check name l) as (λ o. Q (system.logs_in m w c o t).plan) [
          | None ↦ same_at t a
          | Some v ↦
              elim (m.is_open (state_of m w t v))
              as (λ b. Q (if b then system.heard m w c LineTaken On (system.Refused t.clock c 2 ∷ []) t else system.opens m w c v t).plan)
              [ true ↦ same_at t a | false ↦ same_at t a ]
        ]
    console_at c (Session x) (Types l) t a =
        elim (nat_lt (m.lines (state_of m w t x)) system.max_lines)
        as (λ b. Q (if b then system.line_at m w c x l t else system.cut_at m w Spent c x (system.stop_served m w x t)).plan)
        [ true ↦ line_at t c x l a | false ↦ cut_at t Spent c x a ]
    console_at c (Session x) Quits t a = cut_at t Quit c x a
    console_at c (Session x) Hangs t a = cut_at t Hang c x a
    console_at c Off Dials t a = same_at t a
    console_at c Off (Types l) t a = same_at t a
    console_at c Off Quits t a = same_at t a
    console_at c Off Hangs t a = same_at t a
    console_at c On Dials t a = same_at t a
    console_at c On Quits t a = same_at t a
    console_at c On Hangs t a = same_at t a
    console_at c (Password name) Dials t a = same_at t a
    console_at c (Password name) Quits t a = same_at t a
    console_at c (Password name) Hangs t a = same_at t a
    console_at c (Session x) Dials t a = same_at t a

    awake : (rest : List Timed) (o : Option ℕ) → Alike (system.end_idling_of m w o (record s { events = rest }))
    awake rest None = (refl, refl)
    awake rest (Some from) = (refl, refl)

    taken_at : (e : Timed) (rest : List Timed) → Q (system.taken m w e rest s).plan
    taken_at e rest =
        let t = system.end_idling_of m w s.idling (record s { events = rest }) in
        console_at e.console (at Off t.consoles e.console) e.event t (awake rest s.idling)

    -- no event
    attended_at : (v : Service) → w.choose s.plan ≡ Some v.user → Q (system.attended m w v s).plan
    attended_at v is =
        elim (w.must_load s.plan v.user (state_of m w s v.user)) as (λ b. Q (if b then system.swapped m w v.user s else system.stepped m w v s).plan) [
          | true ↦ each.load v.user (state_of m w s v.user)
          | false ↦
              elim (m.can_step (state_of m w s v.user))
              as (λ b. Q (if b then system.goes m w v (state_of m w s v.user) s else system.waits m w v (state_of m w s v.user) s).plan) [
                | true ↦ each.step v.user _ _ is
                | false ↦ each.wait v.user _ is
              ]
        ]

    otherwise_at : (limit : ℕ) (choice : Option ℕ) (service : Option Service) → w.choose s.plan ≡ choice → Q (system.otherwise m w limit choice service s).plan
    otherwise_at limit None None is = each.same
    otherwise_at limit None (Some x) is = each.preempted x.user
    otherwise_at limit (Some h) None is = attended_at _ is
    otherwise_at limit (Some h) (Some x) is =
        elim (eqb_tells x.user h) [ inl q ↦ rw q.0 (attended_at x (is ∙ ap Some (sym q.1))) | inr q ↦ rw q.0 (each.preempted x.user) ]

    quiet_at : (limit : ℕ) (o : Option (ℕ × ℕ)) → w.rises s.plan (served_of s.service) s.clock ≡ o → Q (system.quiet_by m w limit o s).plan
    quiet_at limit None is = otherwise_at limit (w.choose s.plan) s.service refl
    quiet_at limit (Some x) is = each.rises (served_of s.service) x.0 x.1 is

    next_at : (limit : ℕ) (events : List Timed) → Q (system.next_by m w limit events s).plan
    next_at limit [] = quiet_at limit _ refl
    next_at limit (e ∷ rest) =
        elim (nat_le e.tick s.clock) as (λ b. Q (if b then system.taken m w e rest s else system.quiet m w limit s).plan)
        [ true ↦ taken_at e rest | false ↦ quiet_at limit _ refl ]

    pub plan_of_next : (limit : ℕ) → Q (next m w limit s).plan
    plan_of_next limit = next_at limit s.events
