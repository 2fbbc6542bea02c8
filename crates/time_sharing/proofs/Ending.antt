-- Each step of the machine of all users comes nearer to the limit.
use Rattle.std.proofs.Common.{◌≡◌, ℕ, suc, ◌+◌, ◌<◌, ◌≤◌, Bool, true, false, nat_lt, nat_le, nat_eq, List, [], ◌∷◌, Option, Some, None, refl, sym, ap, ◌∙◌, arith, length, if◌then◌else◌, ltb-true, leb-false}
use Rattle.time_sharing.specs.Machine.{Machine, CutKind, Quit, Hang, Spent}
use Rattle.std.proofs.lemmas.Bool.Decides.{eqb_tells}
use Rattle.std.proofs.Common.{inl, inr}
use Rattle.time_sharing.specs.System as system
use Rattle.time_sharing.specs.System.{SystemState, World, Timed, Service, Console, Off, On, Password, Session, Dials, Types, Quits, Hangs, state_of, next}
use Rattle.time_sharing.specs.Record.{is_open, as_number, must_load_of, measure, clock_is_below, Ends}
use Rattle.time_sharing.specs.Repeat.{Falls}

module _ {S P F : Type 0} (m : Machine S) (w : World S P F) where
  open_le : (service : Option Service) → is_open m w service ≤ 1
  open_le None = omega arith
  open_le (Some v) = omega arith

  number_le : (b : Bool) → as_number m w b ≤ 1
  number_le true = omega arith
  number_le false = omega arith

  -- a tick went by
  to_later : (limit : ℕ) (s t : SystemState S P F) → s.clock < t.clock → s.clock < limit → length t.events ≡ length s.events → w.sum_of_levels t.plan ≤ w.sum_of_levels s.plan + 16 → measure m w limit t < measure m w limit s
  to_later limit s t h k same up = omega (arith, h, k, same, up, open_le t.service, number_le (must_load_of m w (w.choose t.plan) t))

  -- an event was taken
  took : (limit : ℕ) (s t : SystemState S P F) → t.clock ≡ s.clock → suc (length t.events) ≡ length s.events → w.sum_of_levels t.plan ≤ w.sum_of_levels s.plan + 8 → measure m w limit t < measure m w limit s
  took limit s t c k up = omega (arith, c, k, up, open_le t.service, number_le (must_load_of m w (w.choose t.plan) t))

  -- a user rose
  rose : (limit : ℕ) (s t : SystemState S P F) → t.clock ≡ s.clock → t.events ≡ s.events → t.service ≡ s.service → w.sum_of_levels t.plan < w.sum_of_levels s.plan → measure m w limit t < measure m w limit s
  rose limit s t c k v down = omega (arith, c, ap length k, ap (is_open m w) v, down, number_le (must_load_of m w (w.choose t.plan) t))

  -- a service was ended
  closed : (limit : ℕ) (s t : SystemState S P F) (v : Service) → s.service ≡ Some v → t.service ≡ None → t.clock ≡ s.clock → length t.events ≡ length s.events → w.sum_of_levels t.plan ≤ w.sum_of_levels s.plan → measure m w limit t < measure m w limit s
  closed limit s t v is now c k up = omega (arith, c, k, up, ap (is_open m w) is, ap (is_open m w) now, number_le (must_load_of m w (w.choose t.plan) t))

  module _ (ends : Ends w) where
    loaded : (limit : ℕ) (s : SystemState S P F) (u : ℕ) → w.choose s.plan ≡ Some u → w.must_load s.plan u (state_of m w s u) ≡ true → measure m w limit (system.swapped m w u s) < measure m w limit s
    loaded limit s u is must =
        let t = system.swapped m w u s in
        let before_load : must_load_of m w (w.choose s.plan) s ≡ true = rw is must in
        let after_load : must_load_of m w (w.choose t.plan) t ≡ false = rw (ends.same_choice s.plan u (state_of m w s u) s.clock, is) (ends.loaded s.plan u (state_of m w s u) s.clock) in
        omega (arith, ends.load s.plan u (state_of m w s u) s.clock, ap (as_number m w) before_load, ap (as_number m w) after_load)

  -- the clock, the events left and the plan stay
  Stays : SystemState S P F → SystemState S P F → Type 0
  Stays s t = (t.clock ≡ s.clock) × (t.events ≡ s.events) × (t.plan ≡ s.plan)

  idling_stays : (s : SystemState S P F) (idling : Option ℕ) → Stays s (system.end_idling_of m w idling s)
  unfolding Stays
  idling_stays s None = (refl, refl, refl)
  idling_stays s (Some from) = (refl, refl, refl)

  stop_stays : (s : SystemState S P F) (v : ℕ) (service : Option Service) → Stays s (system.stop_served_of m w service v s)
  unfolding Stays
  stop_stays s v None = (refl, refl, refl)
  stop_stays s v (Some x) = elim (nat_eq x.user v) as (λ b. Stays s (if b then system.end_service m w system.Stop x s else s)) [ true ↦ (refl, refl, refl) | false ↦ (refl, refl, refl) ]

  module _ (ends : Ends w) where
    -- the clock and the events left stay, and the levels rise by little
    Hears : SystemState S P F → SystemState S P F → Type 0
    Hears s t = (t.clock ≡ s.clock) × (t.events ≡ s.events) × (w.sum_of_levels t.plan ≤ w.sum_of_levels s.plan + 8)

    cut_hears : (s : SystemState S P F) (kind : CutKind) (c v : ℕ) → Hears s (system.cut_at m w kind c v (system.stop_served m w v s))
    unfolding Stays Hears
    cut_hears s kind c v =
        let t = system.stop_served m w v s in
        let x = stop_stays s v s.service in
        (x.0, x.1, omega (arith, ends.cut_came t.plan v kind (state_of m w t v) t.clock, ap w.sum_of_levels x.2))

    console_hears : (c : ℕ) (console : Console) (event : system.Event) (s : SystemState S P F) → Hears s (system.at_console m w c console event s)
    unfolding Stays Hears
    console_hears c Off Dials s = (refl, refl, omega arith)
    console_hears c Off (Types l) s = (refl, refl, omega arith)
    console_hears c Off Quits s = (refl, refl, omega arith)
    console_hears c Off Hangs s = (refl, refl, omega arith)
    console_hears c On Dials s = (refl, refl, omega arith)
    console_hears c On (Types l) s = elim (w.asked l) as (λ n. Hears s (system.asks_in m w c n s)) [ None ↦ (refl, refl, omega arith) | Some n ↦ (refl, refl, omega arith) ]
    console_hears c On Quits s = (refl, refl, omega arith)
    console_hears c On Hangs s = (refl, refl, omega arith)
    console_hears c (Password name) Dials s = (refl, refl, omega arith)
    console_hears c (Password name) (Types l) s =
        elim (w.check name l) as (λ n. Hears s (system.logs_in m w c n s)) [
          | None ↦ (refl, refl, omega arith)
          | Some v ↦ elim (m.is_open (state_of m w s v)) as (λ b. Hears s (if b then system.heard m w c system.LineTaken On (system.Refused s.clock c 2 ∷ []) s else system.opens m w c v s)) [ true ↦ (refl, refl, omega arith) | false ↦ (refl, refl, omega arith) ]
        ]
    console_hears c (Password name) Quits s = (refl, refl, omega arith)
    console_hears c (Password name) Hangs s = (refl, refl, omega arith)
    console_hears c (Session v) Dials s = (refl, refl, omega arith)
    console_hears c (Session v) (Types l) s =
        elim (nat_lt (m.lines (state_of m w s v)) system.max_lines) as (λ b. Hears s (if b then system.line_at m w c v l s else system.cut_at m w Spent c v (system.stop_served m w v s))) [ true ↦ (refl, refl, ends.line_came s.plan v (state_of m w s v) (m.typed (state_of m w s v) l) s.clock) | false ↦ cut_hears s Spent c v ]
    console_hears c (Session v) Quits s = cut_hears s Quit c v
    console_hears c (Session v) Hangs s = cut_hears s Hang c v

    taken_falls : (limit : ℕ) (e : Timed) (rest : List Timed) (s : SystemState S P F) → s.events ≡ e ∷ rest → measure m w limit (system.taken m w e rest s) < measure m w limit s
    unfolding Stays Hears
    taken_falls limit e rest s is =
        let r = record s { events = rest } in
        let t = system.end_idling_of m w s.idling r in
        let x = console_hears e.console (system.at Off t.consoles e.console) e.event t in
        let y = idling_stays r s.idling in
        took limit s _ (x.0 ∙ y.0) (ap suc (ap length (x.1 ∙ y.1)) ∙ sym (ap length is)) (omega (arith, x.2, ap w.sum_of_levels y.2))

    after_little : (plan : P) (u : ℕ) (cause : Option system.Cause) (p : S) (now : ℕ) → w.sum_of_levels (system.plan_after m w plan u cause p now) ≤ w.sum_of_levels plan + 8
    after_little plan u None p now = omega arith
    after_little plan u (Some cause) p now = ends.leaves plan u cause p now

    goes_little : (s : SystemState S P F) (x : Service) (p : S) → w.sum_of_levels (system.goes m w x p s).plan ≤ w.sum_of_levels s.plan + 16
    goes_little s x p =
        let t = system.clock_for (m.asks_clock p) s.clock in
        let r = system.reply_for m w s.files (m.asks_common p) in
        let q = m.step p t r in
        let cause = system.cause_of (m.ending p t r) (w.time_left s.plan x.user) in
        let ticked = w.charged s.plan x.user (suc s.clock) in
        omega (arith, ends.gave_up (system.plan_after m w ticked x.user cause q (suc s.clock)) x.user q (m.ending p t r) (suc s.clock), after_little ticked x.user cause q (suc s.clock), ends.charged s.plan x.user (suc s.clock))

    stepped_falls : (limit : ℕ) (s : SystemState S P F) (x : Service) → s.clock < limit → measure m w limit (system.stepped m w x s) < measure m w limit s
    stepped_falls limit s x h =
        elim (m.can_step (state_of m w s x.user)) as (λ b. measure m w limit (if b then system.goes m w x (state_of m w s x.user) s else system.waits m w x (state_of m w s x.user) s) < measure m w limit s) [
          | true ↦ to_later limit s (system.goes m w x (state_of m w s x.user) s) (omega arith) h refl (goes_little s x (state_of m w s x.user))
          | false ↦ to_later limit s (system.waits m w x (state_of m w s x.user) s) (omega arith) h refl
              (omega (arith, ends.leaves (w.charged s.plan x.user (suc s.clock)) x.user system.Wait (state_of m w s x.user) (suc s.clock), ends.charged s.plan x.user (suc s.clock)))
        ]

    attended_falls : (limit : ℕ) (s : SystemState S P F) (x : Service) → w.choose s.plan ≡ Some x.user → s.clock < limit → measure m w limit (system.attended m w x s) < measure m w limit s
    attended_falls limit s x is h = by_test (w.must_load s.plan x.user (state_of m w s x.user)) refl
      where
        by_test : (b : Bool) → w.must_load s.plan x.user (state_of m w s x.user) ≡ b → measure m w limit (if b then system.swapped m w x.user s else system.stepped m w x s) < measure m w limit s
        by_test true e = loaded ends limit s x.user is e
        by_test false e = stepped_falls limit s x h

    otherwise_falls : (limit : ℕ) (s : SystemState S P F) (chosen : Option ℕ) (service : Option Service) → w.choose s.plan ≡ chosen → s.service ≡ service → s.clock < limit → s.clock < system.next_tick limit s.events →
        measure m w limit (system.otherwise m w limit chosen service s) < measure m w limit s
    otherwise_falls limit s None None is serves h k = to_later limit s (system.idled m w limit s) k h refl (omega arith)
    otherwise_falls limit s None (Some x) is serves h k = closed limit s (system.preempt m w x s) x serves refl refl refl (ends.preempted s.plan x.user s.clock)
    otherwise_falls limit s (Some v) None is serves h k = attended_falls limit s _ is h
    otherwise_falls limit s (Some v) (Some x) is serves h k =
        elim (eqb_tells x.user v) [
          | inl q ↦ rw q.0 (attended_falls limit s x (is ∙ ap Some (sym q.1)) h)
          | inr q ↦ rw q.0 (closed limit s (system.preempt m w x s) x serves refl refl refl (ends.preempted s.plan x.user s.clock))
        ]

    quiet_falls : (limit : ℕ) (s : SystemState S P F) (rising : Option (ℕ × ℕ)) → w.rises s.plan (system.served_of s.service) s.clock ≡ rising → s.clock < limit → s.clock < system.next_tick limit s.events →
        measure m w limit (system.quiet_by m w limit rising s) < measure m w limit s
    quiet_falls limit s None is h k = otherwise_falls limit s (w.choose s.plan) s.service refl refl h k
    quiet_falls limit s (Some x) is h k = rose limit s (system.rise m w x.0 x.1 s) refl refl refl (ends.risen s.plan (system.served_of s.service) s.clock x.0 x.1 is)

    next_falls : (limit : ℕ) (s : SystemState S P F) (events : List Timed) → s.events ≡ events → s.clock < limit → measure m w limit (system.next_by m w limit events s) < measure m w limit s
    next_falls limit s [] is h = quiet_falls limit s _ refl h (rw is h)
    next_falls limit s (e ∷ rest) is h = by_test (nat_le e.tick s.clock) refl
      where
        by_test : (b : Bool) → nat_le e.tick s.clock ≡ b → measure m w limit (if b then system.taken m w e rest s else system.quiet m w limit s) < measure m w limit s
        by_test true q = taken_falls limit e rest s is
        by_test false q = quiet_falls limit s _ refl h (rw is (omega (arith, leb-false e.tick s.clock q)))

    -- each run ends
    pub falls : (limit : ℕ) → Falls (clock_is_below m w limit) (next m w limit) (measure m w limit)
    falls limit s e = next_falls limit s s.events refl (ltb-true s.clock limit e)
