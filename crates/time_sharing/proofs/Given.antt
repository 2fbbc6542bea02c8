-- What a step below a limit does where there are more events, none of which comes before the limit.
use Rattle.std.proofs.Common.{◌≡◌, ℕ, suc, ◌<◌, true, false, Bool, nat_lt, nat_le, nat_eq, List, [], ◌∷◌, ◌++◌, Option, Some, None, refl, sym, ap, subst, ◌∙◌, arith, if◌then◌else◌, leb-true, ◌⊎◌, inl, inr}
use Rattle.std.proofs.lemmas.Bool.{cases_Bool}
use Rattle.time_sharing.specs.Machine.{Machine, CutKind, Quit, Hang, Spent}
use Rattle.time_sharing.specs.System as system
use Rattle.time_sharing.specs.System.{SystemState, World, Timed, Service, Console, Off, On, Password, Session, Dials, Types, Quits, Hangs, state_of, next, next_by, next_tick, otherwise, quiet_by, quiet, idled}
use Rattle.time_sharing.specs.Record.{with_events, AreLate}

module _ {S P F : Type 0} (m : Machine S) (w : World S P F) (es : List Timed) where
  abbrev pub g : SystemState S P F → SystemState S P F
  g s = with_events es s

  stop_given : (v : ℕ) (service : Option Service) (s : SystemState S P F) → system.stop_served_of m w service v (g s) ≡ g (system.stop_served_of m w service v s)
  stop_given v None s = refl
  stop_given v (Some x) s = elim (nat_eq x.user v) as (λ b. (if b then system.end_service m w system.Stop x (g s) else g s) ≡ g (if b then system.end_service m w system.Stop x s else s)) [ true ↦ refl | false ↦ refl ]

  cut_given : (kind : CutKind) (c v : ℕ) (s : SystemState S P F) → system.cut_at m w kind c v (system.stop_served m w v (g s)) ≡ g (system.cut_at m w kind c v (system.stop_served m w v s))
  cut_given kind c v s = ap (system.cut_at m w kind c v) (stop_given v s.service s)

  idling_given : (idling : Option ℕ) (s : SystemState S P F) → system.end_idling_of m w idling (g s) ≡ g (system.end_idling_of m w idling s)
  idling_given None s = refl
  idling_given (Some from) s = refl

  console_given : (c : ℕ) (console : Console) (event : system.Event) (s : SystemState S P F) → system.at_console m w c console event (g s) ≡ g (system.at_console m w c console event s)
  console_given c Off Dials s = refl
  console_given c Off (Types l) s = refl
  console_given c Off Quits s = refl
  console_given c Off Hangs s = refl
  console_given c On Dials s = refl
  console_given c On (Types l) s = elim (w.asked l) as (λ n. system.asks_in m w c n (g s) ≡ g (system.asks_in m w c n s)) [ None ↦ refl | Some n ↦ refl ]
  console_given c On Quits s = refl
  console_given c On Hangs s = refl
  console_given c (Password name) Dials s = refl
  console_given c (Password name) (Types l) s =
      elim (w.check name l) as (λ n. system.logs_in m w c n (g s) ≡ g (system.logs_in m w c n s)) [
        | None ↦ refl
        | Some v ↦ elim (m.is_open (state_of m w s v)) as (λ b.
            (if b then system.heard m w c system.LineTaken On (system.Refused s.clock c 2 ∷ []) (g s) else system.opens m w c v (g s)) ≡ g (if b then system.heard m w c system.LineTaken On (system.Refused s.clock c 2 ∷ []) s else system.opens m w c v s)) [ true ↦ refl | false ↦ refl ]
      ]
  console_given c (Password name) Quits s = refl
  console_given c (Password name) Hangs s = refl
  console_given c (Session v) Dials s = refl
  console_given c (Session v) (Types l) s =
      elim (nat_lt (m.lines (state_of m w s v)) system.max_lines) as (λ b. (if b then system.line_at m w c v l (g s) else system.cut_at m w Spent c v (system.stop_served m w v (g s))) ≡ g (if b then system.line_at m w c v l s else system.cut_at m w Spent c v (system.stop_served m w v s)))
      [ true ↦ refl | false ↦ cut_given Spent c v s ]
  console_given c (Session v) Quits s = cut_given Quit c v s
  console_given c (Session v) Hangs s = cut_given Hang c v s

  pub taken_given : (e : Timed) (rest : List Timed) (s : SystemState S P F) → system.taken m w e (rest ++ es) (g s) ≡ g (system.taken m w e rest s)
  taken_given e rest s =
      let r = record s { events = rest } in
      let t = system.end_idling_of m w s.idling r in
      ap (λ z. system.at_console m w e.console (system.at Off z.consoles e.console) e.event z) (idling_given s.idling r)
      ∙ console_given e.console (system.at Off t.consoles e.console) e.event t

  stepped_given : (s : SystemState S P F) (x : Service) → system.stepped m w x (g s) ≡ g (system.stepped m w x s)
  stepped_given s x =
      elim (m.can_step (state_of m w s x.user)) as (λ b.
      (if b then system.goes m w x (state_of m w s x.user) (g s) else system.waits m w x (state_of m w s x.user) (g s)) ≡ g (if b then system.goes m w x (state_of m w s x.user) s else system.waits m w x (state_of m w s x.user) s)) [ true ↦ refl | false ↦ refl ]

  pub attended_given : (s : SystemState S P F) (x : Service) → system.attended m w x (g s) ≡ g (system.attended m w x s)
  attended_given s x =
      elim (w.must_load s.plan x.user (state_of m w s x.user)) as (λ b. (if b then system.swapped m w x.user (g s) else system.stepped m w x (g s)) ≡ g (if b then system.swapped m w x.user s else system.stepped m w x s)) [ true ↦ refl | false ↦ stepped_given s x ]

  -- no event is due
  pub not_due : (limit : ℕ) (events : List Timed) (s : SystemState S P F) → s.clock < next_tick (suc s.clock) events → next_by m w limit events s ≡ quiet m w limit s
  not_due limit [] s h = refl
  not_due limit (e ∷ rest) s h =
      elim (cases_Bool (nat_le e.tick s.clock)) [ inl q ↦ absurd (omega (arith, leb-true e.tick s.clock q, h)) | inr q ↦ rw q refl ]

  pub late_tick : (now limit : ℕ) (events : List Timed) → now < limit → AreLate limit events → now < next_tick (suc now) events
  late_tick now limit [] h late = omega arith
  late_tick now limit (e ∷ events) h late = omega (arith, h, late.0)

  -- A step to a state, and one with more events and a higher limit: these events change nothing, and the limit matters to idling alone.
  abbrev pub AreSteps : (j k : ℕ) → SystemState S P F → (less more : SystemState S P F) → Type 0
  AreSteps j k s less more = (more ≡ g less) ⊎ ((w.choose s.plan ≡ None) × (s.service ≡ None) × (less ≡ idled m w j s) × (more ≡ idled m w k (g s)))

  pub steps_with_more : (j k : ℕ) (s : SystemState S P F) → AreLate j es → s.clock < j → AreSteps j k s (next m w j s) (next m w k (g s))
  steps_with_more j k s late h = by_events s.events
    where
      by_choice : (chosen : Option ℕ) (service : Option Service) → w.choose s.plan ≡ chosen → s.service ≡ service → AreSteps j k s (otherwise m w j chosen service s) (otherwise m w k chosen service (g s))
      by_choice None None c v = inr (c, v, refl, refl)
      by_choice None (Some x) c v = inl refl
      by_choice (Some u) None c v = inl (attended_given s _)
      by_choice (Some u) (Some x) c v =
          inl (elim (nat_eq x.user u) as (λ b. (if b then system.attended m w x (g s) else system.preempt m w x (g s)) ≡ g (if b then system.attended m w x s else system.preempt m w x s)) [ true ↦ attended_given s x | false ↦ refl ])

      by_rising : (x : Option (ℕ × ℕ)) → AreSteps j k s (quiet_by m w j x s) (quiet_by m w k x (g s))
      by_rising None = by_choice (w.choose s.plan) s.service refl refl
      by_rising (Some x) = inl refl

      by_events : (events : List Timed) → AreSteps j k s (next_by m w j events s) (next_by m w k (events ++ es) (g s))
      by_events [] =
          subst (AreSteps j k s (quiet m w j s)) (sym (not_due k es (g s) (late_tick s.clock j es h late)))
          (by_rising (w.rises s.plan (system.served_of s.service) s.clock))
      by_events (e ∷ rest) = by_test (nat_le e.tick s.clock)
        where
          by_test : (b : Bool) → AreSteps j k s (if b then system.taken m w e rest s else quiet m w j s) (if b then system.taken m w e (rest ++ es) (g s) else quiet m w k (g s))
          by_test true = inl (taken_given e rest s)
          by_test false = by_rising (w.rises s.plan (system.served_of s.service) s.clock)
