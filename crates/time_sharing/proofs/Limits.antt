-- A run to one limit and then to a greater one is the run to the greater one.
use Rattle.std.proofs.Common.{◌≡◌, ◌≢◌, ℕ, zero, suc, ◌<◌, ◌≤◌, Bool, true, false, nat_lt, nat_le, List, [], ◌∷◌, Option, Some, None, refl, sym, ap, ◌∙◌, arith, if◌then◌else◌, ltb-true, lt-ltb, leb-true, ◌⊎◌, inl, inr}
use Rattle.std.proofs.lemmas.Bool.{cases_eq}
use Rattle.time_sharing.specs.Machine.{Machine}
use Rattle.time_sharing.specs.System as system
use Rattle.time_sharing.specs.System.{SystemState, World, Timed, Service, state_of, next, idled, next_tick, otherwise, quiet_by, quiet, next_by}
use Rattle.time_sharing.specs.Repeat.{repeat}
use Rattle.time_sharing.specs.Record.{clock_is_below, iterate, run_to, measure, Ends}
use Rattle.time_sharing.proofs.RepeatLaws.{whole-step}
use Rattle.time_sharing.proofs.Ending.{falls}

module _ {S P F : Type 0} (m : Machine S) (w : World S P F) where
  -- where no event is due, no user is chosen and no service is open, idling goes on
  rests : Ends w → (s : SystemState S P F) → w.choose s.plan ≡ None → s.service ≡ None → (limit c : ℕ) (from : Option ℕ) → quiet m w limit (record s { clock = c; idling = from }) ≡ idled m w limit (record s { clock = c; idling = from })
  rests ends s choice service limit c from =
      ap (λ x. quiet_by m w limit x (record s { clock = c; idling = from })) (ends.none_rises s.plan (system.served_of s.service) c choice) ∙ rw (choice, service) refl

  idles : Ends w → (s : SystemState S P F) (events : List Timed) → s.events ≡ events → w.choose s.plan ≡ None → s.service ≡ None → (limit c : ℕ) (from : Option ℕ) → c < next_tick (suc c) events →
      next_by m w limit events (record s { clock = c; idling = from }) ≡ idled m w limit (record s { clock = c; idling = from })
  idles ends s [] is choice service limit c from h = rests ends s choice service limit c from
  idles ends s (e ∷ rest) is choice service limit c from h = by_test (nat_le e.tick c) refl
    where
      by_test : (b : Bool) → nat_le e.tick c ≡ b → (if b then system.taken m w e rest (record s { clock = c; idling = from }) else quiet m w limit (record s { clock = c; idling = from })) ≡ idled m w limit (record s { clock = c; idling = from })
      by_test true q = absurd (omega (arith, leb-true e.tick c q))
      by_test false q = rests ends s choice service limit c from

  -- the limit matters to idling alone
  limit_matters : (s : SystemState S P F) (j k : ℕ) → (next m w j s ≡ next m w k s) ⊎ ((w.choose s.plan ≡ None) × (s.service ≡ None) × (next m w j s ≡ idled m w j s) × (next m w k s ≡ idled m w k s))
  limit_matters s j k = by_events s.events refl
    where
      by_choice : (c : Option ℕ) (v : Option Service) → w.choose s.plan ≡ c → s.service ≡ v →
          (otherwise m w j c v s ≡ otherwise m w k c v s) ⊎ ((w.choose s.plan ≡ None) × (s.service ≡ None) × (otherwise m w j c v s ≡ idled m w j s) × (otherwise m w k c v s ≡ idled m w k s))
      by_choice None None p q = inr (p, q, refl, refl)
      by_choice None (Some x) p q = inl refl
      by_choice (Some u) None p q = inl refl
      by_choice (Some u) (Some x) p q = inl refl

      by_rising : (x : Option (ℕ × ℕ)) → (quiet_by m w j x s ≡ quiet_by m w k x s) ⊎ ((w.choose s.plan ≡ None) × (s.service ≡ None) × (quiet_by m w j x s ≡ idled m w j s) × (quiet_by m w k x s ≡ idled m w k s))
      by_rising None = by_choice (w.choose s.plan) s.service refl refl
      by_rising (Some x) = inl refl

      by_events : (events : List Timed) → s.events ≡ events → (next_by m w j events s ≡ next_by m w k events s) ⊎ ((w.choose s.plan ≡ None) × (s.service ≡ None) × (next_by m w j events s ≡ idled m w j s) × (next_by m w k events s ≡ idled m w k s))
      by_events [] is = by_rising (w.rises s.plan (system.served_of s.service) s.clock)
      by_events (e ∷ rest) is = by_test (nat_le e.tick s.clock)
        where
          by_test : (b : Bool) →
              let one = λ (l : ℕ). if b then system.taken m w e rest s else quiet m w l s in
              (one j ≡ one k) ⊎ ((w.choose s.plan ≡ None) × (s.service ≡ None) × (one j ≡ idled m w j s) × (one k ≡ idled m w k s))
          by_test true = inl refl
          by_test false = by_rising (w.rises s.plan (system.served_of s.service) s.clock)

  module _ (ends : Ends w) where
    step_to : (limit : ℕ) (s : SystemState S P F) → s.clock < limit → run_to m w limit (next m w limit s) ≡ run_to m w limit s
    step_to limit s h = whole-step (clock_is_below m w limit) (next m w limit) (measure m w limit) (falls m w ends limit) s (lt-ltb s.clock limit h)

    -- idling to the lesser limit, and on
    idle_on : (j k : ℕ) (s : SystemState S P F) → j ≤ k → s.clock < j → w.choose s.plan ≡ None → s.service ≡ None → run_to m w k (idled m w j s) ≡ run_to m w k (idled m w k s)
    idle_on j k s le h choice service =
        elim (cases_eq (next_tick j s.events) (next_tick k s.events)) [
          | inl e ↦ ap (λ c. run_to m w k (record s { clock = c; idling = Some (system.idle_from m w s.idling s.clock) })) e
          | inr ne ↦
              let t = idled m w j s in
              let far = ticks s.events ne in
              sym (step_to k t (omega (arith, far.0, far.1))) ∙ ap (run_to m w k) (idles ends s s.events refl choice service k (next_tick j s.events) (Some (system.idle_from m w s.idling s.clock)) far.2)
        ]
      where
        ticks : (events : List Timed) → next_tick j events ≢ next_tick k events → (next_tick j events ≡ j) × (j < k) × (next_tick j events < next_tick (suc (next_tick j events)) events)
        ticks [] ne = (refl, omega arith, omega arith)
        ticks (e ∷ es) ne = (omega arith, omega arith, omega arith)

    one_step : (j k : ℕ) (s : SystemState S P F) → j ≤ k → s.clock < j → run_to m w k (next m w j s) ≡ run_to m w k s
    one_step j k s le h =
        elim (limit_matters s j k) [
          | inl e ↦ ap (run_to m w k) e ∙ step_to k s (omega arith)
          | inr i ↦ ap (run_to m w k) i.2 ∙ idle_on j k s le h i.0 i.1 ∙ ap (run_to m w k) (sym i.3) ∙ step_to k s (omega arith)
        ]

    by_test : (j k n : ℕ) (s : SystemState S P F) → j ≤ k → run_to m w k (iterate m w j n (next m w j s)) ≡ run_to m w k (next m w j s) → (b : Bool) → nat_lt s.clock j ≡ b →
        run_to m w k (elim b [ true ↦ repeat (clock_is_below m w j) (next m w j) n (next m w j s) | false ↦ s ]) ≡ run_to m w k s
    by_test j k n s le turns true q = turns ∙ one_step j k s le (ltb-true s.clock j q)
    by_test j k n s le turns false q = refl

    by_turns : (j k n : ℕ) (s : SystemState S P F) → j ≤ k → run_to m w k (iterate m w j n s) ≡ run_to m w k s
    by_turns j k zero s le = refl
    by_turns j k (suc n) s le = by_test j k n s le (by_turns j k n (next m w j s) le) (nat_lt s.clock j) refl

    pub run_in_parts : (j k : ℕ) (s : SystemState S P F) → j ≤ k → run_to m w k (run_to m w j s) ≡ run_to m w k s
    run_in_parts j k s le = by_turns j k (measure m w j s) s le
