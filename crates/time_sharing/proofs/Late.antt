-- Events that come at the limit or after it change nothing before it.
use Rattle.std.proofs.Common.{◌≡◌, ℕ, zero, suc, ◌<◌, ◌≤◌, Bool, true, false, nat_lt, nat_le, nat_eq, List, [], ◌∷◌, ◌++◌, Option, Some, None, refl, sym, ap, ◌∙◌, arith, if◌then◌else◌, ltb-true, length-append}
use Rattle.time_sharing.specs.Machine.{Machine}
use Rattle.time_sharing.specs.System as system
use Rattle.time_sharing.specs.System.{SystemState, World, Timed, Service, Console, Off, On, Password, Session, Dials, Types, Quits, Hangs, state_of, next, next_by, next_tick, otherwise, quiet_by, quiet}
use Rattle.time_sharing.specs.Repeat.{repeat}
use Rattle.time_sharing.specs.Record.{clock_is_below, iterate, run_to, measure, Ends, with_events, AreLate, as_number, must_load_of}
use Rattle.time_sharing.proofs.RepeatLaws.{repeat-enough}
use Rattle.time_sharing.proofs.Ending.{falls}
use Rattle.time_sharing.proofs.Given.{taken_given, attended_given, late_tick as is_later, not_due}
use Rattle.time_sharing.proofs.Limits.{run_in_parts}

late_tick : (limit : ℕ) (es : List Timed) → AreLate limit es → next_tick limit es ≡ limit
late_tick limit [] h = refl
late_tick limit (e ∷ es) h = omega (arith, h.0)

later_tick : (limit : ℕ) (events es : List Timed) → AreLate limit es → next_tick limit (events ++ es) ≡ next_tick limit events
later_tick limit [] es h = late_tick limit es h
later_tick limit (e ∷ events) es h = refl

module _ {S P F : Type 0} (m : Machine S) (w : World S P F) (es : List Timed) where
  abbrev g : SystemState S P F → SystemState S P F
  g s = with_events es s

  otherwise_given : (limit : ℕ) → AreLate limit es → (s : SystemState S P F) (chosen : Option ℕ) (service : Option Service) → otherwise m w limit chosen service (g s) ≡ g (otherwise m w limit chosen service s)
  otherwise_given limit late s None None = ap (λ c. record (g s) { clock = c; idling = Some (system.idle_from m w s.idling s.clock) }) (later_tick limit s.events es late)
  otherwise_given limit late s None (Some x) = refl
  otherwise_given limit late s (Some u) None = attended_given m w es s _
  otherwise_given limit late s (Some u) (Some x) =
      elim (nat_eq x.user u) as (λ b. (if b then system.attended m w x (g s) else system.preempt m w x (g s)) ≡ g (if b then system.attended m w x s else system.preempt m w x s)) [ true ↦ attended_given m w es s x | false ↦ refl ]

  quiet_given : (limit : ℕ) → AreLate limit es → (s : SystemState S P F) (x : Option (ℕ × ℕ)) → quiet_by m w limit x (g s) ≡ g (quiet_by m w limit x s)
  quiet_given limit late s None = otherwise_given limit late s (w.choose s.plan) s.service
  quiet_given limit late s (Some x) = refl

  next_given : (limit : ℕ) → AreLate limit es → (s : SystemState S P F) (events : List Timed) → s.events ≡ events → s.clock < limit → next_by m w limit (events ++ es) (g s) ≡ g (next_by m w limit events s)
  next_given limit late s [] is h = not_due m w es limit es (g s) (is_later m w es s.clock limit es h late) ∙ quiet_given limit late s _
  next_given limit late s (e ∷ rest) is h =
      elim (nat_le e.tick s.clock) as (λ b. (if b then system.taken m w e (rest ++ es) (g s) else quiet m w limit (g s)) ≡ g (if b then system.taken m w e rest s else quiet m w limit s))
      [ true ↦ taken_given m w es e rest s | false ↦ quiet_given limit late s _ ]

  iterate_given : (limit : ℕ) → AreLate limit es → (n : ℕ) (s : SystemState S P F) → iterate m w limit n (g s) ≡ g (iterate m w limit n s)
  iterate_given limit late zero s = refl
  iterate_given limit late (suc n) s = by_test (nat_lt s.clock limit) refl (iterate_given limit late n (next m w limit s))
    where
      by_test : (b : Bool) → nat_lt s.clock limit ≡ b → iterate m w limit n (g (next m w limit s)) ≡ g (iterate m w limit n (next m w limit s)) →
          (elim b [ true ↦ repeat (clock_is_below m w limit) (next m w limit) n (next m w limit (g s)) | false ↦ g s ]) ≡ g (elim b [ true ↦ repeat (clock_is_below m w limit) (next m w limit) n (next m w limit s) | false ↦ s ])
      by_test true q ih = ap (iterate m w limit n) (next_given limit late s s.events refl (ltb-true s.clock limit q)) ∙ ih
      by_test false q ih = refl

  same_load : (c : Option ℕ) (s : SystemState S P F) → must_load_of m w c (g s) ≡ must_load_of m w c s
  same_load None s = refl
  same_load (Some u) s = refl

  -- at most as many steps without those events
  fewer : (limit : ℕ) (s : SystemState S P F) → measure m w limit s ≤ measure m w limit (g s)
  fewer limit s = omega (arith, length-append s.events es, ap (as_number m w) (same_load (w.choose s.plan) s))

  module _ (ends : Ends w) where
    -- what is given late may be given before
    pub run_given : (limit : ℕ) → AreLate limit es → (s : SystemState S P F) → run_to m w limit (with_events es s) ≡ with_events es (run_to m w limit s)
    run_given limit late s =
        iterate_given limit late (measure m w limit (g s)) s
        ∙ ap (with_events es) (repeat-enough (clock_is_below m w limit) (next m w limit) (measure m w limit) (falls m w ends limit) (measure m w limit (g s)) (measure m w limit s) s (fewer limit s) (omega arith))

    -- a run, then more events, then a longer run: as if all events had been there
    pub run_then_given : (j k : ℕ) (s : SystemState S P F) → j ≤ k → AreLate j es → run_to m w k (with_events es (run_to m w j s)) ≡ run_to m w k (with_events es s)
    run_then_given j k s le late = ap (run_to m w k) (sym (run_given j late s)) ∙ run_in_parts m w ends j k (with_events es s) le
