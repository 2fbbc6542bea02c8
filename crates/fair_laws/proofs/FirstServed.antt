-- Each tick is that of the user that is chosen.
use Rattle.std.proofs.Common.{◌≡◌, ◌≢◌, ℕ, zero, suc, ◌+◌, ◌<◌, true, false, if◌then◌else◌}
use Rattle.std.proofs.Common.{nat_eq, nat_lt, nat_le, List, [], ◌∷◌, ◌++◌, Option, Some, None, ◌⊎◌, inl, inr}
use Rattle.std.proofs.Common.{refl, sym, ap, ◌∙◌, arith, append-nil}
use Rattle.std.proofs.lemmas.Bool.Decides.{eqb_tells}
use Rattle.ctss_types.specs.declared.session.Waiting.{Waiting}
use Rattle.time_sharing.specs.Machine.{Machine, CutKind, Quit, Hang, Spent}
use Rattle.time_sharing.specs.Rows.{machine}
use Rattle.time_sharing.specs.System as system
use Rattle.time_sharing.specs.System.{SystemState, World, Timed, Service, Console, Off, On, Password, Session, Cause}
use Rattle.time_sharing.specs.System.{Dials, Types, Quits, Hangs, LineTaken, DialTaken, Stop, Preempt}
use Rattle.time_sharing.specs.System.{Wait as WaitCause}
use Rattle.time_sharing.specs.System.{Entry, Taken, Login, Refused, Idle, Swap, Rise, Serve}
use Rattle.time_sharing.specs.System.{at, state_of, next, cause_of, clock_for, service_after, service_entry}
use Rattle.time_sharing.specs.Feeds.{ran_of}
use Rattle.plan_model.specs.Levels.{Levels, first_of, user_of, chosen}
use Rattle.user_model.specs.Session.{user_rows}
use Rattle.system_model.specs.Run.{Run, world}
use Rattle.fair_laws.specs.Served.{ticks_in, ticks_of}
use Rattle.fair_laws.specs.Waits.{IsFirst}
use Rattle.fair_laws.specs.Laws.{TheFirstIsServed}
use Rattle.fair_laws.proofs.Queue.{row_of}
use Rattle.fair_laws.proofs.Wait.{ticks-append, before_service}

not_mine : (u : ℕ) (v : Service) (cause : Option Cause) → v.user ≢ u → ticks_in u (service_entry v cause) + ran_of u (service_after v cause) ≡ 0
not_mine u v None other = elim (eqb_tells v.user u) [ inl e ↦ absurd (other e.1) | inr e ↦ rw e.0 refl ]
not_mine u v (Some cause) other = elim (eqb_tells v.user u) [ inl e ↦ absurd (other e.1) | inr e ↦ rw e.0 refl ]

module _ {S P F : Type 0} (m : Machine S) (w : World S P F) (u : ℕ) where
  abbrev Same : SystemState S P F → SystemState S P F → Type 0
  Same s t = ticks_of u t ≡ ticks_of u s

  -- entries that tell of no service
  same_by : (s t : SystemState S P F) (more : List Entry) → t.entries ≡ s.entries ++ more → ticks_in u more ≡ 0
      → ran_of u t.service ≡ ran_of u s.service → Same s t
  same_by s t more added none ran =
      let a = ap (ticks_in u) added in
      let b = ticks-append u s.entries more in
      omega (arith, a, b, none, ran)

  same_then : (s t z : SystemState S P F) → Same s t → Same t z → Same s z
  same_then s t z f g = g ∙ f

  -- a service that ends has had its ticks
  ended_same : (s : SystemState S P F) (cause : Cause) (v : Service) → s.service ≡ Some v → Same s (system.end_service m w cause v s)
  ended_same s cause v is =
      let b = ticks-append u s.entries (Serve v.tick v.user v.level v.ran cause ∷ []) in
      let c = ap (ran_of u) is in
      omega (arith, b, c)

  stopped_same : (s : SystemState S P F) (x : ℕ) (o : Option Service) → s.service ≡ o → Same s (system.stop_served_of m w o x s)
  stopped_same s x None is = refl
  stopped_same s x (Some v) is =
      elim (nat_eq v.user x) as (λ b. Same s (if b then system.end_service m w Stop v s else s)) [ true ↦ ended_same s Stop v is | false ↦ refl ]

  cut_same : (s : SystemState S P F) (kind : CutKind) (c x : ℕ) → Same s (system.cut_at m w kind c x (system.stop_served m w x s))
  cut_same s kind c x =
      let t = system.stop_served m w x s in
      same_then s t (system.cut_at m w kind c x t) (stopped_same s x s.service refl)
      (same_by t (system.cut_at m w kind c x t) (Taken t.clock c (system.kind_of kind) x (m.own (state_of m w t x)) ∷ []) refl refl refl)

  console_same : (c : ℕ) (console : Console) (event : system.Event) (s : SystemState S P F) → Same s (system.at_console m w c console event s)
  console_same c Off Dials s = same_by s (system.at_console m w c Off Dials s) _ refl refl refl
  console_same c Off (Types l) s = same_by s (system.at_console m w c Off (Types l) s) _ refl refl refl
  console_same c Off Quits s = same_by s (system.at_console m w c Off Quits s) _ refl refl refl
  console_same c Off Hangs s = same_by s (system.at_console m w c Off Hangs s) _ refl refl refl
  console_same c On Dials s = same_by s (system.at_console m w c On Dials s) _ refl refl refl
  console_same c On (Types l) s =
      elim (w.asked l) as (λ n. Same s (system.asks_in m w c n s)) [
        | None ↦ same_by s (system.asks_in m w c None s) _ refl refl refl
        | Some n ↦ same_by s (system.asks_in m w c (Some n) s) _ refl refl refl
      ]
  console_same c On Quits s = same_by s (system.at_console m w c On Quits s) _ refl refl refl
  console_same c On Hangs s = same_by s (system.at_console m w c On Hangs s) _ refl refl refl
  console_same c (Password name) Dials s = same_by s (system.at_console m w c (Password name) Dials s) _ refl refl refl
  console_same c (Password name) (Types l) s =
      elim (w.check name l) as (λ o. Same s (system.logs_in m w c o s)) [
        | None ↦ same_by s (system.logs_in m w c None s) _ refl refl refl
        | Some v ↦
            elim (m.is_open (state_of m w s v))
            as (λ b. Same s (if b then system.heard m w c LineTaken On (Refused s.clock c 2 ∷ []) s else system.opens m w c v s)) [
              | true ↦ same_by s (system.heard m w c LineTaken On (Refused s.clock c 2 ∷ []) s) _ refl refl refl
              | false ↦ same_by s (system.opens m w c v s) (Taken s.clock c LineTaken 0 0 ∷ Login s.clock c v ∷ []) refl refl refl
            ]
      ]
  console_same c (Password name) Quits s = same_by s (system.at_console m w c (Password name) Quits s) _ refl refl refl
  console_same c (Password name) Hangs s = same_by s (system.at_console m w c (Password name) Hangs s) _ refl refl refl
  console_same c (Session x) Dials s =
      let more : List Entry = Taken s.clock c DialTaken x (m.own (state_of m w s x)) ∷ [] in
      same_by s (system.noted m w more s) more refl refl refl
  console_same c (Session x) (Types l) s =
      elim (nat_lt (m.lines (state_of m w s x)) system.max_lines)
      as (λ b. Same s (if b then system.line_at m w c x l s else system.cut_at m w Spent c x (system.stop_served m w x s))) [
        | true ↦ same_by s (system.line_at m w c x l s) (Taken s.clock c LineTaken x (m.own (state_of m w s x)) ∷ []) refl refl refl
        | false ↦ cut_same s Spent c x
      ]
  console_same c (Session x) Quits s = cut_same s Quit c x
  console_same c (Session x) Hangs s = cut_same s Hang c x

  idling_same : (s : SystemState S P F) (rest : List Timed) (o : Option ℕ) → Same s (system.end_idling_of m w o (record s { events = rest }))
  idling_same s rest None = refl
  idling_same s rest (Some from) =
      same_by s (system.end_idling_of m w (Some from) (record s { events = rest })) (Idle from s.clock ∷ []) refl refl refl

  taken_same : (e : Timed) (rest : List Timed) (s : SystemState S P F) → Same s (system.taken m w e rest s)
  taken_same e rest s =
      let t = system.end_idling_of m w s.idling (record s { events = rest }) in
      same_then s t (system.taken m w e rest s) (idling_same s rest s.idling) (console_same e.console (at Off t.consoles e.console) e.event t)

  preempt_same : (s : SystemState S P F) (v : Service) → s.service ≡ Some v → Same s (system.preempt m w v s)
  preempt_same s v is = ended_same s Preempt v is

  -- a step of a user that is another one
  goes_same : (v : Service) (s : SystemState S P F) → v.user ≢ u → ran_of u s.service ≡ 0 → Same s (system.goes m w v (state_of m w s v.user) s)
  goes_same v s other none =
      let p = state_of m w s v.user in
      let t = clock_for (m.asks_clock p) s.clock in
      let r = system.reply_for m w s.files (m.asks_common p) in
      let cause = cause_of (m.ending p t r) (w.time_left s.plan v.user) in
      let a = ticks-append u s.entries (system.clock_entry (m.asks_clock p) s.clock v.user ++ (system.common_entry (m.asks_common p) v.user r ++ service_entry v cause)) in
      let b = before_service u (m.asks_clock p) s.clock v.user (m.asks_common p) r (service_entry v cause) in
      let c = not_mine u v cause other in
      omega (arith, a, b, c, none)

  waits_same : (v : Service) (s : SystemState S P F) → v.user ≢ u → ran_of u s.service ≡ 0 → Same s (system.waits m w v (state_of m w s v.user) s)
  waits_same v s other none =
      let a = ticks-append u s.entries (Serve v.tick v.user v.level (suc v.ran) WaitCause ∷ []) in
      let c = not_mine u v (Some WaitCause) other in
      omega (arith, a, c, none)

  attended_same : (v : Service) (s : SystemState S P F) → v.user ≢ u → ran_of u s.service ≡ 0 → Same s (system.attended m w v s)
  attended_same v s other none =
      elim (w.must_load s.plan v.user (state_of m w s v.user)) as (λ b. Same s (if b then system.swapped m w v.user s else system.stepped m w v s)) [
        | true ↦ same_by s (system.swapped m w v.user s) (Swap _ _ _ _ _ ∷ []) refl refl refl
        | false ↦
            elim (m.can_step (state_of m w s v.user))
            as (λ b. Same s (if b then system.goes m w v (state_of m w s v.user) s else system.waits m w v (state_of m w s v.user) s))
            [ true ↦ goes_same v s other none | false ↦ waits_same v s other none ]
      ]

  abbrev Either : SystemState S P F → SystemState S P F → Type 0
  Either s t = (w.choose s.plan ≡ Some u) ⊎ Same s t

  attended_either : (v : Service) (s : SystemState S P F) → w.choose s.plan ≡ Some v.user → (v.user ≢ u → ran_of u s.service ≡ 0)
      → Either s (system.attended m w v s)
  attended_either v s is none = elim (eqb_tells v.user u) [ inl e ↦ inl (is ∙ ap Some e.1) | inr e ↦ inr (attended_same v s e.1 (none e.1)) ]

  served_another : (o : Option Service) (v : Service) → o ≡ Some v → v.user ≢ u → ran_of u o ≡ 0
  served_another o v is other = ap (ran_of u) is ∙ elim (eqb_tells v.user u) [ inl e ↦ absurd (other e.1) | inr e ↦ rw e.0 refl ]

  otherwise_either : (limit : ℕ) (s : SystemState S P F) (choice : Option ℕ) (service : Option Service) → w.choose s.plan ≡ choice → s.service ≡ service
      → Either s (system.otherwise m w limit choice service s)
  otherwise_either limit s None None is serves = inr (same_by s (system.idled m w limit s) [] (sym (append-nil s.entries)) refl refl)
  otherwise_either limit s None (Some x) is serves = inr (preempt_same s x serves)
  otherwise_either limit s (Some h) None is serves = attended_either _ s is (λ other. ap (ran_of u) serves)
  otherwise_either limit s (Some h) (Some x) is serves =
      elim (eqb_tells x.user h) [
        | inl q ↦ rw q.0 (attended_either x s (is ∙ ap Some (sym q.1)) (served_another s.service x serves))
        | inr q ↦ rw q.0 (inr (preempt_same s x serves))
      ]

  quiet_either : (limit : ℕ) (s : SystemState S P F) (o : Option (ℕ × ℕ)) → Either s (system.quiet_by m w limit o s)
  quiet_either limit s None = otherwise_either limit s (w.choose s.plan) s.service refl refl
  quiet_either limit s (Some x) = inr (same_by s (system.rise m w x.0 x.1 s) (Rise _ _ _ ∷ []) refl refl refl)

  next_either : (limit : ℕ) (s : SystemState S P F) (events : List Timed) → Either s (system.next_by m w limit events s)
  next_either limit s [] = quiet_either limit s _
  next_either limit s (e ∷ rest) =
      elim (nat_le e.tick s.clock) as (λ b. Either s (if b then system.taken m w e rest s else system.quiet m w limit s))
      [ true ↦ inr (taken_same e rest s) | false ↦ quiet_either limit s _ ]

  pub chosen_or_same : (limit : ℕ) (s : SystemState S P F) → Either s (next m w limit s)
  chosen_or_same limit s = next_either limit s s.events

-- the user that is chosen is the first of the lowest level that has users

head_at : (u l : ℕ) (rows : List (List Waiting)) → user_of (first_of l rows) ≡ Some u
    → (k : ℕ) × (x : Waiting) × (xs : List Waiting) × (row_of k rows ≡ x ∷ xs) × (x.user ≡ u) × ((j : ℕ) → j < k → row_of j rows ≡ [])
head_at u l [] e = cc
head_at u l ([] ∷ rows) e =
    let r = head_at u (suc l) rows e in
    (suc r.0, r.1, r.2, r.3, r.4, λ j low. empty r.0 r.5 j low)
  where
    empty : (k : ℕ) → ((j : ℕ) → j < k → row_of j rows ≡ []) → (j : ℕ) → j < suc k → row_of j ([] ∷ rows) ≡ []
    empty k rest zero low = refl
    empty k rest (suc j) low = rest j (omega (arith, low))
head_at u l ((x ∷ xs) ∷ rows) e = (zero, x, xs, refl, cc, λ j low. absurd (omega (arith, low)))

is_first : (u : ℕ) (q : Levels) → user_of (chosen q) ≡ Some u → IsFirst u q
unfolding chosen
is_first u q e =
    let h = head_at u 0 q.rows e in
    record { level = h.0; entry = h.1; others = h.2; head = h.3; user = h.4; lowest = h.5 }

pub the_first_is_served : TheFirstIsServed
unfolding Rattle.system_model.specs.Run.next
the_first_is_served limit u r more =
    elim (chosen_or_same (machine user_rows) (world r) u limit r.system) [
      | inl e ↦ is_first u r.system.plan.levels e
      | inr e ↦ absurd (omega (arith, more, e))
    ]
