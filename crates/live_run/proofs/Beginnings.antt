-- A run only adds to its schedule and to its users' transcripts, so those of a run that stopped are beginnings of the whole one's.
use Rattle.std.proofs.Common.{◌≡◌, ℕ, zero, suc, Bool, true, false, nat_lt, nat_le, nat_eq, List, [], ◌∷◌, ◌++◌, map, set, get_or, Option, Some, None, refl, sym, ap, subst, ◌∙◌, arith, append_assoc, if◌then◌else◌}
use Rattle.std.proofs.lemmas.Bool.Decides.{nat_tests}
use Rattle.std.proofs.lemmas.List.{append-nil}
use Rattle.time_sharing.specs.Machine.{Machine, Line, Item, Reply, CutKind, Quit, Hang, Spent, End}
use Rattle.time_sharing.specs.Rows.{machine}
use Rattle.time_sharing.specs.System as system
use Rattle.time_sharing.specs.System.{SystemState, World, Timed, Service, Console, Event, Off, On, Password, Session, Dials, Types, Quits, Hangs, state_of}
use Rattle.time_sharing.specs.Record as whole
use Rattle.user_model.specs.User.{User}
use Rattle.user_model.specs.Session.{user_rows, nobody}
use Rattle.supervisor.specs.Seen.{record_so_far}
use Rattle.system_model.specs.Run.{world, Run, State, next, run_to, ended, AfterSteps, with_all_events}
use Rattle.system_model.specs.Record.{start_of, record_of, record_from}
use Rattle.system_model.proofs.RunLaws.{run_to_next}
use Rattle.live_run.specs.Parts.{Part, run_in}
use Rattle.live_run.specs.Beginnings.{IsBeginning, IsBeginningOf, StoppedRunsAreBeginnings, StoppedPartsAreBeginnings}
use Rattle.live_run.proofs.InParts.{live_runs_are_replays}

nothing : {A : Type 0} (xs all : List A) → all ≡ xs → IsBeginning xs all
nothing xs all e = ([], e ∙ sym (append-nil xs))

behind : {A : Type 0} (xs ys zs : List A) → IsBeginning xs ys → IsBeginning ys zs → IsBeginning xs zs
behind {A = A} xs ys zs a b = (a.0 ++ b.0, b.1 ∙ ap (λ (l : List A). l ++ b.0) a.1 ∙ append_assoc xs a.0 b.0)

-- a machine that only adds to its transcript
record OnlyAdds {S : Type 0} (m : Machine S) : Type 0 where
  typed : (p : S) (l : Line) → IsBeginning (m.transcript p) (m.transcript (m.typed p l))
  opened : (p : S) → IsBeginning (m.transcript p) (m.transcript (m.opened p))
  cut : (kind : CutKind) (p : S) → IsBeginning (m.transcript p) (m.transcript (m.cut kind p))
  step : (p : S) (t : ℕ) (r : Reply) → IsBeginning (m.transcript p) (m.transcript (m.step p t r))

module _ {S P F : Type 0} (m : Machine S) (w : World S P F) (adds : OnlyAdds m) where
  -- each user's transcript has more at its end
  abbrev SayMore : List S → List S → Type 0
  SayMore us vs = (k : ℕ) → IsBeginning (m.transcript (get_or us k w.nobody)) (m.transcript (get_or vs k w.nobody))

  say_same : (us : List S) → SayMore us us
  say_same us = λ k. nothing (m.transcript (get_or us k w.nobody)) (m.transcript (get_or us k w.nobody)) refl

  set_more : (us : List S) (n : ℕ) (p : S) → IsBeginning (m.transcript (get_or us n w.nobody)) (m.transcript p) → SayMore us (set us n p)
  set_more [] n p h = say_same []
  set_more (x ∷ us) zero p h = λ k. at_first k
    where
      at_first : (k : ℕ) → IsBeginning (m.transcript (get_or (x ∷ us) k w.nobody)) (m.transcript (get_or (p ∷ us) k w.nobody))
      at_first zero = h
      at_first (suc k) = say_same us k
  set_more (x ∷ us) (suc n) p h = λ k. elim k as (λ k. IsBeginning (m.transcript (get_or (x ∷ us) k w.nobody)) (m.transcript (get_or (x ∷ set us n p) k w.nobody))) [ zero ↦ say_same (x ∷ us) 0 | suc k ↦ set_more us n p h k ]

  put_more : (us : List S) (u : ℕ) (p : S) → IsBeginning (m.transcript (system.at w.nobody us u)) (m.transcript p) → SayMore us (system.put us u p)
  put_more us zero p h = say_same us
  put_more us (suc n) p h = set_more us n p h

  abbrev Adds : SystemState S P F → SystemState S P F → Type 0
  Adds s t = IsBeginning s.entries t.entries × SayMore s.users t.users

  same : (s : SystemState S P F) → Adds s s
  same s = (nothing s.entries s.entries refl, say_same s.users)

  both : (r s t : SystemState S P F) → Adds r s → Adds s t → Adds r t
  both r s t a b = (
    behind r.entries s.entries t.entries a.0 b.0,
    λ k. behind (m.transcript (get_or r.users k w.nobody)) (m.transcript (get_or s.users k w.nobody)) (m.transcript (get_or t.users k w.nobody)) (a.1 k) (b.1 k),
  )

  idling_adds : (idling : Option ℕ) (s : SystemState S P F) → Adds s (system.end_idling_of m w idling s)
  idling_adds None s = same s
  idling_adds (Some from) s = ((system.Idle from s.clock ∷ [], refl), say_same s.users)

  stop_adds : (service : Option Service) (u : ℕ) (s : SystemState S P F) → Adds s (system.stop_served_of m w service u s)
  stop_adds None u s = same s
  stop_adds (Some v) u s =
      elim (nat_eq v.user u) as (λ b. Adds s (if b then system.end_service m w system.Stop v s else s))
      [ true ↦ ((system.Serve v.tick v.user v.level v.ran system.Stop ∷ [], refl), say_same s.users) | false ↦ same s ]

  cut_adds : (kind : CutKind) (c u : ℕ) (s : SystemState S P F) → Adds s (system.cut_at m w kind c u (system.stop_served m w u s))
  cut_adds kind c u s =
      let t : SystemState S P F = system.stop_served m w u s in
      both s t (system.cut_at m w kind c u t) (stop_adds s.service u s)
      ((system.Taken t.clock c (system.kind_of kind) u (m.own (state_of m w t u)) ∷ [], refl), put_more t.users u (m.cut kind (state_of m w t u)) (adds.cut kind (state_of m w t u)))

  console_adds : (c : ℕ) (console : Console) (event : Event) (s : SystemState S P F) → Adds s (system.at_console m w c console event s)
  console_adds c Off Dials s = ((_, refl), say_same s.users)
  console_adds c Off (Types l) s = ((_, refl), say_same s.users)
  console_adds c Off Quits s = ((_, refl), say_same s.users)
  console_adds c Off Hangs s = ((_, refl), say_same s.users)
  console_adds c On Dials s = ((_, refl), say_same s.users)
  console_adds c On (Types l) s = elim (w.asked l) as (λ n. Adds s (system.asks_in m w c n s)) [ None ↦ ((_, refl), say_same s.users) | Some n ↦ ((_, refl), say_same s.users) ]
  console_adds c On Quits s = ((_, refl), say_same s.users)
  console_adds c On Hangs s = ((_, refl), say_same s.users)
  console_adds c (Password name) Dials s = ((_, refl), say_same s.users)
  console_adds c (Password name) (Types l) s =
      elim (w.check name l) as (λ n. Adds s (system.logs_in m w c n s)) [
        | None ↦ ((_, refl), say_same s.users)
        | Some v ↦ elim (m.is_open (state_of m w s v)) as (λ b. Adds s (if b then system.heard m w c system.LineTaken On (system.Refused s.clock c 2 ∷ []) s else system.opens m w c v s))
            [ true ↦ ((_, refl), say_same s.users) | false ↦ ((_, refl), put_more s.users v (m.opened (state_of m w s v)) (adds.opened (state_of m w s v))) ]
      ]
  console_adds c (Password name) Quits s = ((_, refl), say_same s.users)
  console_adds c (Password name) Hangs s = ((_, refl), say_same s.users)
  console_adds c (Session v) Dials s = ((_, refl), say_same s.users)
  console_adds c (Session v) (Types l) s =
      elim (nat_lt (m.lines (state_of m w s v)) system.max_lines) as (λ b. Adds s (if b then system.line_at m w c v l s else system.cut_at m w Spent c v (system.stop_served m w v s)))
      [ true ↦ ((_, refl), put_more s.users v (m.typed (state_of m w s v) l) (adds.typed (state_of m w s v) l)) | false ↦ cut_adds Spent c v s ]
  console_adds c (Session v) Quits s = cut_adds Quit c v s
  console_adds c (Session v) Hangs s = cut_adds Hang c v s

  taken_adds : (e : Timed) (rest : List Timed) (s : SystemState S P F) → Adds s (system.taken m w e rest s)
  taken_adds e rest s =
      let r : SystemState S P F = record s { events = rest } in
      let t : SystemState S P F = system.end_idling_of m w s.idling r in
      both s t (system.taken m w e rest s) (idling_adds s.idling r) (console_adds e.console (system.at Off t.consoles e.console) e.event t)

  stepped_adds : (x : Service) (s : SystemState S P F) → Adds s (system.stepped m w x s)
  stepped_adds x s =
      elim (m.can_step (state_of m w s x.user)) as (λ b. Adds s (if b then system.goes m w x (state_of m w s x.user) s else system.waits m w x (state_of m w s x.user) s))
      [ true ↦ ((_, refl), put_more s.users x.user _ (adds.step (state_of m w s x.user) _ _)) | false ↦ ((_, refl), say_same s.users) ]

  attended_adds : (x : Service) (s : SystemState S P F) → Adds s (system.attended m w x s)
  attended_adds x s =
      elim (w.must_load s.plan x.user (state_of m w s x.user)) as (λ b. Adds s (if b then system.swapped m w x.user s else system.stepped m w x s))
      [ true ↦ ((_, refl), say_same s.users) | false ↦ stepped_adds x s ]

  otherwise_adds : (limit : ℕ) (chosen : Option ℕ) (service : Option Service) (s : SystemState S P F) → Adds s (system.otherwise m w limit chosen service s)
  otherwise_adds limit None None s = same s
  otherwise_adds limit None (Some x) s = ((_, refl), say_same s.users)
  otherwise_adds limit (Some v) None s = attended_adds _ s
  otherwise_adds limit (Some v) (Some x) s =
      elim (nat_eq x.user v) as (λ b. Adds s (if b then system.attended m w x s else system.preempt m w x s)) [ true ↦ attended_adds x s | false ↦ ((_, refl), say_same s.users) ]

  quiet_adds : (limit : ℕ) (rising : Option (ℕ × ℕ)) (s : SystemState S P F) → Adds s (system.quiet_by m w limit rising s)
  quiet_adds limit None s = otherwise_adds limit (w.choose s.plan) s.service s
  quiet_adds limit (Some x) s = ((_, refl), say_same s.users)

  next_adds : (limit : ℕ) (events : List Timed) (s : SystemState S P F) → Adds s (system.next_by m w limit events s)
  next_adds limit [] s = quiet_adds limit _ s
  next_adds limit (e ∷ rest) s =
      elim (nat_le e.tick s.clock) as (λ b. Adds s (if b then system.taken m w e rest s else system.quiet m w limit s))
      [ true ↦ taken_adds e rest s | false ↦ quiet_adds limit _ s ]

  steps_add : (limit n : ℕ) (s : SystemState S P F) → Adds s (whole.iterate m w limit n s)
  steps_add limit zero s = same s
  steps_add limit (suc n) s =
      elim (whole.clock_is_below m w limit s) as (λ b. Adds s (elim b [ true ↦ whole.iterate m w limit n (system.next m w limit s) | false ↦ s ])) [
        | true ↦ both s (system.next m w limit s) (whole.iterate m w limit n (system.next m w limit s)) (next_adds limit s.events s) (steps_add limit n (system.next m w limit s))
        | false ↦ same s
      ]

  open_adds : (service : Option Service) (s : SystemState S P F) → Adds s (system.end_open m w service s)
  open_adds None s = same s
  open_adds (Some v) s = ((_, refl), say_same s.users)

  ended_adds : (s : SystemState S P F) → Adds s (system.ended m w s)
  ended_adds s =
      let t : SystemState S P F = system.end_open m w s.service s in
      both s t (system.ended m w s) (open_adds s.service s) (idling_adds t.idling t)

cut_adds_to : (kind : CutKind) (p : User) → IsBeginning p.transcript ((machine user_rows).cut kind p).transcript
cut_adds_to Quit p = (_, refl)
cut_adds_to Hang p = (_, refl)
cut_adds_to Spent p = (_, refl)
cut_adds_to End p = nothing p.transcript p.transcript refl

users_add : OnlyAdds (machine user_rows)
users_add = record {
  typed = λ p l. nothing p.transcript p.transcript refl;
  opened = λ p. (_, refl);
  cut = cut_adds_to;
  step = λ p t r. (_, refl);
}

abbrev AddsTo : Run → Run → Type 0
AddsTo r s = IsBeginning r.system.entries s.system.entries × SayMore (machine user_rows) (world r) users_add r.system.users s.system.users

-- a run adds to its state, and so does its end
run_adds : (limit : ℕ) (r : Run) → AddsTo r (run_to limit r)
unfolding run_to
run_adds limit r = steps_add (machine user_rows) (world r) users_add limit (whole.measure (machine user_rows) (world r) limit r.system) r.system

record_adds : (r : Run) → AddsTo r (ended r)
unfolding ended
record_adds r = ended_adds (machine user_rows) (world r) users_add r.system

-- what was added to a run's state was added to its record
transcript_at : (us : List User) (k : ℕ) → get_or (map (λ (p : User). p.transcript) us) k [] ≡ (get_or us k nobody).transcript
transcript_at [] k = refl
transcript_at (p ∷ us) zero = refl
transcript_at (p ∷ us) (suc k) = transcript_at us k

recorded : (r s : Run) → AddsTo r s → IsBeginningOf (record_so_far r) (record_from s)
recorded r s h =
    record {
      entries = h.0;
      transcripts = λ k.
          (let a = transcript_at r.system.users k in
          let b = transcript_at s.system.users k in
          ((h.1 k).0, b ∙ (h.1 k).1 ∙ ap (λ (is : List Item). is ++ (h.1 k).0) (sym a)));
    }

-- after some steps the rest of a run is what it was
abbrev steps_of : ℕ → ℕ → Run → State
steps_of limit n r = whole.iterate (machine user_rows) (world r) limit n r.system

runs_on : (limit n : ℕ) (r at : Run) → at ≡ record r { system = steps_of limit n r } → run_to limit at ≡ run_to limit r
unfolding next
runs_on limit zero r at is = ap (run_to limit) is
runs_on limit (suc n) r at is = by_test (runs_on limit n (next limit r) at) (nat_lt r.system.clock limit) refl is
  where
    by_test : (at ≡ record (next limit r) { system = steps_of limit n (next limit r) } → run_to limit at ≡ run_to limit (next limit r))
        → (b : Bool) → nat_lt r.system.clock limit ≡ b → at ≡ record r { system = elim b [ true ↦ steps_of limit n (next limit r) | false ↦ r.system ] } → run_to limit at ≡ run_to limit r
    by_test on true e h = on h ∙ run_to_next limit r (grind (arith, e, nat_tests))
    by_test on false e h = ap (run_to limit) h

both_add : (r s t : Run) → AddsTo r s → AddsTo s t → AddsTo r t
both_add r s t a b = (
  behind r.system.entries s.system.entries t.system.entries a.0 b.0,
  λ k. behind (get_or r.system.users k nobody).transcript (get_or s.system.users k nobody).transcript (get_or t.system.users k nobody).transcript (a.1 k) (b.1 k),
)

stopped : (limit : ℕ) (r at : Run) → AfterSteps limit r at → IsBeginningOf (record_so_far at) (record_from (ended (run_to limit r)))
unfolding AfterSteps
stopped limit r at h =
    let on : run_to limit at ≡ run_to limit r = runs_on limit h.0 r at h.1 in
    recorded at (ended (run_to limit r)) (both_add at (run_to limit r) (ended (run_to limit r)) (subst (AddsTo at) on (run_adds limit at)) (record_adds (run_to limit r)))

pub stopped_runs_are_beginnings : StoppedRunsAreBeginnings
unfolding record_of
stopped_runs_are_beginnings script at h = stopped script.end (start_of script) at h

one_part_more : (parts : List Part) (p : Part) (r : Run) → run_in (parts ++ p ∷ []) r ≡ run_to p.limit (with_all_events p.events (run_in parts r))
one_part_more [] p r = refl
one_part_more (q ∷ parts) p r = one_part_more parts p (run_to q.limit (with_all_events q.events r))

pub stopped_parts_are_beginnings : StoppedPartsAreBeginnings
stopped_parts_are_beginnings base parts p last at order h =
    let r : Run = start_of (record base { events = [] }) in
    subst (IsBeginningOf (record_so_far at))
    (ap (λ (x : Run). record_from (ended x)) (sym (one_part_more parts p r)) ∙ live_runs_are_replays base (parts ++ p ∷ []) last order)
    (stopped p.limit (with_all_events p.events (run_in parts r)) at h)
