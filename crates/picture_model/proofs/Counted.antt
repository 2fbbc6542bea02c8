-- As many owners as loads: each step adds to the schedule, and shows owners for each load that it adds.
use Rattle.std.proofs.Common.{◌≡◌, ℕ, zero, suc, ◌+◌, ◌≤◌, inl, inr, Bool, true, false, cond, nat_eq, nat_lt, nat_le, if◌then◌else◌, List, [], ◌∷◌, ◌++◌, length, drop, Option, Some, None, refl, sym, ap, ◌∙◌, arith, append_assoc, append-nil, length-append}
use Rattle.std.proofs.lemmas.List.{length-map}
use Rattle.ctss_types.specs.declared.file.FileBody.{FileBody}
use Rattle.time_sharing.specs.Machine.{Machine, CutKind, Spent, Quit, Hang}
use Rattle.time_sharing.specs.Rows.{machine}
use Rattle.time_sharing.specs.System as theory
use Rattle.time_sharing.specs.System.{SystemState, World, Timed, Service, Console, Event, Off, On, Password, Session, Dials, Types, Quits, Hangs, Entry, Taken, Login, Refused, Idle, Swap, Rise, Serve, Clock, Common, Cause, at}
use Rattle.user_model.specs.Session.{user_rows}
use Rattle.user_model.specs.User.{User}
use Rattle.plan_model.specs.Plan.{Plan}
use Rattle.system_model.specs.Run.{world, Run, State, next, run_to, ended, measure}
use Rattle.system_model.specs.Record.{start_of, record_of}
use Rattle.system_model.proofs.RunLaws.{measure_next, run_to_next, run_to_done}
use Rattle.picture_model.specs.Cores.{load_tick, load_ticks, owners_shown, owners_of}
use Rattle.picture_model.specs.Counted.{AsManyAsLoads}
use Rattle.picture_model.proofs.Owners.{quiet_writes, left_next, left_none, owners_left, lt_or_le}

-- the loads of two parts of a schedule

ticks-append : (xs ys : List Entry) → load_ticks (xs ++ ys) ≡ load_ticks xs ++ load_ticks ys
ticks-append [] ys = refl
ticks-append (x ∷ xs) ys =
    ap (λ (l : List ℕ). load_tick x ++ l) (ticks-append xs ys) ∙ sym (append_assoc (load_tick x) (load_ticks xs) (load_ticks ys))

loads : List Entry → ℕ
loads es = length (load_ticks es)

loads-append : (xs ys : List Entry) → loads (xs ++ ys) ≡ loads xs + loads ys
unfolding loads
loads-append xs ys = ap length (ticks-append xs ys) ∙ length-append (load_ticks xs) (load_ticks ys)

loads-one : (es : List Entry) (e : Entry) → load_tick e ≡ [] → loads (es ++ e ∷ []) ≡ loads es
unfolding loads
loads-one es e none =
    let all = loads-append es (e ∷ []) in
    let one : length (load_ticks (e ∷ [])) ≡ 0 = ap (λ (l : List ℕ). length (l ++ [])) none in
    omega (arith, all, one)

-- what a step writes stands behind what was written
record Adds (s t : State) : Type 0 where
  more : List Entry
  entries : t.entries ≡ s.entries ++ more

both : {s t u : State} → Adds s t → Adds t u → Adds s u
both {s = s} one two = record {
  more = one.more ++ two.more;
  entries = two.entries ∙ ap (λ (es : List Entry). es ++ two.more) one.entries ∙ append_assoc s.entries one.more two.more;
}

module _ (r : Run) where
  abbrev M : Machine User
  M = machine user_rows

  abbrev W : World User Plan (List FileBody)
  W = world r

  stopped_adds : (v : Option Service) (u : ℕ) (s : State) → Adds s (theory.stop_served_of M W v u s)
  stopped_adds None u s = record { more = []; entries = sym (append-nil s.entries) }
  stopped_adds (Some v) u s = by (nat_eq v.user u)
    where
      by : (b : Bool) → Adds s (if b then theory.end_service M W theory.Stop v s else s)
      by true = record { more = _; entries = refl }
      by false = record { more = []; entries = sym (append-nil s.entries) }

  cut_adds : (kind : CutKind) (c u : ℕ) (s : State) → Adds s (theory.cut_at M W kind c u (theory.stop_served M W u s))
  cut_adds kind c u s = both (stopped_adds s.service u s) (record { more = _; entries = refl })

  console_adds : (c : ℕ) (console : Console) (event : Event) (s : State) → Adds s (theory.at_console M W c console event s)
  console_adds c Off Dials s = record { more = _; entries = refl }
  console_adds c Off (Types l) s = record { more = _; entries = refl }
  console_adds c Off Quits s = record { more = _; entries = refl }
  console_adds c Off Hangs s = record { more = _; entries = refl }
  console_adds c On Dials s = record { more = _; entries = refl }
  console_adds c On (Types l) s = by (W.asked l)
    where
      by : (o : Option ℕ) → Adds s (theory.asks_in M W c o s)
      by None = record { more = _; entries = refl }
      by (Some name) = record { more = _; entries = refl }
  console_adds c On Quits s = record { more = _; entries = refl }
  console_adds c On Hangs s = record { more = _; entries = refl }
  console_adds c (Password name) Dials s = record { more = _; entries = refl }
  console_adds c (Password name) (Types l) s = by (W.check name l)
    where
      open_case : (u : ℕ) (b : Bool) → Adds s (if b then theory.heard M W c theory.LineTaken On (Refused s.clock c 2 ∷ []) s else theory.opens M W c u s)
      open_case u true = record { more = _; entries = refl }
      open_case u false = record { more = _; entries = refl }

      by : (o : Option ℕ) → Adds s (theory.logs_in M W c o s)
      by None = record { more = _; entries = refl }
      by (Some u) = open_case u (M.is_open (theory.state_of M W s u))
  console_adds c (Password name) Quits s = record { more = _; entries = refl }
  console_adds c (Password name) Hangs s = record { more = _; entries = refl }
  console_adds c (Session u) Dials s = record { more = _; entries = refl }
  console_adds c (Session u) (Types l) s = by (nat_lt (M.lines (theory.state_of M W s u)) theory.max_lines)
    where
      by : (b : Bool) → Adds s (if b then theory.line_at M W c u l s else theory.cut_at M W Spent c u (theory.stop_served M W u s))
      by true = record { more = _; entries = refl }
      by false = cut_adds Spent c u s
  console_adds c (Session u) Quits s = cut_adds Quit c u s
  console_adds c (Session u) Hangs s = cut_adds Hang c u s

  idle_adds : (from : Option ℕ) (rest : List Timed) (s : State) → Adds s (theory.end_idling_of M W from (record s { events = rest }))
  idle_adds None rest s = record { more = []; entries = sym (append-nil s.entries) }
  idle_adds (Some from) rest s = record { more = _; entries = refl }

  taken_adds : (e : Timed) (rest : List Timed) (s : State) → Adds s (theory.taken M W e rest s)
  taken_adds e rest s =
      let t : State = theory.end_idling_of M W s.idling (record s { events = rest }) in
      both (idle_adds s.idling rest s) (console_adds e.console (at Off t.consoles e.console) e.event t)

  next_adds : (limit : ℕ) → Adds r.system (next limit r).system
  unfolding next
  next_adds limit = by_events r.system.events refl
    where
      rests : Adds r.system (theory.quiet M W limit r.system)
      rests =
          let w = quiet_writes limit r (W.rises r.system.plan (theory.served_of r.system.service) r.system.clock) r.system in
          record { more = w.more; entries = w.entries }

      by_test : (e : Timed) (es : List Timed) → r.system.events ≡ e ∷ es → (b : Bool) → nat_le e.tick r.system.clock ≡ b
          → Adds r.system (cond b (theory.taken M W e es r.system) (theory.quiet M W limit r.system))
      by_test e es is true h = taken_adds e es r.system
      by_test e es is false h = rests

      by_events : (es : List Timed) → r.system.events ≡ es → Adds r.system (theory.next_by M W limit es r.system)
      by_events [] is = rests
      by_events (e ∷ es) is = by_test e es is (nat_le e.tick r.system.clock) refl

-- a step shows owners for each load that it adds
drop_front : (xs ys : List Entry) → drop (length xs) (xs ++ ys) ≡ ys
drop_front [] ys = refl
drop_front (x ∷ xs) ys = drop_front xs ys

step_counts : (limit : ℕ) (r : Run) → loads r.system.entries + length (owners_shown r (next limit r)) ≡ loads (next limit r).system.entries
unfolding loads
step_counts limit r =
    let a = next_adds r limit in
    let behind : drop (length r.system.entries) (next limit r).system.entries ≡ a.more =
    ap (λ (es : List Entry). drop (length r.system.entries) es) a.entries ∙ drop_front r.system.entries a.more in
    let shown : length (owners_shown r (next limit r)) ≡ length (load_ticks a.more) =
    length-map (load_ticks (drop (length r.system.entries) (next limit r).system.entries)) _ ∙ ap (λ (es : List Entry). length (load_ticks es)) behind in
    let all : length (load_ticks (next limit r).system.entries) ≡ length (load_ticks r.system.entries) + length (load_ticks a.more) =
    ap (λ (es : List Entry). length (load_ticks es)) a.entries ∙ loads-append r.system.entries a.more in
    omega (arith, shown, all)

left_done : (limit : ℕ) (r : Run) → limit ≤ r.system.clock → loads r.system.entries + length (owners_left limit r) ≡ loads (run_to limit r).system.entries
left_done limit r over =
    let none : length (owners_left limit r) ≡ 0 = ap length (left_none limit r over) in
    let same : loads (run_to limit r).system.entries ≡ loads r.system.entries = ap (λ (s : Run). loads s.system.entries) (run_to_done limit r over) in
    omega (arith, none, same)

-- and so do all steps to the limit
left_counts : (limit n : ℕ) (r : Run) → measure limit r ≤ n → loads r.system.entries + length (owners_left limit r) ≡ loads (run_to limit r).system.entries
left_counts limit zero r few = elim (lt_or_le r.system.clock limit) [
  | inl up ↦ absurd (let k = measure_next limit r up in omega (arith, few, k))
  | inr over ↦ left_done limit r over
]
left_counts limit (suc n) r few = elim (lt_or_le r.system.clock limit) [
  | inl up ↦
      (let k = measure_next limit r up in
      let later = left_counts limit n (next limit r) (omega (arith, few, k)) in
      let now = step_counts limit r in
      let parts : length (owners_left limit r) ≡ length (owners_shown r (next limit r)) + length (owners_left limit (next limit r)) =
      ap length (left_next limit r up) ∙ length-append (owners_shown r (next limit r)) (owners_left limit (next limit r)) in
      let same : loads (run_to limit (next limit r)).system.entries ≡ loads (run_to limit r).system.entries = ap (λ (s : Run). loads s.system.entries) (run_to_next limit r up) in
      omega (arith, later, now, parts, same))
  | inr over ↦ left_done limit r over
]

-- the end of a record is no load
end_loads : (r : Run) → loads (ended r).system.entries ≡ loads r.system.entries
unfolding ended
end_loads r = by_service r.system.service
  where
    by_idling : (s : State) (i : Option ℕ) → loads (theory.end_idling_of (machine user_rows) (world r) i s).entries ≡ loads s.entries
    by_idling s None = refl
    by_idling s (Some from) = loads-one s.entries (Idle from s.clock) refl

    by_service : (v : Option Service) → loads (let t = theory.end_open (machine user_rows) (world r) v r.system in theory.end_idling_of (machine user_rows) (world r) t.idling t).entries ≡ loads r.system.entries
    by_service None = by_idling r.system r.system.idling
    by_service (Some v) =
        let t : State = theory.end_service (machine user_rows) (world r) theory.AtEnd v r.system in
        by_idling t t.idling ∙ loads-one r.system.entries (Serve v.tick v.user v.level v.ran theory.AtEnd) refl

pub as_many_as_loads : AsManyAsLoads
unfolding owners_of start_of record_of loads
as_many_as_loads script =
    let all : 0 + length (owners_of script) ≡ length (load_ticks (record_of script).entries) =
    left_counts script.end (measure script.end (start_of script)) (start_of script) (omega arith)
    ∙ sym (end_loads (run_to script.end (start_of script))) in
    omega (arith, all)
