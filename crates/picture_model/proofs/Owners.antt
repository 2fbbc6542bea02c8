-- Owners after each load, step by step: what more steps add, and that steps which write no entry add nothing.
use Rattle.std.proofs.Common.{◌≡◌, ℕ, zero, suc, ◌<◌, ◌≤◌, ◌⊎◌, inl, inr, Bool, true, false, cond, nat_lt, nat_le, List, [], ◌∷◌, ◌++◌, map, length, drop, Option, Some, None, refl, sym, ap, ◌∙◌, arith, lt-ltb, le-ltb, append-nil, length-append}
use Rattle.std.proofs.lemmas.Bool.Decides.{nat_tests}
use Rattle.std.proofs.lemmas.List.{drop_all}
use Rattle.time_sharing.specs.Machine.{Ending, Went, Stopped, Resized, Replaced, LoggedOut}
use Rattle.time_sharing.specs.Rows.{machine}
use Rattle.time_sharing.specs.System as theory
use Rattle.time_sharing.specs.System.{Timed, Service, Entry, Cause, Serve, clock_entry, clock_for, common_entry, service_entry, cause_of}
use Rattle.user_model.specs.Session.{user_rows}
use Rattle.user_model.specs.User.{User}
use Rattle.plan_model.specs.Loads.{Places}
use Rattle.plan_model.specs.Plan.{Plan, places_after}
use Rattle.system_model.specs.Run.{world, Run, State, next, measure, due_of}
use Rattle.system_model.specs.Runs.{Passes}
use Rattle.system_model.proofs.PassLaws.{passes_keep}
use Rattle.system_model.proofs.RunLaws.{measure_next}
use Rattle.picture_model.specs.Cores.{load_ticks, owner_of, owners_shown, owners_from}

pub lt_or_le : (a b : ℕ) → (a < b) ⊎ (b ≤ a)
lt_or_le a b = by_test (nat_lt a b) refl
  where
    by_test : (t : Bool) → nat_lt a b ≡ t → (a < b) ⊎ (b ≤ a)
    by_test true e = inl (grind (arith, e, nat_tests))
    by_test false e = inr (grind (arith, e, nat_tests))

-- no owners are left once the clock is at the limit
owners_none : (limit n : ℕ) (r : Run) → limit ≤ r.system.clock → owners_from limit n r ≡ []
owners_none limit zero r over = refl
owners_none limit (suc n) r over =
    ap (λ (b : Bool). cond b (owners_shown r (next limit r) ++ owners_from limit n (next limit r)) []) (le-ltb r.system.clock limit over)

owners_next : (limit n : ℕ) (r : Run) → r.system.clock < limit
    → owners_from limit (suc n) r ≡ owners_shown r (next limit r) ++ owners_from limit n (next limit r)
owners_next limit n r up =
    ap (λ (b : Bool). cond b (owners_shown r (next limit r) ++ owners_from limit n (next limit r)) []) (lt-ltb r.system.clock limit up)

-- as many steps as the measure says are enough
owners_enough : (limit n m : ℕ) (r : Run) → measure limit r ≤ n → measure limit r ≤ m → owners_from limit n r ≡ owners_from limit m r
owners_enough limit zero m r one two = elim (lt_or_le r.system.clock limit) [
  | inl up ↦ absurd (let k = measure_next limit r up in omega (arith, one, k))
  | inr over ↦ sym (owners_none limit m r over)
]
owners_enough limit (suc n) zero r one two = elim (lt_or_le r.system.clock limit) [
  | inl up ↦ absurd (let k = measure_next limit r up in omega (arith, two, k))
  | inr over ↦ owners_none limit (suc n) r over
]
owners_enough limit (suc n) (suc m) r one two = elim (lt_or_le r.system.clock limit) [
  | inl up ↦
      (let k = measure_next limit r up in
      owners_next limit n r up
      ∙ ap (λ (l : List (ℕ → ℕ)). owners_shown r (next limit r) ++ l) (owners_enough limit n m (next limit r) (omega (arith, one, k)) (omega (arith, two, k)))
      ∙ sym (owners_next limit m r up))
  | inr over ↦ owners_none limit (suc n) r over ∙ sym (owners_none limit (suc m) r over)
]

-- the owners after each load that is still to come
abbrev pub owners_left : (limit : ℕ) → Run → List (ℕ → ℕ)
owners_left limit r = owners_from limit (measure limit r) r

pub left_next : (limit : ℕ) (r : Run) → r.system.clock < limit → owners_left limit r ≡ owners_shown r (next limit r) ++ owners_left limit (next limit r)
left_next limit r up =
    let k = measure_next limit r up in
    owners_enough limit (measure limit r) (suc (measure limit r)) r (omega arith) (omega arith)
    ∙ owners_next limit (measure limit r) r up
    ∙ ap (λ (l : List (ℕ → ℕ)). owners_shown r (next limit r) ++ l)
    (owners_enough limit (measure limit r) (measure limit (next limit r)) (next limit r) (omega (arith, k)) (omega arith))

pub left_none : (limit : ℕ) (r : Run) → limit ≤ r.system.clock → owners_left limit r ≡ []
left_none limit r over = owners_none limit (measure limit r) r over

-- a step that writes no entry tells of no load
none_shown : (old new : Run) → new.system.entries ≡ old.system.entries → owners_shown old new ≡ []
none_shown old new same =
    ap (λ (es : List Entry). map (λ tick. owner_of new) (load_ticks (drop (length old.system.entries) es))) same
    ∙ ap (λ (es : List Entry). map (λ tick. owner_of new) (load_ticks es)) (drop_all (length old.system.entries) old.system.entries (omega arith))

-- what is written at a step without an event; where that is nothing, users' blocks stay where they are
pub record Writes (s t : State) : Type 0 where
  pub more : List Entry
  pub entries : t.entries ≡ s.entries ++ more
  pub still : more ≡ [] → t.plan.places ≡ s.plan.places

never_none : (es fs : List Entry) (e : Entry) → es ++ (fs ++ e ∷ []) ≡ [] → ⊥
never_none [] [] e h = cc h
never_none [] (f ∷ fs) e h = cc h
never_none (d ∷ es) fs e h = cc h

-- where a step ends no service, its user keeps its blocks
keeps : (e : Ending) (left : Bool) (es fs : List Entry) (v : Service) (u n : ℕ) (places : Places)
    → es ++ (fs ++ service_entry v (cause_of e left)) ≡ [] → places_after e u n places ≡ places
keeps Went left es fs v u n places h = refl
keeps Stopped left es fs v u n places h = absurd (never_none es fs _ h)
keeps Resized left es fs v u n places h = absurd (never_none es fs _ h)
keeps Replaced left es fs v u n places h = absurd (never_none es fs _ h)
keeps LoggedOut left es fs v u n places h = absurd (never_none es fs _ h)

module _ (limit : ℕ) (r : Run) where
  abbrev M : Rattle.time_sharing.specs.Machine.Machine User
  M = machine user_rows

  abbrev W : theory.World User Plan (List Rattle.ctss_types.specs.declared.file.FileBody.FileBody)
  W = world r

  -- whatever the queues become
  plan_keeps : (q : Plan) (u : ℕ) (cause : Option Cause) (p : User) (now : ℕ) → (theory.plan_after M W q u cause p now).places ≡ q.places
  plan_keeps q u None p now = refl
  plan_keeps q u (Some cause) p now = refl

  goes_writes : (v : Service) (p : User) (s : State) → Writes s (theory.goes M W v p s)
  goes_writes v p s =
      let t : ℕ = clock_for (M.asks_clock p) s.clock in
      let reply = theory.reply_for M W s.files (M.asks_common p) in
      let e : Ending = M.ending p t reply in
      let left : Bool = W.time_left s.plan v.user in
      let q : Plan = theory.plan_after M W (W.charged s.plan v.user (suc s.clock)) v.user (cause_of e left) (M.step p t reply) (suc s.clock) in
      record {
        more = clock_entry (M.asks_clock p) s.clock v.user ++ (common_entry (M.asks_common p) v.user reply ++ service_entry v (cause_of e left));
        entries = refl;
        still = λ h.
            keeps e left (clock_entry (M.asks_clock p) s.clock v.user) (common_entry (M.asks_common p) v.user reply) v v.user _ q.places h
            ∙ plan_keeps (W.charged s.plan v.user (suc s.clock)) v.user (cause_of e left) (M.step p t reply) (suc s.clock);
      }

  attended_writes : (v : Service) (s : State) → Writes s (theory.attended M W v s)
  attended_writes v s = by_load (W.must_load s.plan v.user (theory.state_of M W s v.user))
    where
      by_step : (b : Bool) → Writes s (cond b (theory.goes M W v (theory.state_of M W s v.user) s) (theory.waits M W v (theory.state_of M W s v.user) s))
      by_step true = goes_writes v (theory.state_of M W s v.user) s
      by_step false = record { more = _; entries = refl; still = λ h. absurd (never_none [] [] _ h) }

      by_load : (b : Bool) → Writes s (cond b (theory.swapped M W v.user s) (theory.stepped M W v s))
      by_load true = record { more = _; entries = refl; still = λ h. absurd (never_none [] [] _ h) }
      by_load false = by_step (M.can_step (theory.state_of M W s v.user))

  otherwise_writes : (u : Option ℕ) (v : Option Service) (s : State) → Writes s (theory.otherwise M W limit u v s)
  otherwise_writes None None s = record { more = []; entries = sym (append-nil s.entries); still = λ h. refl }
  otherwise_writes None (Some v) s = record { more = _; entries = refl; still = λ h. absurd (never_none [] [] _ h) }
  otherwise_writes (Some u) None s = attended_writes (record { tick = s.clock; user = u; level = W.level s.plan u; ran = 0 }) s
  otherwise_writes (Some u) (Some v) s = by_same (Rattle.std.specs.Prelude.nat_eq v.user u)
    where
      by_same : (b : Bool) → Writes s (cond b (theory.attended M W v s) (theory.preempt M W v s))
      by_same true = attended_writes v s
      by_same false = record { more = _; entries = refl; still = λ h. absurd (never_none [] [] _ h) }

  pub quiet_writes : (o : Option (ℕ × ℕ)) (s : State) → Writes s (theory.quiet_by M W limit o s)
  quiet_writes None s = otherwise_writes (W.choose s.plan) s.service s
  quiet_writes (Some x) s = record { more = _; entries = refl; still = λ h. absurd (never_none [] [] _ h) }

  next_writes : due_of r.system.events r.system.clock ≡ None → Writes r.system (next limit r).system
  unfolding next
  next_writes quiet = by_events r.system.events quiet
    where
      rests : Writes r.system (theory.quiet M W limit r.system)
      rests = quiet_writes (W.rises r.system.plan (theory.served_of r.system.service) r.system.clock) r.system

      by_test : (e : Timed) (es : List Timed) (b : Bool) → cond b (Some e) None ≡ None
          → Writes r.system (cond b (theory.taken M W e es r.system) (theory.quiet M W limit r.system))
      by_test e es true h = cc h
      by_test e es false h = rests

      by_events : (es : List Timed) → due_of es r.system.clock ≡ None → Writes r.system (theory.next_by M W limit es r.system)
      by_events [] h = rests
      by_events (e ∷ es) h = by_test e es (nat_le e.tick r.system.clock) h

none_more : (xs ys more : List Entry) → ys ≡ xs ++ more → length ys ≡ length xs → more ≡ []
none_more xs ys [] is n = refl
none_more xs ys (m ∷ more) is n = let k = ap (λ (es : List Entry). length es) is in let l = length-append xs (m ∷ more) in absurd (omega (arith, k, l, n))

-- the schedule and the owners of a run are as those of another
pub record IsStill (limit : ℕ) (old new : Run) : Type 0 where
  pub entries : new.system.entries ≡ old.system.entries
  pub places : new.system.plan.places ≡ old.system.plan.places
  pub left : owners_left limit new ≡ owners_left limit old

step_still : (limit : ℕ) (r : Run) → r.system.clock < limit → due_of r.system.events r.system.clock ≡ None
    → length (next limit r).system.entries ≡ length r.system.entries → IsStill limit r (next limit r)
step_still limit r up quiet same =
    let w = next_writes limit r quiet in
    let none : w.more ≡ [] = none_more r.system.entries (next limit r).system.entries w.more w.entries same in
    let entries : (next limit r).system.entries ≡ r.system.entries =
    w.entries ∙ ap (λ (es : List Entry). r.system.entries ++ es) none ∙ append-nil r.system.entries in
    record {
      entries = entries;
      places = w.still none;
      left = sym (left_next limit r up ∙ ap (λ (l : List (ℕ → ℕ)). l ++ owners_left limit (next limit r)) (none_shown r (next limit r) entries));
    }

-- such steps one after another
pub passes_still : (limit n : ℕ) (old new : Run) → Passes limit n old new → IsStill limit old new
passes_still limit n old new p =
    passes_keep (IsStill limit old) limit n old new
    (λ r up quiet same h.
    (let k = step_still limit r up quiet same in
    record { entries = k.entries ∙ h.entries; places = k.places ∙ h.places; left = k.left ∙ h.left }))
    p (record { entries = refl; places = refl; left = refl })
