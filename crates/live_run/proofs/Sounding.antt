-- The run of a script that was read is sound at each step, and so is a run in parts.
use Rattle.std.proofs.Common.{◌≡◌, ℕ, zero, suc, ◌≤◌, ◌<◌, Bool, true, false, nat_lt, List, [], ◌∷◌, ◌++◌, length, replicate, get_or, refl, sym, ap, subst, ◌∙◌, arith}
use Rattle.std.specs.List.{All}
use Rattle.std.proofs.lemmas.Bool.Decides.{nat_tests}
use Rattle.std.proofs.lemmas.List.Elements.{All-nil, All-cons, All-head, All-tail, All-weaker}
use Rattle.ctss_types.specs.declared.script.Script.{Script}
use Rattle.ctss_types.specs.declared.script.Account.{Account}
use Rattle.ctss_types.specs.declared.script.Timed.{Timed}
use Rattle.ctss_types.specs.declared.file.OwnedFile.{OwnedFile}
use Rattle.time_sharing.specs.System.{Off}
use Rattle.time_sharing.specs.Rows.{machine}
use Rattle.time_sharing.specs.Record as whole
use Rattle.user_model.specs.Session.{user_rows, nobody}
use Rattle.plan_model.specs.Levels.{waits}
use Rattle.text_model.specs.Reading.{IsInRange}
use Rattle.system_model.specs.Run.{Run, State, world, next, run_to, AfterSteps, with_one_event, with_all_events}
use Rattle.system_model.specs.Record.{start_of, users_from}
use Rattle.system_model.specs.Sound.{Sound, HasSeat}
use Rattle.system_model.proofs.SoundLaws.{sound_next, sound_given}
use Rattle.supervisor.proofs.Seats.{next_seats}
use Rattle.live_run.specs.Parts.{Part, all_events, run_in}
use Rattle.live_run.proofs.InParts.{given_more, given_none}

-- the start

as_many : (u : ℕ) (accounts : List Account) (files : List OwnedFile) → length (users_from u accounts files) ≡ length accounts
as_many u [] files = refl
as_many u (a ∷ accounts) files = ap suc (as_many (suc u) accounts files)

no_own : (u k : ℕ) (accounts : List Account) (files : List OwnedFile) → (get_or (users_from u accounts files) k nobody).own ≤ 0
no_own u k [] files = omega arith
no_own u zero (a ∷ accounts) files = omega arith
no_own u (suc k) (a ∷ accounts) files = no_own (suc u) k accounts files

all_off : (n k : ℕ) → get_or (replicate n Off) k Off ≡ Off
all_off zero k = refl
all_off (suc n) zero = refl
all_off (suc n) (suc k) = all_off n k

-- at one of the 32 consoles
abbrev pub IsSeated : Timed → Type 0
IsSeated e = (1 ≤ e.console) × (e.console ≤ 32)

-- sound, and with 32 consoles
record IsSteady (r : Run) : Type 0 where
  sound : Sound r
  seats : length r.system.consoles ≡ 32

start_is_sound : (script : Script) → length script.accounts ≤ 30 → All IsSeated script.events → IsSteady (start_of script)
unfolding start_of waits
start_is_sound script few seats =
    let many : length (users_from 1 script.accounts script.files) ≡ length script.accounts = as_many 1 script.accounts script.files in
    record {
      sound = record {
        few = omega (arith, many, few);
        accounts = omega (arith, many);
        seats = All-weaker IsSeated (λ (e : Timed). HasSeat e (start_of script)) (λ e h. record { some = h.0; within = h.1 }) script.events seats;
        sits = λ k u e. let off = all_off 32 k in cc;
        served = λ v e. cc;
        ran = λ v e. cc;
        queued = λ u e. cc;
        owns = λ k. no_own 1 k script.accounts script.files;
      };
      seats = refl;
    }

-- the steps

abbrev steps_of : ℕ → ℕ → Run → State
steps_of limit n r = whole.iterate (machine user_rows) (world r) limit n r.system

steady_steps : (limit n : ℕ) (r at : Run) → IsSteady r → at ≡ record r { system = steps_of limit n r } → IsSteady at
unfolding next
steady_steps limit zero r at h is = subst IsSteady (sym is) h
steady_steps limit (suc n) r at h is = by_test (steady_steps limit n (next limit r) at) (nat_lt r.system.clock limit) refl is
  where
    by_test : (IsSteady (next limit r) → at ≡ record (next limit r) { system = steps_of limit n (next limit r) } → IsSteady at)
        → (b : Bool) → nat_lt r.system.clock limit ≡ b → at ≡ record r { system = elim b [ true ↦ steps_of limit n (next limit r) | false ↦ r.system ] } → IsSteady at
    by_test on true e k = on (record { sound = sound_next limit r (grind (arith, e, nat_tests)) h.sound; seats = next_seats limit r ∙ h.seats }) k
    by_test on false e k = subst IsSteady (sym k) h

steady_after : (limit : ℕ) (r at : Run) → IsSteady r → AfterSteps limit r at → IsSteady at
unfolding AfterSteps
steady_after limit r at h k = steady_steps limit k.0 r at h k.1

steady_run_to : (limit : ℕ) (r : Run) → IsSteady r → IsSteady (run_to limit r)
unfolding run_to
steady_run_to limit r h = steady_steps limit (whole.measure (machine user_rows) (world r) limit r.system) r (run_to limit r) h refl

pub sound_at : (script : Script) (at : Run) → IsInRange script → AfterSteps script.end (start_of script) at → Sound at
sound_at script at range h = (steady_after script.end (start_of script) at (start_is_sound script range.few range.seats) h).sound

-- the parts

pub all_split : {X : Type 0} (P : X → Type 0) (xs ys : List X) → All P (xs ++ ys) → All P xs × All P ys
all_split P [] ys h = (All-nil P, h)
all_split P (x ∷ xs) ys h =
    let rest = all_split P xs ys (All-tail P x (xs ++ ys) h) in
    (All-cons P x xs (All-head P x (xs ++ ys) h) rest.0, rest.1)

steady_given : (es : List Timed) (r : Run) → All IsSeated es → IsSteady r → IsSteady (with_all_events es r)
unfolding with_one_event
steady_given [] r seated h = subst IsSteady (sym (given_none r)) h
steady_given (e ∷ es) r seated h =
    let seat = All-head IsSeated e es seated in
    let some : 0 < e.console = omega (arith, seat.0) in
    let many = h.seats in
    let within : e.console ≤ length r.system.consoles = omega (arith, seat.1, many) in
    subst IsSteady (sym (given_more (e ∷ []) es r))
    (steady_given es (with_one_event e r) (All-tail IsSeated e es seated) (record { sound = sound_given e r (record { some = some; within = within }) h.sound; seats = h.seats }))

steady_in : (parts : List Part) (r : Run) → All IsSeated (all_events parts) → IsSteady r → IsSteady (run_in parts r)
steady_in [] r seated h = h
steady_in (p ∷ parts) r seated h =
    let both = all_split IsSeated p.events (all_events parts) seated in
    steady_in parts (run_to p.limit (with_all_events p.events r)) both.1 (steady_run_to p.limit (with_all_events p.events r) (steady_given p.events r both.0 h))

pub sound_in_part : (base : Script) (parts : List Part) (p : Part) (at : Run) → IsInRange base → All IsSeated (all_events parts) → All IsSeated p.events
    → AfterSteps p.limit (with_all_events p.events (run_in parts (start_of (record base { events = [] })))) at → Sound at
sound_in_part base parts p at range before here h =
    let start = start_of (record base { events = [] }) in
    let reached : IsSteady (run_in parts start) = steady_in parts start before (start_is_sound (record base { events = [] }) range.few (All-nil IsSeated)) in
    (steady_after p.limit (with_all_events p.events (run_in parts start)) at (steady_given p.events (run_in parts start) here reached) h).sound
