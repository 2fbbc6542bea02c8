-- What each case of a step adds to the blocks that the schedule's loads moved.
use Rattle.std.proofs.Common.{◌≡◌, ℕ, ◌+◌, Bool, true, false, nat_eq, cond, List, [], ◌∷◌, ◌++◌, Option, Some, None, refl, ◌∙◌, arith}
use Rattle.time_sharing.specs.Machine.{Ending, CutKind, Quit, Hang, Spent, CommonOp, Reply}
use Rattle.time_sharing.specs.System.{Timed, Service, Console, On, Entry, Taken, Refused, Swap, Serve, Common, EventKind, LineTaken, kind_of, Cause, Stop, cause_of, service_entry, clock_entry, common_entry}
use Rattle.plan_model.specs.Levels.{has_time}
use Rattle.system_model.specs.Run.{Run, taken, rise, rising, rise_of, raised}
use Rattle.system_model.specs.Cases.{user_at, idle_notes, stop_notes, heard, line_taken, quit_taken, hang_taken, spent_taken, cut_taken, login_taken, dial_taken, idled, broken_off, waited}
use Rattle.system_model.specs.Joined.{counted, moved}
use Rattle.system_model.specs.Sound.{Sound, HasSeat}
use Rattle.time_sharing.specs.Sums.{dumped_in, read_in}
use Rattle.system_model.proofs.EventLaws.{by_event}

-- the moves of two parts of a schedule add up

pub dumped-append : (xs ys : List Entry) → dumped_in (xs ++ ys) ≡ dumped_in xs + dumped_in ys
dumped-append [] ys = omega arith
dumped-append (Swap tick user dumped read fresh ∷ xs) ys = omega (arith, dumped-append xs ys)
dumped-append (Common user op reply ∷ xs) ys = dumped-append xs ys
dumped-append (_ ∷ xs) ys = dumped-append xs ys

pub read-append : (xs ys : List Entry) → read_in (xs ++ ys) ≡ read_in xs + read_in ys
read-append [] ys = omega arith
read-append (Swap tick user dumped read fresh ∷ xs) ys = omega (arith, read-append xs ys)
read-append (Common user op reply ∷ xs) ys = read-append xs ys
read-append (_ ∷ xs) ys = read-append xs ys

-- a schedule gained loads that moved so many blocks
pub record Moves (had has : List Entry) (dumped read : ℕ) : Type 0 where
  pub out : dumped_in has ≡ dumped_in had + dumped
  pub back : read_in has ≡ read_in had + read

-- the schedule gained these entries
adds : (had more : List Entry) (dumped read : ℕ) → dumped_in more ≡ dumped → read_in more ≡ read → Moves had (had ++ more) dumped read
adds had more dumped read d r = record { out = omega (arith, dumped-append had more, d); back = omega (arith, read-append had more, r) }

-- what stands before some entries is no load
abbrev Quiet : List Entry → Type 0
Quiet es = (more : List Entry) → (dumped_in (es ++ more) ≡ dumped_in more) × (read_in (es ++ more) ≡ read_in more)

idle_quiet : (i : Option ℕ) (now : ℕ) → Quiet (idle_notes i now)
idle_quiet None now more = (refl, refl)
idle_quiet (Some from) now more = (refl, refl)

stop_quiet : (v : Option Service) (u : ℕ) → Quiet (stop_notes v u)
stop_quiet None u more = (refl, refl)
stop_quiet (Some v) u more = by_test (nat_eq v.user u)
  where
    by_test : (b : Bool) → (dumped_in (cond b (Serve v.tick v.user v.level v.ran Stop ∷ []) [] ++ more) ≡ dumped_in more) × (read_in (cond b (Serve v.tick v.user v.level v.ran Stop ∷ []) [] ++ more) ≡ read_in more)
    by_test true = (refl, refl)
    by_test false = (refl, refl)

clock_quiet : (asked : Bool) (t u : ℕ) → Quiet (clock_entry asked t u)
clock_quiet true t u more = (refl, refl)
clock_quiet false t u more = (refl, refl)

common_quiet : (made : Option CommonOp) (u : ℕ) (r : Reply) → Quiet (common_entry made u r)
common_quiet None u r more = (refl, refl)
common_quiet (Some op) u r more = (refl, refl)

service_none : (v : Service) (cause : Option Cause) → (dumped_in (service_entry v cause) ≡ 0) × (read_in (service_entry v cause) ≡ 0)
service_none v None = (refl, refl)
service_none v (Some cause) = (refl, refl)

-- an event

after_idle : (r : Run) (more : List Entry) → dumped_in more ≡ 0 → read_in more ≡ 0
    → Moves r.system.entries (r.system.entries ++ (idle_notes r.system.idling r.system.clock ++ more)) 0 0
after_idle r more d b =
    let q = idle_quiet r.system.idling r.system.clock more in
    adds r.system.entries (idle_notes r.system.idling r.system.clock ++ more) 0 0 (q.0 ∙ d) (q.1 ∙ b)

heard_moves : (c : ℕ) (kind : EventKind) (now : Console) (more : List Entry) (r : Run) → dumped_in more ≡ 0 → read_in more ≡ 0 → Moves r.system.entries (heard c kind now more r).system.entries 0 0
unfolding heard
heard_moves c kind now more r d b = after_idle r (Taken r.system.clock c kind 0 0 ∷ more) d b

cut_moves : (kind : CutKind) (c u : ℕ) (r : Run) → Moves r.system.entries (cut_taken kind c u r.system.consoles r).system.entries 0 0
cut_moves kind c u r =
    let told = Taken r.system.clock c (kind_of kind) u (user_at u r.system.users).own ∷ [] in
    let q = stop_quiet r.system.service u told in
    after_idle r (stop_notes r.system.service u ++ told) q.0 q.1

-- no event is a load
pub taken_moves : (e : Timed) (r : Run) → HasSeat e r → Sound r → Moves r.system.entries (taken e r).system.entries 0 0
unfolding line_taken quit_taken hang_taken spent_taken login_taken dial_taken
taken_moves e r seat sound =
    by_event (λ k s. Moves r.system.entries s.system.entries 0 0) e r seat sound (record {
      hears = λ kind now. heard_moves e.console kind now [] r refl refl;
      refuses = λ cause. heard_moves e.console LineTaken On (Refused r.system.clock e.console cause ∷ []) r refl refl;
      types = λ u l who. after_idle r _ refl refl;
      quits = λ u who. cut_moves Quit e.console u r;
      dials = λ u who. after_idle r _ refl refl;
      opens = λ u who. after_idle r _ refl refl;
      hangs = λ u who. cut_moves Hang e.console u r;
      spends = λ u who. cut_moves Spent e.console u r;
    })

-- the other steps

pub idled_moves : (limit : ℕ) (r : Run) → Moves r.system.entries (idled limit r).system.entries 0 0
unfolding idled
idled_moves limit r = record { out = omega arith; back = omega arith }

pub broken_off_moves : (v : Service) (r : Run) → Moves r.system.entries (broken_off v r).system.entries 0 0
unfolding broken_off
broken_off_moves v r = adds r.system.entries _ 0 0 refl refl

pub raised_moves : (r : Run) → Moves r.system.entries (raised r).system.entries 0 0
unfolding rise
raised_moves r = by_who (rising r)
  where
    by_who : (o : Option (ℕ × ℕ)) → Moves r.system.entries (rise_of o r).system.entries 0 0
    by_who None = record { out = omega arith; back = omega arith }
    by_who (Some x) = adds r.system.entries _ 0 0 refl refl

pub waited_moves : (v : Service) (r : Run) → Moves r.system.entries (waited v r).system.entries 0 0
unfolding waited
waited_moves v r = adds r.system.entries _ 0 0 refl refl

pub counted_moves : (v : Service) (t : Ending) (asked : Bool) (made : Option CommonOp) (reply : Reply) (r : Run) →
    Moves r.system.entries (counted v t asked (common_entry made v.user reply) r).system.entries 0 0
unfolding counted
counted_moves v t asked made reply r =
    let cause = cause_of t (has_time r.system.plan.levels) in
    let more = common_entry made v.user reply ++ service_entry v cause in
    let q = clock_quiet asked r.system.clock v.user more in
    let m = common_quiet made v.user reply (service_entry v cause) in
    let n = service_none v cause in
    adds r.system.entries (clock_entry asked r.system.clock v.user ++ more) 0 0 (q.0 ∙ m.0 ∙ n.0) (q.1 ∙ m.1 ∙ n.1)

-- a load
pub moved_moves : (u dumped read fresh : ℕ) (r : Run) → Moves r.system.entries (moved u dumped read fresh r).system.entries dumped read
unfolding moved
moved_moves u dumped read fresh r = adds r.system.entries _ dumped read (omega arith) (omega arith)
