-- claim: whole runs, and what isolation says of them.
use Rattle.std.specs.Prelude.{◌≡◌, ℕ, ◌+◌, ◌*◌, ◌-◌, ◌≤◌, ◌<◌, Bool, true, false, nat_lt, List, [], ◌∷◌, ◌++◌, Option, Some, None, length, replicate}
use Rattle.time_sharing.specs.Machine.{Machine, CutKind, Ending}
use Rattle.time_sharing.specs.Private.{alone, Feed}
use Rattle.time_sharing.specs.System.{SystemState, World, Timed, Service, Off, Cause, state_of, next, ended}
use Rattle.time_sharing.specs.Repeat.{repeat}

module _ {S P F : Type 0} (m : Machine S) (w : World S P F) where
  abbrev pub is_open : Option Service → ℕ
  is_open None = 0
  is_open (Some v) = 1

  abbrev pub as_number : Bool → ℕ
  as_number false = 0
  as_number true = 1

  -- whether the chosen user has to be loaded
  abbrev pub must_load_of : Option ℕ → SystemState S P F → Bool
  must_load_of None s = false
  must_load_of (Some u) s = w.must_load s.plan u (state_of m w s u)

  -- Falls with each step. Of the five numbers a step raises at most those that stand behind one which falls: a tick or an
  -- event raises the sum of the levels by at most 16, a rise and the end of a service leave at most a load to be done.
  abbrev pub measure : ℕ → SystemState S P F → ℕ
  measure limit s =
      68 * (limit - s.clock) + (68 * length s.events + (4 * w.sum_of_levels s.plan + (2 * is_open s.service + as_number (must_load_of (w.choose s.plan) s))))

  abbrev pub clock_is_below : ℕ → SystemState S P F → Bool
  clock_is_below limit s = nat_lt s.clock limit

  -- at most n steps
  abbrev pub iterate : ℕ → ℕ → SystemState S P F → SystemState S P F
  iterate limit n s = repeat (clock_is_below limit) (next m w limit) n s

  -- Next, repeated while the clock is below the limit
  abbrev pub run_to : ℕ → SystemState S P F → SystemState S P F
  run_to limit s = iterate limit (measure limit s) s

  abbrev pub start : List S → F → P → ℕ → List Timed → SystemState S P F
  start firsts files plan consoles events =
      record { users = firsts; files = files; plan = plan; consoles = replicate consoles Off; clock = 0; events = events; service = None; idling = None; entries = [] }

  abbrev pub record_of : ℕ → SystemState S P F → SystemState S P F
  record_of limit s = ended m w (run_to limit s)

-- alone, over the feed, the machine reaches this state and takes every answer
abbrev pub IsAlone : {S : Type 0} (m : Machine S) → S → Feed → S → Type 0
IsAlone m first feed p = alone m first feed ≡ record { state = p; clocks = []; replies = [] }

-- What a world owes, so that each run ends: a load is done once, a rise lowers the sum of the levels, and what else changes a
-- plan raises it little.
pub record Ends {State Plan Files : Type 0} (w : World State Plan Files) : Type 0 where
  pub loaded : (plan : Plan) (u : ℕ) (p : State) (now : ℕ) → w.must_load (w.load plan u p now) u p ≡ false
  pub same_choice : (plan : Plan) (u : ℕ) (p : State) (now : ℕ) → w.choose (w.load plan u p now) ≡ w.choose plan
  pub none_rises : (plan : Plan) (served : Option ℕ) (now : ℕ) → w.choose plan ≡ None → w.rises plan served now ≡ None
  pub risen : (plan : Plan) (served : Option ℕ) (now u l : ℕ) → w.rises plan served now ≡ Some (u, l) → w.sum_of_levels (w.risen plan u l now) < w.sum_of_levels plan
  pub load : (plan : Plan) (u : ℕ) (p : State) (now : ℕ) → w.sum_of_levels (w.load plan u p now) ≤ w.sum_of_levels plan
  pub charged : (plan : Plan) (u now : ℕ) → w.sum_of_levels (w.charged plan u now) ≤ w.sum_of_levels plan + 8
  pub preempted : (plan : Plan) (u now : ℕ) → w.sum_of_levels (w.preempted plan u now) ≤ w.sum_of_levels plan
  pub leaves : (plan : Plan) (u : ℕ) (cause : Cause) (p : State) (now : ℕ) → w.sum_of_levels (w.leaves plan u cause p now) ≤ w.sum_of_levels plan + 8
  pub gave_up : (plan : Plan) (u : ℕ) (p : State) (ending : Ending) (now : ℕ) → w.sum_of_levels (w.gave_up plan u p ending now) ≤ w.sum_of_levels plan
  pub line_came : (plan : Plan) (u : ℕ) (was p : State) (now : ℕ) → w.sum_of_levels (w.line_came plan u was p now) ≤ w.sum_of_levels plan + 8
  pub cut_came : (plan : Plan) (u : ℕ) (kind : CutKind) (p : State) (now : ℕ) → w.sum_of_levels (w.cut_came plan u kind p now) ≤ w.sum_of_levels plan

-- more events behind those that are left
abbrev pub with_events : {S P F : Type 0} → List Timed → SystemState S P F → SystemState S P F
with_events es s = record s { events = s.events ++ es }

-- no event is due before the limit
abbrev pub AreLate : ℕ → List Timed → Type 0
AreLate limit [] = Unit {0}
AreLate limit (e ∷ es) = (limit ≤ e.tick) × AreLate limit es
