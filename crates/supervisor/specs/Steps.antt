-- claim: steps of the machine of all users, between two states with what the users have in core and on the drum.
use Rattle.std.specs.Prelude.{◌≡◌, ℕ, suc, ◌≤◌, ◌<◌, true, List, length, map, Option, Some, None, Ok, Err}
use Rattle.std.specs.declared.result.Result.{Result}
use Rattle.ctss_types.specs.declared.fault.RunFault.{RunFault}
use Rattle.ctss_types.specs.declared.fault.RunFault.TheVariants.{Drum, Disk, NoMemory}
use Rattle.time_sharing.specs.System.{Service}
use Rattle.medium.specs.Medium.{CallList}
use Rattle.drum_slots.specs.Keys.{quota_of}
use Rattle.image_map.specs.Images.{size_of}
use Rattle.user_model.specs.Inner.{Stored, blocks_of}
use Rattle.user_model.specs.User.{User}
use Rattle.plan_model.specs.Levels.{chosen, user_of}
use Rattle.plan_model.specs.Loads.{is_loaded}
use Rattle.plan_model.specs.Plan.{must_load}
use Rattle.user_cores.specs.Backing.{Held}
use Rattle.user_cores.specs.Settles.{IsResized}
use Rattle.user_cores.specs.Swaps.{IsCutOff}
use Rattle.system_model.specs.Run.{Run, due_of, rising, next, run_to, AfterSteps}
use Rattle.system_model.specs.Cases.{user_at}
use Rattle.system_model.specs.Joined.{joined, hung_up}
use Rattle.system_model.specs.Runs.{Passes}
use Rattle.system_model.specs.Sound.{Sound}
use Rattle.supervisor.specs.Seen.{number_of, left_places}
use Rattle.supervisor.specs.Counts.{IsCountedToLoad, calls_to_load}

-- What happened is what this function does to the users joined with words and files, and with the common files. Where drum and disk
-- tell their records, these are their own.
pub record Does (f : Run → Run) (old new : Run) (had has : Held) : Type 0 where
  pub before : ℕ → Stored
  pub after : ℕ → Stored
  pub is : joined after new ≡ f (joined before old)
  pub was : had.tells ≡ true → (u : ℕ) → before u ≡ had.stores u
  pub now : had.tells ≡ true → (u : ℕ) → after u ≡ has.stores u
  pub tells : has.tells ≡ had.tells
  pub common : has.common ≡ had.common

-- nothing happened, but that an operation on the common files may have been made, whose step is not done
pub record Stays (old new : Run) (had has : Held) : Type 0 where
  pub run : new ≡ old
  pub stores : had.tells ≡ true → (u : ℕ) → 1 ≤ u → has.stores u ≡ had.stores u
  pub tells : has.tells ≡ had.tells
  pub common : has.common ≡ had.common

-- users and what lies behind them agree in each user's number of blocks and in its quotas of blocks and tracks
pub record IsTied (users : List User) (m : Held) : Type 0 where
  pub many : length m.sizes ≡ suc (length users)
  pub has : (u : ℕ) → 1 ≤ u → u ≤ length users → size_of m.sizes u ≡ blocks_of (user_at u users).inner
  pub may : (u : ℕ) → 1 ≤ u → u ≤ length users → quota_of m.quotas u ≡ (user_at u users).inner.account.blocks
  pub tracks : (u : ℕ) → 1 ≤ u → u ≤ length users → m.tracks u ≡ (user_at u users).inner.account.tracks
  pub directories : m.users ≡ length users

-- what holds at each moment; the common files may have as many tracks as the run says
pub record IsHeld (r : Run) (m : Held) : Type 0 where
  pub sound : Sound r
  pub tied : IsTied r.system.users m
  pub common : m.common ≡ r.common

-- a user whose session is over has no core any more, and the files that last; all else stays
pub record IsLeft (cut : Option ℕ) (had has : Held) : Type 0 where
  pub stores : had.tells ≡ true → (u : ℕ) → has.stores u ≡ hung_up (number_of cut) had.stores u
  pub tells : has.tells ≡ had.tells
  pub places : has.places ≡ left_places cut had.places
  pub sizes : IsResized (number_of cut) 0 had has

-- the next step is one of the user whose service is open, and all its blocks are in core
pub record IsServedNext (r : Run) (m : Held) : Type 0 where
  pub quiet : due_of r.system.events r.system.clock ≡ None
  pub low : rising r ≡ None
  pub first : (v : Service) → r.system.service ≡ Some v → user_of (chosen r.system.plan.levels) ≡ Some v.user
  pub loaded : (v : Service) → r.system.service ≡ Some v → is_loaded m.places v.user (size_of m.sizes v.user) ≡ true

-- some blocks of the user to be served are not in core
pub record LoadIsDue (r : Run) : Type 0 where
  pub user : ℕ
  pub chosen_is : user_of (chosen r.system.plan.levels) ≡ Some user
  pub served : (v : Service) → r.system.service ≡ Some v → v.user ≡ user
  pub absent : must_load r.system.plan user (blocks_of (user_at user r.system.users).inner) ≡ true

-- the next step brings them in
pub record LoadIsNext (r : Run) : Type 0 where
  pub quiet : due_of r.system.events r.system.clock ≡ None
  pub low : rising r ≡ None
  pub due : LoadIsDue r

-- such a load was cut off after some of its calls
pub record LoadFails (r : Run) (was now : Option CallList) : Type 0 where
  pub due : LoadIsDue r
  pub cut : IsCutOff was now (calls_to_load due.user r)

pub record NextLoadFails (r : Run) (was now : Option CallList) : Type 0 where
  pub next : LoadIsNext r
  pub cut : IsCutOff was now (calls_to_load next.due.user r)

-- what a run shows: the schedule, the transcripts and the clock
pub record Shows (r s : Run) : Type 0 where
  pub entries : s.system.entries ≡ r.system.entries
  pub transcripts : map (λ (p : User). p.transcript) s.system.users ≡ map (λ (p : User). p.transcript) r.system.users
  pub clock : s.system.clock ≡ r.system.clock

-- What happened is the run to the limit, of the users joined with their words and files, where drum and disk tell them.
abbrev pub HasRun : ℕ → (old new : Run) → (had has : Held) → Type 0
HasRun limit old new had has = had.tells ≡ true → joined has.stores new ≡ run_to limit (joined had.stores old)

-- What happened is one step of it, and then steps at which no event is due and which write no entry; likewise.
abbrev pub HasRunOnce : ℕ → (old new : Run) → (had has : Held) → Type 0
HasRunOnce limit old new had has = had.tells ≡ true → (n : ℕ) × Passes limit n (next limit (joined had.stores old)) (joined has.stores new)

-- the same run but for the common files
abbrev pub IsButCommons : Run → Run → Type 0
IsButCommons r s = s ≡ record r { system = record r.system { files = s.system.files } }

-- What happened is some whole steps of it, and at most an operation on the common files whose step is not done.
abbrev pub HasRunPart : ℕ → (old new : Run) → (had has : Held) → Type 0
HasRunPart limit old new had has = had.tells ≡ true → (at : Run) × AfterSteps limit (joined had.stores old) at × IsButCommons at (joined has.stores new)

-- What is shown is some whole steps of it.
abbrev pub HasRunShown : ℕ → (old new : Run) → (had : Held) → Type 0
HasRunShown limit old new had = had.tells ≡ true → (at : Run) × AfterSteps limit (joined had.stores old) at × Shows at new

-- A part of the run, short of the limit and after which a load is next, is shown. The drum's calls are those of the loads so far and, where it tells
-- them, a beginning of that next load's, of which the last one failed.
pub record StopsAtLoad (limit : ℕ) (old new : Run) (was now : Option CallList) : Type 0 where
  pub at : Run
  pub part : AfterSteps limit old at
  pub early : at.system.clock < limit
  pub load : LoadIsNext at
  pub shown : Shows at new
  pub counted : IsCountedToLoad old.system.entries new.system.entries was now (calls_to_load load.due.user at)

abbrev pub HasRunToLoad : ℕ → (old new : Run) → (had : Held) → (was now : Option CallList) → Type 0
HasRunToLoad limit old new had was now = had.tells ≡ true → StopsAtLoad limit (joined had.stores old) new was now

-- what holds by the fault that ended a step: want of memory, the drum, or the disk
abbrev pub Fails : RunFault → Type 0 → Type 0 → Type 0 → Type 0
Fails NoMemory unchanged drum disk = unchanged
Fails Drum unchanged drum disk = drum
Fails Disk unchanged drum disk = disk

-- what holds by how a step ended: well, or by a fault
abbrev pub Ends : {T : Type 0} → Result T RunFault → Type 0 → Type 0 → Type 0 → Type 0 → Type 0
Ends (Ok x) done unchanged drum disk = done
Ends (Err fault) done unchanged drum disk = Fails fault unchanged drum disk

-- what holds unless drum or disk failed
abbrev pub Lasts : {T : Type 0} → Result T RunFault → Type 0 → Type 0
Lasts (Ok x) P = P
Lasts (Err NoMemory) P = P
Lasts (Err Drum) P = Unit {0}
Lasts (Err Disk) P = Unit {0}
