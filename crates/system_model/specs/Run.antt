-- claim: the machine of all users, with its accounts, closed: what contracts cite.
use Rattle.std.specs.Prelude.{◌≡◌, ℕ, if◌then◌else◌, nat_le, List, [], ◌∷◌, ◌++◌, Option, Some, None, drop}
use Rattle.ctss_types.specs.declared.script.Account.{Account}
use Rattle.ctss_types.specs.declared.file.FileBody.{FileBody}
use Rattle.time_sharing.specs.Rows.{machine}
use Rattle.time_sharing.specs.System as theory
use Rattle.time_sharing.specs.System.{World, SystemState, Timed, Service, Console, Event, Cause, Off, Rise, at, served_of}
use Rattle.time_sharing.specs.Record as whole
use Rattle.user_model.specs.Session.{user_rows}
use Rattle.user_model.specs.User.{User}
use Rattle.plan_model.specs.Levels.{chosen, user_of, riser, goes_up, risen}
use Rattle.plan_model.specs.Plan.{Plan}
use Rattle.system_model.specs.World.{world_with}

abbrev pub State : Type 0
State = SystemState User Plan (List FileBody)

-- with the ticks that a moved block costs, and the tracks that the common files may take
pub record Run : Type 0 where
  pub swap : ℕ
  pub common : ℕ
  pub accounts : List Account
  pub system : State

-- what is round its users
abbrev pub world : Run → World User Plan (List FileBody)
world r = world_with r.swap r.common r.accounts

-- one step below the limit
unfoldable pub next : ℕ → Run → Run
next limit r = record r { system = theory.next (machine user_rows) (world r) limit r.system }

-- all steps below the limit
unfoldable pub run_to : ℕ → Run → Run
run_to limit r = record r { system = whole.run_to (machine user_rows) (world r) limit r.system }

-- falls with each step
unfoldable pub measure : ℕ → Run → ℕ
measure limit r = whole.measure (machine user_rows) (world r) limit r.system

-- new is old after some whole steps
unfoldable pub AfterSteps : ℕ → Run → Run → Type 0
AfterSteps limit old new = (n : ℕ) × (new ≡ record old { system = whole.iterate (machine user_rows) (world old) limit n old.system })

-- one more event behind those that are left
unfoldable pub with_one_event : Timed → Run → Run
with_one_event e r = record r { system = whole.with_events (e ∷ []) r.system }

-- more events behind those that are left
abbrev pub with_all_events : List Timed → Run → Run
with_all_events events r = record r { system = whole.with_events events r.system }

-- an open service and open idling end
unfoldable pub ended : Run → Run
ended r = record r { system = theory.ended (machine user_rows) (world r) r.system }

-- the parts of a step

-- the event that is due
abbrev pub due_of : List Timed → ℕ → Option Timed
due_of [] now = None
due_of (e ∷ rest) now = if nat_le e.tick now then Some e else None

unfoldable pub taken : Timed → Run → Run
taken e r = record r { system = theory.taken (machine user_rows) (world r) e (drop 1 r.system.events) r.system }

-- idling ended, and the event gone
abbrev pub awake : Run → State
awake r = theory.end_idling_of (machine user_rows) (world r) r.system.idling (record r.system { events = drop 1 r.system.events })

unfoldable pub at_console : ℕ → Console → Event → Run → Run
at_console c console event r = record r { system = theory.at_console (machine user_rows) (world r) c console event (awake r) }

unfoldable pub otherwise : ℕ → Option ℕ → Option Service → Run → Run
otherwise limit user service r = record r { system = theory.otherwise (machine user_rows) (world r) limit user service r.system }

unfoldable pub attended : Service → Run → Run
attended v r = record r { system = theory.attended (machine user_rows) (world r) v r.system }

-- a user rises to a level
unfoldable pub rise : ℕ → (level : ℕ) → Run → Run
rise u l r =
    record r {
      system = record r.system {
        plan = record r.system.plan { levels = risen u l r.system.clock r.system.plan.levels };
        entries = r.system.entries ++ Rise r.system.clock u l ∷ [];
      };
    }

-- who rises, and to which level, if anyone does
abbrev pub rising : Run → Option (ℕ × ℕ)
rising r = goes_up (riser (served_of r.system.service) r.system.clock r.system.plan.levels)

-- whoever rises does
abbrev pub rise_of : Option (ℕ × ℕ) → Run → Run
rise_of None r = r
rise_of (Some x) r = rise x.0 x.1 r

abbrev pub raised : Run → Run
raised r = rise_of (rising r) r

-- what one step is where no event is due, with a user that rises or none
abbrev pub by_rising : ℕ → Option (ℕ × ℕ) → Run → Run
by_rising limit None r = otherwise limit (user_of (chosen r.system.plan.levels)) r.system.service r
by_rising limit (Some x) r = rise x.0 x.1 r

-- what one step is, with an event due or none
abbrev pub by_due : ℕ → Option Timed → Run → Run
by_due limit None r = by_rising limit (rising r) r
by_due limit (Some e) r = taken e r
