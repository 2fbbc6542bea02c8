-- claim: the state that the fields stand for, with users' blocks in these places.
use Rattle.std.specs.Prelude.{◌≡◌, ℕ, Bool, false, List, [], map, Option, Some, None, Result, IfOk, OnOk, OnErr}
use Rattle.ctss_types.specs.declared.script.Account.{Account}
use Rattle.ctss_types.specs.declared.history.Record.{Record}
use Rattle.user_model.specs.User.{User}
use Rattle.time_sharing.specs.System.{Console, Timed, Service, Entry, Cause, Time, Wait, Stop, Size, Preempt, AtEnd}
use Rattle.plan_model.specs.Levels.{Levels, entered, dropped, entered_again}
use Rattle.plan_model.specs.Loads.{Places, given_up}
use Rattle.system_model.specs.Run.{Run}
use Rattle.supervisor.specs.declared.state.State.{State}

-- a run but for what lies behind users' sessions: no words, no files, and no places of blocks; with what each console has shown of it, and whether it was
-- cut off
pub record Bare : Type 0 where
  pub swap : ℕ
  pub common : ℕ
  pub accounts : List Account
  pub users : List User
  pub levels : Levels
  pub consoles : List Console
  pub clock : ℕ
  pub events : List Timed
  pub service : Option Service
  pub idling : Option ℕ
  pub entries : List Entry
  pub texts : List (List ℕ)
  pub ended : Bool

-- the run with blocks in these places; the common files lie behind it
abbrev pub run_with : Places → Bare → Run
run_with places b =
    record {
      swap = b.swap;
      common = b.common;
      accounts = b.accounts;
      system = record {
        users = b.users;
        files = [];
        plan = record { levels = b.levels; places = places };
        consoles = b.consoles;
        clock = b.clock;
        events = b.events;
        service = b.service;
        idling = b.idling;
        entries = b.entries;
      };
    }

abbrev pub bare_of : State → Bare
bare_of s =
    record {
      swap = s.swap;
      common = s.common;
      accounts = s.accounts.list;
      users = s.sessions.items;
      levels = s.queues;
      consoles = s.consoles.items;
      clock = s.clock;
      events = s.events.items;
      service = s.service;
      idling = s.idling;
      entries = s.entries.items;
      texts = [];
      ended = false;
    }

abbrev pub run_seen : Places → State → Run
run_seen places s = run_with places (bare_of s)

-- this happened to the run, wherever users' blocks lie
abbrev pub Becomes : (Run → Run) → State → State → Type 0
Becomes f old new = (places : Places) → run_seen places new ≡ f (run_seen places old)

-- the same where a call answers Ok; and where it answers a fault the run is as before
abbrev pub BecomesIf : {T E : Type 0} → Result T E → (Run → Run) → State → State → Type 0
BecomesIf result f old new = (places : Places) → OnOk result (run_seen places new ≡ f (run_seen places old))

abbrev pub StaysIf : {T E : Type 0} → Result T E → State → State → Type 0
StaysIf result old new = (places : Places) → OnErr result (run_seen places new ≡ run_seen places old)

-- the number of a user whose session is over, 0 for nobody
abbrev pub number_of : Option ℕ → ℕ
number_of None = 0
number_of (Some u) = u

-- such a user gives up all its blocks
abbrev pub left_places : Option ℕ → Places → Places
left_places None places = places
left_places (Some u) places = given_up places u 0

-- this happened, and a user gives up its blocks: this one, or the one that the call answers
abbrev pub LeavesIf : {T E : Type 0} → Result T E → ℕ → (Run → Run) → State → State → Type 0
LeavesIf result user f old new = (places : Places) → OnOk result (run_seen (given_up places user 0) new ≡ f (run_seen places old))

abbrev pub CutsIf : {E : Type 0} → Result (Option ℕ) E → (Run → Run) → State → State → Type 0
CutsIf result f old new = (places : Places) → IfOk result (λ cut. run_seen (left_places cut places) new ≡ f (run_seen places old))

-- the queues after a service has ended, if it has: of a user with unread lines or none, and of so many blocks
abbrev pub left_queues : Option Cause → ℕ → Bool → ℕ → (now : ℕ) → Levels → Levels
left_queues None u unread blocks now q = q
left_queues (Some Time) u unread blocks now q = q
left_queues (Some Wait) u unread blocks now q = dropped u q
left_queues (Some Stop) u unread blocks now q = entered_again unread u now (dropped u q)
left_queues (Some Size) u unread blocks now q = entered blocks u now (dropped u q)
left_queues (Some Preempt) u unread blocks now q = q
left_queues (Some AtEnd) u unread blocks now q = q

-- the record of a run that stopped, without files
abbrev pub record_so_far : Run → Record
record_so_far r =
    record {
      entries = r.system.entries;
      transcripts = map (λ (p : User). p.transcript) r.system.users;
      files = [];
      common = [];
      clock = r.system.clock;
    }

-- a record but for files
abbrev pub without_files : Record → Record
without_files rec = record rec { files = []; common = [] }
