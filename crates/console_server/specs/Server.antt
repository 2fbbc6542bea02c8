-- claim: what contracts see of a server, when it can do a turn, and what a turn leaves that was not done to its end.
use Rattle.std.specs.Prelude.{◌≡◌, ◌≢◌, ℕ, ◌+◌, ◌*◌, ◌<◌, ◌≤◌, Bool, true, false, List, [], ◌∷◌, ◌++◌, length, take, map, replicate, Option, Some, None}
use Rattle.std.specs.Prelude.{IfErr}
use Rattle.std.specs.Borrow.{MutBor}
use Rattle.std.specs.declared.result.Result.{Result}
use Rattle.faults.specs.Faults.{Rose}
use Rattle.ctss_types.specs.declared.script.Timed.{Timed}
use Rattle.ctss_types.specs.declared.fault.RunFault.{RunFault}
use Rattle.ctss_types.specs.declared.fault.RunFault.TheVariants as run
use Rattle.console_link.specs.declared.link.Accepted.TheVariants as accepted
use Rattle.console_link.specs.Links.{LinkSeen, Done, DidWait, DidAccept, DidClose}
use Rattle.live_core.specs.Core.{CoreSeen, CoreCall, Took, Went}
use Rattle.console_server.specs.declared.fault.ServeFault.{ServeFault}
use Rattle.console_server.specs.declared.fault.ServeFault.TheVariants as serve
use Rattle.console_server.specs.declared.tasks.Task.{Task}
use Rattle.console_server.specs.declared.server.Server.{Server}
use Rattle.console_server.specs.declared.server.Tables.{Tables}
use Rattle.console_server.specs.Cores.{CanGoOn}
use Rattle.console_server.specs.Readings.{DidAll}
use Rattle.console_server.specs.Turns.{Desk, TurnAnswers, AreHeard, AreHeardUntil, calls_accepted, last_accept, all_calls_heard, seats_to_read, hangs, dials, events_of_turn}
use Rattle.console_server.specs.Seats.{AreSeated, StandAll}
use Rattle.console_server.specs.Done.{IsDone}

-- the core, the events that it was given, the consoles' tasks, whether each one's connection failed in the last turn's writes, and
-- the link that is lent
pub record ServerState (C L : Type 0) : Type 0 where
  pub core : C
  pub events : List Timed
  pub seats : List (Option Task)
  pub failed : List Bool
  pub link : MutBor L

abbrev pub state : {C L : Type 0} → Server C L → ServerState C L
state s = record { core = s.book.core; events = s.book.events.items; seats = s.seats.items; failed = s.failed.items; link = s.link }

-- tables of 32 consoles of which none has a connection, and of no event
pub record AreUnused (t : Tables) : Type 0 where
  pub events : t.events.items ≡ []
  pub seats : t.seats.items ≡ replicate 32 None
  pub failed : t.failed.items ≡ replicate 32 false

-- there are 32 consoles, and those that have a connection each have another one, which is open
pub record HasTables {C L : Type 0} (look : L → LinkSeen) (s : ServerState C L) : Type 0 where
  pub many : length s.seats ≡ 32
  pub flags : length s.failed ≡ 32
  pub seated : AreSeated (look s.link.now).is_open s.seats

-- from the one to the other a server kept its tables, and its link
pub record KeepsServer {C L : Type 0} (look : L → LinkSeen) (old new : ServerState C L) : Type 0 where
  pub tables : HasTables look new
  pub same : new.link.ghost_name ≡ old.link.ghost_name

-- its core can go on
abbrev pub IsReady : {C L : Type 0} → (C → CoreSeen) → (C → Type 0) → ServerState C L → Type 0
IsReady see holds s = CanGoOn see holds s.core

-- it can do a turn
pub record CanServe {C L : Type 0} (see : C → CoreSeen) (holds : C → Type 0) (look : L → LinkSeen) (s : ServerState C L)
    : Type 0 where
  pub tables : HasTables look s
  pub ready : IsReady see holds s

-- the tasks and flags are those of these connections
pub record IsDeskOf {C L : Type 0} (s : ServerState C L) (desk : Desk) : Type 0 where
  pub seats : StandAll s.seats desk.seats
  pub failed : desk.failed ≡ s.failed

-- from the one to the other a turn was done
abbrev pub TurnIsDone : {C L : Type 0} → (C → List CoreCall → C → Type 0) → (C → CoreSeen) → (L → LinkSeen) → ℕ → Desk → (old new : ServerState C L) → Type 0
TurnIsDone goes see look number desk old new =
    IsDone goes see number desk (look old.link.now) (look new.link.now) old.core new.core old.events new.events new.seats new.failed

-- Where a turn failed: the listener at the wait; memory for a Hang of a connection that failed in the last turn's writes; the
-- listener at an accept; memory for the Dial of the connection accepted last; memory while connections were read; or the core on
-- its way to the turn's limit.
pub data CutAt : Type 0 where
  Waiting : CutAt
  Hanging : CutAt
  Accepting : CutAt
  Dialling : CutAt
  Reading : CutAt
  Advancing : CutAt

-- the faults that a turn may meet there
abbrev pub MayMeet : CutAt → ServeFault → Type 0
MayMeet Waiting fault = fault ≡ serve.Link
MayMeet Hanging fault = fault ≡ serve.NoMemory
MayMeet Accepting fault = fault ≡ serve.Link
MayMeet Dialling fault = fault ≡ serve.NoMemory
MayMeet Reading fault = fault ≡ serve.NoMemory
MayMeet Advancing fault = fault ≢ serve.Link

-- the calls of a turn up to its reads
abbrev pub calls_to_read : List (List ℕ) → Desk → TurnAnswers → List Done
calls_to_read texts desk turn =
    DidWait 10 false ∷ (calls_accepted texts desk.seats turn.accepts
    ++ (last_accept turn.accepts
    ++ all_calls_heard (seats_to_read texts desk turn) turn.heard))

-- the calls that were made until then
abbrev pub calls_until : List (List ℕ) → Desk → TurnAnswers → CutAt → List Done
calls_until texts desk turn Waiting = DidWait 10 true ∷ []
calls_until texts desk turn Hanging = DidWait 10 false ∷ []
calls_until texts desk turn Accepting =
    DidWait 10 false ∷ (calls_accepted texts desk.seats turn.accepts ++ DidAccept accepted.Failed ∷ [])
calls_until texts desk turn Dialling = DidWait 10 false ∷ calls_accepted texts desk.seats turn.accepts
calls_until texts desk turn Reading = calls_to_read texts desk turn
calls_until texts desk turn Advancing = calls_to_read texts desk turn

-- It accepted only as many as it may, and read the connections only as far as it may: where the core was to go on, all of them.
abbrev pub IsTurnUntil : List (List ℕ) → Desk → TurnAnswers → CutAt → Type 0
IsTurnUntil texts desk turn Waiting = Unit {0}
IsTurnUntil texts desk turn Hanging = Unit {0}
IsTurnUntil texts desk turn Accepting = length turn.accepts < 32
IsTurnUntil texts desk turn Dialling = length turn.accepts ≤ 32
IsTurnUntil texts desk turn Reading =
    (length turn.accepts ≤ 32) × AreHeardUntil (seats_to_read texts desk turn) turn.heard
IsTurnUntil texts desk turn Advancing =
    (length turn.accepts ≤ 32) × AreHeard (seats_to_read texts desk turn) turn.heard

-- the events that were given until then: all that had come, or where memory lacked for one of them a beginning
abbrev pub GivenUntil : ℕ → List (List ℕ) → Desk → TurnAnswers → CutAt → List Timed → Type 0
GivenUntil tick texts desk turn Waiting events = events ≡ []
GivenUntil tick texts desk turn Hanging events = events ≡ take (length events) (hangs tick 1 desk.failed)
GivenUntil tick texts desk turn Accepting events =
    events ≡ hangs tick 1 desk.failed ++ dials tick texts desk.seats turn.accepts
GivenUntil tick texts desk turn Dialling events =
    events ≡ take (length events) (hangs tick 1 desk.failed ++ dials tick texts desk.seats turn.accepts)
GivenUntil tick texts desk turn Reading events = events ≡ take (length events) (events_of_turn tick texts desk turn)
GivenUntil tick texts desk turn Advancing events = events ≡ events_of_turn tick texts desk turn

-- the core's own fault, if that it is
abbrev pub core_fault : ServeFault → Option RunFault
core_fault serve.Link = None
core_fault serve.Drum = Some run.Drum
core_fault serve.Disk = Some run.Disk
core_fault serve.NoMemory = Some run.NoMemory

-- the last call of the core in a turn that failed: the one to its limit, where it met the fault on the way
abbrev pub ends_with : ℕ → ServeFault → CutAt → List CoreCall
ends_with number fault Waiting = []
ends_with number fault Hanging = []
ends_with number fault Accepting = []
ends_with number fault Dialling = []
ends_with number fault Reading = []
ends_with number fault Advancing = Went (1000 * (number + 1)) (core_fault fault) ∷ []

-- a turn of these answers that failed there with this fault, and had given these events
pub record IsCutTurn (number : ℕ) (texts : List (List ℕ)) (desk : Desk) (answers : TurnAnswers) (at : CutAt) (fault : ServeFault) (events : List Timed) : Type 0 where
  pub met : MayMeet at fault
  pub lawful : IsTurnUntil texts desk answers at
  pub given : GivenUntil (1000 * number) texts desk answers at events

-- A turn failed: the link was called up to there, the core was given a beginning of the turn's events, which is noted, and maybe met
-- the fault on its way to the limit.
pub record IsCut {C : Type 0} (goes : C → List CoreCall → C → Type 0) (see : C → CoreSeen) (number : ℕ) (desk : Desk) (fault : ServeFault) (link_had link_has : LinkSeen) (core_had core_has : C) (had has : List Timed) : Type 0 where
  pub answers : TurnAnswers
  pub at : CutAt
  pub events : List Timed
  pub cut : IsCutTurn number (see core_had).texts desk answers at fault events
  pub link : DidAll (calls_until (see core_had).texts desk answers at) link_had link_has
  pub part : events ≡ take (length events) (events_of_turn (1000 * number) (see core_had).texts desk answers)
  pub core : goes core_had (map Took events ++ ends_with number fault at) core_has
  pub noted : has ≡ had ++ events

abbrev pub TurnIsCut : {C L : Type 0} → (C → List CoreCall → C → Type 0) → (C → CoreSeen) → (L → LinkSeen) → ℕ → Desk → ServeFault → (old new : ServerState C L) → Type 0
TurnIsCut goes see look number desk fault old new =
    IsCut goes see number desk fault (look old.link.now) (look new.link.now) old.core new.core old.events new.events

-- which count of faults rose: the listener's, that of the drum or that of the disk
abbrev pub IsCause : ServeFault → (link_had link_has : LinkSeen) (core_had core_has : CoreSeen) → Type 0
IsCause serve.Link a b p q = Rose a.faults b.faults
IsCause serve.Drum a b p q = Rose p.drum_faults q.drum_faults
IsCause serve.Disk a b p q = Rose p.disk_faults q.disk_faults
IsCause serve.NoMemory a b p q = Unit {0}

-- after a turn a fault of the listener, the drum or the disk is one whose count rose, and the listener's hasn't fallen
pub record CountsFaults (result : Result Unit ServeFault) (link_had link_has : LinkSeen) (core_had core_has : CoreSeen)
    : Type 0 where
  pub cause : IfErr result (λ fault. IsCause fault link_had link_has core_had core_has)
  pub listener : link_had.faults ≤ link_has.faults

-- the close of a console's connection, if it has one, and of all consoles' connections in order
abbrev pub closes_of : Option Task → List Done
closes_of None = []
closes_of (Some task) = DidClose task.id ∷ []

abbrev pub closes : List (Option Task) → List Done
closes [] = []
closes (seat ∷ seats) = closes_of seat ++ closes seats
