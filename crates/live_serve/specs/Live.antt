-- claim: what live consoles leave: the record of the script with their events, or that of a run which the drum or the disk stopped.
use Rattle.std.specs.Prelude.{◌≡◌, ℕ, suc, ◌+◌, ◌*◌, ◌<◌, ◌≤◌, Bool, true, List, [], ◌∷◌, length, Ok, Err}
use Rattle.std.specs.declared.result.Result.{Result}
use Rattle.faults.specs.Faults.{Rose, WhereTold}
use Rattle.ctss_types.specs.declared.fault.RunFault.{RunFault}
use Rattle.ctss_types.specs.declared.fault.RunFault.TheVariants.{Drum, Disk}
use Rattle.ctss_types.specs.declared.script.Script.{Script}
use Rattle.ctss_types.specs.declared.script.Timed.{Timed}
use Rattle.ctss_types.specs.declared.history.Record.{Record}
use Rattle.file_tracks.specs.Lying.{LieOn}
use Rattle.system_model.specs.Run.{Run, AfterSteps, with_all_events}
use Rattle.system_model.specs.Record.{start_of, record_of}
use Rattle.supervisor.specs.Seen.{record_so_far, without_files}
use Rattle.supervisor.specs.Counts.{IsCounted, IsCountedToLoad, calls_to_load}
use Rattle.supervisor.specs.Steps.{LoadIsNext}
use Rattle.live_run.specs.Media.{MediaSeen}
use Rattle.live_run.specs.Parts.{Part, run_in, live_script}
use Rattle.live_run.specs.Beginnings.{IsBeginning}
use Rattle.time_sharing.specs.System.{Entry}
use Rattle.console_link.specs.Links.{LinkSeen, Did, DidOpen}
use Rattle.console_server.specs.Server.{CutAt, Advancing}
use Rattle.console_server.specs.declared.fault.ServeFault.{ServeFault}
use Rattle.console_server.specs.declared.fault.ServeFault.TheVariants as serve
use Rattle.console_server.specs.Conversation.{events_of_turns}
use Rattle.live_serve.specs.declared.ending.Served.{Served}
use Rattle.live_serve.specs.declared.ending.Served.TheVariants.{Done, DrumFailed, DiskFailed}
use Rattle.live_serve.specs.Talks.{empty_desk, silent, IsTalk, IsCutTalk}

-- turns from this number on, with these events in each, as parts of a run: a turn has 1000 ticks
abbrev pub parts_from : ℕ → List (List Timed) → List Part
parts_from number [] = []
parts_from number (es ∷ rest) = record { events = es; limit = 1000 * (number + 1) } ∷ parts_from (suc number) rest

-- The live script is the base with these events, and ends with the last turn. This is its record, where drum and disk tell their
-- records; the drum was called just as its loads say; and each file lies on tracks of its own, where the disk tells.
pub record IsLiveRecord (base : Script) (turns : ℕ) (events : List Timed) (was now : MediaSeen) (rec : Record) : Type 0 where
  pub record_is : was.tells ≡ true → rec ≡ record_of (live_script base events (1000 * turns))
  pub counted : IsCounted [] rec.entries was.drum_calls now.drum_calls
  pub lie : WhereTold now.disk_contents (λ contents. LieOn contents rec.files rec.common)

-- some whole steps of the turn that failed, with the events that it had given
abbrev pub StepsInTurn : (base : Script) {told : Bool} {port turns : ℕ} {at : CutAt} {a b : LinkSeen} → IsCutTalk base told port turns at a b → Run → Type 0
StepsInTurn base talk r =
    AfterSteps (1000 * (length talk.turns + 1)) (with_all_events talk.events (run_in (parts_from 0 (events_of_turns 0 silent empty_desk talk.turns)) (start_of (record base { events = [] })))) r

-- a record of some whole steps in the turn that failed
pub record IsInTurn (base : Script) {told : Bool} {port turns : ℕ} {at : CutAt} {a b : LinkSeen} (talk : IsCutTalk base told port turns at a b) (rec : Record) : Type 0 where
  pub run : Run
  pub part : StepsInTurn base talk run
  pub shown : rec ≡ record_so_far run

-- Such a record, behind which blocks of a user are to be brought into core.
-- The drum's calls are those of the loads so far and, where it tells them, a beginning of that next load's, of which the last one failed.
pub record StopsInTurn (base : Script) {told : Bool} {port turns : ℕ} {at : CutAt} {a b : LinkSeen} (talk : IsCutTalk base told port turns at a b) (was now : MediaSeen) (rec : Record) : Type 0 where
  pub turn : IsInTurn base talk rec
  pub early : turn.run.system.clock < 1000 * (length talk.turns + 1)
  pub load : LoadIsNext turn.run
  pub counted : IsCountedToLoad [] rec.entries was.drum_calls now.drum_calls (calls_to_load load.due.user turn.run)

-- no file was read
pub record HasNoFiles (rec : Record) : Type 0 where
  pub own : rec.files ≡ []
  pub common : rec.common ≡ []

-- The drum failed in a turn, on its way to the limit. Where drum and disk tell their records, the record is that of the steps so far, and a
-- load was cut off.
pub record IsStopped (base : Script) (port turns : ℕ) (was now : MediaSeen) (a b : LinkSeen) (rec : Record) : Type 0 where
  pub talk : IsCutTalk base was.tells port turns Advancing a b
  pub stopped : was.tells ≡ true → StopsInTurn base talk was now rec
  pub bare : HasNoFiles rec
  pub cause : Rose was.drum_faults now.drum_faults

-- When the disk failed: while first files were written, before the listener was opened, so that no step was done; in a turn; or behind
-- all turns, when the files were read. And what the record is then, where drum and disk tell their records.
pub data LacksFiles (base : Script) (port turns : ℕ) (was now : MediaSeen) (a b : LinkSeen) (rec : Record) : Type 0 where
  AtStart : b ≡ a → now.drum_calls ≡ was.drum_calls → rec ≡ record_so_far (start_of base) → LacksFiles base port turns was now a b rec
  InTurn : (talk : IsCutTalk base was.tells port turns Advancing a b) → (was.tells ≡ true → IsInTurn base talk rec) → LacksFiles base port turns was now a b rec
  AtEnd : (events : List Timed) → IsTalk base was.tells port turns events a b → (was.tells ≡ true → rec ≡ without_files (record_of (live_script base events (1000 * turns))))
      → LacksFiles base port turns was now a b rec

-- The disk failed. The drum was called just as the record's loads say.
pub record IsLost (base : Script) (port turns : ℕ) (was now : MediaSeen) (a b : LinkSeen) (rec : Record) : Type 0 where
  pub lacks : LacksFiles base port turns was now a b rec
  pub counted : IsCounted [] rec.entries was.drum_calls now.drum_calls
  pub bare : HasNoFiles rec
  pub cause : Rose was.disk_faults now.disk_faults

-- No record came, as memory ran out or the listener failed: before the first turn, when neither drum nor link was called; when the listener
-- could not be opened; in a turn; or after all turns. The drum was called as the loads of these entries say, which where drum and disk tell their records
-- are those of some whole steps, a beginning of the run's; or, if the drum had failed before, as it was then.
pub data HasSpent (base : Script) (port turns : ℕ) (was now : MediaSeen) (a b : LinkSeen) : Type 0 where
  BeforeTurns : now.drum_calls ≡ was.drum_calls → b ≡ a → HasSpent base port turns was now a b
  NotOpened : now.drum_calls ≡ was.drum_calls → Did (DidOpen port true) a b → HasSpent base port turns was now a b
  InTurns : (at : CutAt) (talk : IsCutTalk base was.tells port turns at a b) (entries : List Entry) → IsCounted [] entries was.drum_calls now.drum_calls
      → (was.tells ≡ true → (r : Run) × StepsInTurn base talk r × (entries ≡ r.system.entries)) → HasSpent base port turns was now a b
  AtLoad : (talk : IsCutTalk base was.tells port turns Advancing a b) → (was.tells ≡ true → (rec : Record) × StopsInTurn base talk was now rec) → HasSpent base port turns was now a b
  BehindTurns : (events : List Timed) → IsTalk base was.tells port turns events a b → (entries : List Entry) → IsCounted [] entries was.drum_calls now.drum_calls
      → (was.tells ≡ true → IsBeginning entries (record_of (live_script base events (1000 * turns))).entries) → HasSpent base port turns was now a b

-- what was served at a port, over drum, disk and a link
abbrev pub IsServed : Script → (port turns : ℕ) → (was now : MediaSeen) (a b : LinkSeen) → Served → Type 0
IsServed base port turns was now a b (Done events rec) = IsLiveRecord base turns events was now rec × IsTalk base was.tells port turns events a b
IsServed base port turns was now a b (DrumFailed rec) = IsStopped base port turns was now a b rec
IsServed base port turns was now a b (DiskFailed rec) = IsLost base port turns was now a b rec

-- how a run ended whose turns ended so
abbrev pub RunEnds : Result Unit ServeFault → Result Unit RunFault → Type 0
RunEnds (Ok x) run = run ≡ Ok x
RunEnds (Err serve.Link) run = ⊥
RunEnds (Err serve.Drum) run = run ≡ Err Drum
RunEnds (Err serve.Disk) run = run ≡ Err Disk
RunEnds (Err serve.NoMemory) run = ⊥
