-- claim: the script of live consoles is one that is read, and its replay is what was written; what a turn that a load stopped asks of the drum;
-- and all calls of a link are told.
use Rattle.std.specs.Prelude.{◌≡◌, ◌≤◌, ◌+◌, ◌-◌, ◌*◌, ℕ, Bool, true, false, List, ◌++◌, length, Some, Ok}
use Rattle.ctss_types.specs.declared.script.Script.{Script}
use Rattle.ctss_types.specs.declared.script.Timed.{Timed}
use Rattle.ctss_types.specs.declared.history.Record.{Record}
use Rattle.text_model.specs.Canonical.{script_text_of}
use Rattle.text_model.specs.Reading.{script_of, max_bytes}
use Rattle.text_model.specs.Report.{report_of}
use Rattle.script_read.specs.Bases.{base_of}
use Rattle.ctss_io.specs.Outside.{after}
use Rattle.text_model.specs.declared.mode.Mode.TheVariants.{Replay, Serve}
use Rattle.console_link.specs.declared.link.CallMade.{CallMade}
use Rattle.console_link.specs.Links.{LinkSeen, CallList}
use Rattle.time_sharing.specs.Sums.{dumped_in, read_in}
use Rattle.system_model.specs.Record.{record_of}
use Rattle.supervisor.specs.Counts.{calls_to_load}
use Rattle.live_run.specs.Media.{MediaSeen}
use Rattle.live_run.specs.Parts.{live_script}
use Rattle.console_server.specs.Server.{CutAt}
use Rattle.live_serve.specs.Talks.{IsTalk, IsCutTalk}
use Rattle.live_serve.specs.Live.{StopsInTurn}
use Rattle.live_serve.specs.Stops.{script_so_far}
use Rattle.ctss_modes.specs.declared.outcome.Outcome.{Outcome}
use Rattle.ctss_modes.specs.Devices.{DevicesSeen}
use Rattle.ctss_modes.specs.Top.{IsRun}

-- The live script of a base that was read, of so many turns and of the events that they gave reads as itself, where its text isn't too long.
abbrev pub LiveScriptsAreRead : Type 0
LiveScriptsAreRead =
    (bytes : List ℕ) (base : Script) (told : Bool) (port turns : ℕ) (events : List Timed) (a b : LinkSeen) → base_of bytes ≡ Ok base → turns ≤ 100000
    → IsTalk base told port turns events a b
    → length (script_text_of (live_script base events (1000 * turns))) ≤ max_bytes
    → script_of (script_text_of (live_script base events (1000 * turns))) ≡ Ok (live_script base events (1000 * turns))

-- A run of `replay` of a script's text is a run of that script. If the records on drum and disk are observable in this run and in the first
-- run, both have the same record, and exactly the first run's report is written.
pub record IsReplayed (script : Script) (told : Bool) (first : Record) (was now : DevicesSeen) (again : Outcome) (replay : IsRun Replay was now again) : Type 0 where
  pub script_is : replay.script ≡ script
  pub same : told ≡ true → was.media.tells ≡ true → again.run ≡ first
  pub written : told ≡ true → was.media.tells ≡ true → now.output.held ≡ after was.output.held (report_of script first false)

-- Live consoles write the text of their run's script, and then the report of their run. If that text isn't too long, it reads as that
-- script, and each run of `replay` that has exactly this text to read repeats the run.
abbrev pub LiveRunsAreReplayed : Type 0
LiveRunsAreReplayed =
    (port turns : ℕ) (old new : DevicesSeen) (served : Outcome) → turns ≤ 100000 → (run : IsRun (Serve port turns) old new served)
    → (new.output.held ≡ after old.output.held (script_text_of run.script ++ report_of run.script served.run false))
    × (length (script_text_of run.script) ≤ max_bytes
    → (script_of (script_text_of run.script) ≡ Ok run.script)
    × ((was now : DevicesSeen) (again : Outcome) (replay : IsRun Replay was now again) → was.input.left ≡ Some (script_text_of run.script)
    → IsReplayed run.script old.media.tells served.run was now again replay))

-- If a load stopped a turn of live consoles, they ask no more of the drum than the run of their script so far. The blocks that they have
-- moved and all that the next load would move are at most those that this script's record moves.
abbrev pub LiveStoppedLoadsAreFew : Type 0
LiveStoppedLoadsAreFew =
    (bytes : List ℕ) (base : Script) (told : Bool) (port turns : ℕ) (at : CutAt) (a b : LinkSeen) → base_of bytes ≡ Ok base → (talk : IsCutTalk base told port turns at a b)
    → (was now : MediaSeen) (rec : Record) (stop : StopsInTurn base talk was now rec) →
    let all = record_of (script_so_far base talk) in
    dumped_in rec.entries + read_in rec.entries + calls_to_load stop.load.due.user stop.turn.run ≤ dumped_in all.entries + read_in all.entries

-- the link listed so many calls more at most
pub record ListsFew (most : ℕ) (list : CallList) (b : LinkSeen) : Type 0 where
  pub made : List CallMade
  pub few : length made ≤ most
  pub listed : b.calls ≡ Some (record { made = list.made ++ made; room = list.room - length made })

-- A link that lists its calls, and has room for 164,000 of each turn and 100 more, has listed all at the end, whether all turns were done or
-- one failed.
abbrev pub CallsOfTalksAreTold : Type 0
CallsOfTalksAreTold =
    (base : Script) (told : Bool) (port turns : ℕ) (events : List Timed) (a b : LinkSeen) → IsTalk base told port turns events a b
    → (list : CallList) → a.calls ≡ Some list → 164000 * turns + 100 ≤ list.room → ListsFew (164000 * turns + 100) list b

abbrev pub CallsOfCutTalksAreTold : Type 0
CallsOfCutTalksAreTold =
    (base : Script) (told : Bool) (port turns : ℕ) (at : CutAt) (a b : LinkSeen) → IsCutTalk base told port turns at a b
    → (list : CallList) → a.calls ≡ Some list → 164000 * turns + 100 ≤ list.room → ListsFew (164000 * turns + 100) list b
