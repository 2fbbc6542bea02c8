-- claim: if a turn of live consoles failed, their schedule and transcripts are beginnings of those of their script so far.
use Rattle.std.specs.Prelude.{ℕ, ◌+◌, ◌*◌, Bool, ◌++◌, length}
use Rattle.ctss_types.specs.declared.script.Script.{Script}
use Rattle.ctss_types.specs.declared.history.Record.{Record}
use Rattle.system_model.specs.Record.{record_of}
use Rattle.live_run.specs.Parts.{live_script}
use Rattle.live_run.specs.Beginnings.{IsBeginningOf}
use Rattle.console_link.specs.Links.{LinkSeen}
use Rattle.console_server.specs.Server.{CutAt}
use Rattle.live_serve.specs.Talks.{events_given, IsCutTalk}
use Rattle.live_serve.specs.Live.{IsInTurn}

-- the live script of a talk until a turn failed: it has all events that were given, and ends with that turn
abbrev pub script_so_far : (base : Script) {told : Bool} {port turns : ℕ} {at : CutAt} {a b : LinkSeen} → IsCutTalk base told port turns at a b → Script
script_so_far base talk = live_script base (events_given talk.turns ++ talk.events) (1000 * (length talk.turns + 1))

-- A record of some whole steps in the turn that failed is a beginning of that script's record.
abbrev pub LiveStopsAreBeginnings : Type 0
LiveStopsAreBeginnings =
    (base : Script) (told : Bool) (port turns : ℕ) (at : CutAt) (a b : LinkSeen) (talk : IsCutTalk base told port turns at a b) (rec : Record) → IsInTurn base talk rec
    → IsBeginningOf rec (record_of (script_so_far base talk))
