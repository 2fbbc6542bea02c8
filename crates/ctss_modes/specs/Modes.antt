-- claim: what each mode does with a script: where the script comes from, and which text is written of its run.
use Rattle.std.specs.Prelude.{◌≡◌, ◌≤◌, ◌*◌, ℕ, Bool, true, false, List, [], ◌++◌, length, Option, None, Some, Ok, Err}
use Rattle.std.specs.declared.result.Result.{Result}
use Rattle.ctss_types.specs.declared.script.Script.{Script}
use Rattle.ctss_types.specs.declared.script.Timed.{Timed}
use Rattle.ctss_types.specs.declared.history.Record.{Record}
use Rattle.ctss_io.specs.Outside.{prepended, IsAtEnd}
use Rattle.text_model.specs.declared.mode.Mode.{Mode}
use Rattle.text_model.specs.declared.mode.Mode.TheVariants.{Replay, Dump, Load, Asm, Serve}
use Rattle.text_model.specs.declared.cause.ScriptRefusal.{ScriptRefusal}
use Rattle.text_model.specs.Reading.{script_of, max_bytes}
use Rattle.text_model.specs.Canonical.{script_text_of}
use Rattle.text_model.specs.Made.{made_script}
use Rattle.text_model.specs.Report.{report_of}
use Rattle.text_model.specs.Summary.{summary_of}
use Rattle.script_read.specs.Bases.{base_of}
use Rattle.live_run.specs.Parts.{live_script}
use Rattle.live_serve.specs.Talks.{IsTalk}
use Rattle.ctss_modes.specs.Devices.{InputSeen, DevicesSeen}

abbrev pub ModeAsked : Type 0
ModeAsked = Mode

-- the bytes that are made of a script and its record
abbrev pub TextOfRun : Type 0
TextOfRun = Script → Record → List ℕ

-- whether a script is run
abbrev pub runs_script : Mode → Bool
runs_script Replay = true
runs_script Dump = true
runs_script (Load n) = true
runs_script Asm = false
runs_script (Serve port turns) = true

-- whether the script is read
abbrev pub reads_script : Mode → Bool
reads_script Replay = true
reads_script Dump = true
reads_script (Load n) = false
reads_script Asm = false
reads_script (Serve port turns) = true

-- whether all its events are read with it
abbrev pub replays : Mode → Bool
replays Replay = true
replays Dump = true
replays (Load n) = false
replays Asm = false
replays (Serve port turns) = false

-- whether people give the events over the link
abbrev pub serves : Mode → Bool
serves Replay = false
serves Dump = false
serves (Load n) = false
serves Asm = false
serves (Serve port turns) = true

-- for how many turns people are asked in
abbrev pub turns_asked : Option Mode → ℕ
turns_asked None = 0
turns_asked (Some Replay) = 0
turns_asked (Some Dump) = 0
turns_asked (Some (Load n)) = 0
turns_asked (Some Asm) = 0
turns_asked (Some (Serve port turns)) = turns

-- what bytes spell: a script, or for live consoles a base script, which has no events
abbrev pub script_for : Mode → List ℕ → Result Script ScriptRefusal
script_for Replay bytes = script_of bytes
script_for Dump bytes = script_of bytes
script_for (Load n) bytes = script_of bytes
script_for Asm bytes = script_of bytes
script_for (Serve port turns) bytes = base_of bytes

-- these bytes came, they were all, and they spell the script
pub record IsSpelled (mode : Mode) (left rest : Option (List ℕ)) (script : Script) : Type 0 where
  pub bytes : List ℕ
  pub came : left ≡ prepended bytes rest
  pub whole : IsAtEnd rest
  pub spelled : script_for mode bytes ≡ Ok script

-- nothing was read, and this is the script that is made of the number
pub record IsMade (n : ℕ) (was now : InputSeen) (script : Script) : Type 0 where
  pub unread : now ≡ was
  pub made : script ≡ made_script n

-- A base script came, people talked over the link at this port for so many turns, and this is the base with the events that they
-- gave; where drum and disk tell their records, they were sent what the consoles show in its run.
pub record IsLive (mode : Mode) (port turns : ℕ) (old new : DevicesSeen) (script : Script) : Type 0 where
  pub base : Script
  pub events : List Timed
  pub spelled : IsSpelled mode old.input.left new.input.left base
  pub talk : IsTalk base old.media.tells port turns events old.link new.link
  pub script_is : script ≡ live_script base events (1000 * turns)

abbrev pub Comes : Mode → DevicesSeen → DevicesSeen → Script → Type 0
Comes Replay old new script = IsSpelled Replay old.input.left new.input.left script
Comes Dump old new script = IsSpelled Dump old.input.left new.input.left script
Comes (Load n) old new script = IsMade n old.input new.input script
Comes Asm old new script = true ≡ false
Comes (Serve port turns) old new script = IsLive (Serve port turns) port turns old new script

-- these bytes came, they were all or too many, and the script is refused
pub record IsRefused (mode : Mode) (left rest : Option (List ℕ)) (bytes : List ℕ) (refusal : ScriptRefusal) : Type 0 where
  pub came : left ≡ prepended bytes rest
  pub whole : length bytes ≤ max_bytes → IsAtEnd rest
  pub refused : script_for mode bytes ≡ Err refusal

-- the text of a script's run; that of live consoles begins with the script
abbrev pub text_for : Mode → Script → Record → List ℕ
text_for Replay script run = report_of script run false
text_for Dump script run = report_of script run true
text_for (Load n) script run = summary_of n script run
text_for Asm script run = []
text_for (Serve port turns) script run = script_text_of script ++ report_of script run false
