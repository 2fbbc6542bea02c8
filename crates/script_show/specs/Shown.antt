-- claim: what a program answers that shows the run of a script.
use Rattle.std.specs.Prelude.{◌≡◌, ℕ, List, [], ◌∷◌, Ok, Err}
use Rattle.std.specs.declared.result.Result.{Result}
use Rattle.faults.specs.Faults.{Rose, WhereTold}
use Rattle.ctss_types.specs.declared.script.Script.{Script}
use Rattle.ctss_io.specs.Outside.{after}
use Rattle.ctss_io.specs.Whole.{GrewByProperPrefix}
use Rattle.text_model.specs.declared.mode.Mode.TheVariants.{Replay}
use Rattle.text_model.specs.declared.cause.ScriptRefusal.{ScriptRefusal}
use Rattle.text_model.specs.Causes.{cause_number}
use Rattle.text_model.specs.Words.{script_refused}
use Rattle.text_model.specs.Reading.{script_of}
use Rattle.text_model.specs.Lawful.{IsLawful}
use Rattle.system_model.specs.Record.{record_of}
use Rattle.ctss_modes.specs.declared.outcome.Outcome.{Outcome}
use Rattle.ctss_modes.specs.Outcomes.{bare, IsOneOf}
use Rattle.ctss_modes.specs.Devices.{InputSeen, OutputSeen}
use Rattle.ctss_modes.specs.Modes.{TextOfRun, IsSpelled, IsRefused}

-- what is seen of what the program is handed
pub record StreamsSeen : Type 0 where
  pub input : InputSeen
  pub output : OutputSeen

-- the bytes that are made of a script and its record
abbrev pub ShownText : Type 0
ShownText = TextOfRun

-- what came in spells this script
abbrev pub Spells : StreamsSeen → StreamsSeen → Script → Type 0
Spells old new script = IsSpelled Replay old.input.left new.input.left script

-- A lawful script came in, and the text of the one record that the rules give for it has come to the output.
pub record IsShown (text : TextOfRun) (old new : StreamsSeen) (result : Outcome) : Type 0 where
  pub script : Script
  pub spelled : Spells old new script
  pub lawful : IsLawful script
  pub run : result.run ≡ record_of script
  pub written : new.output.held ≡ after old.output.held (text script (record_of script))
  pub card : result.card ≡ 0
  pub cause : result.cause ≡ 0

-- A lawful script was run and the text of its one record written; the output failed, and holds a part of the text only; or memory
-- lacked, and nothing was written.
pub record ShowsRun (shown : TextOfRun) (script : Script) (old new : OutputSeen) (result : Outcome) : Type 0 where
  pub status : IsOneOf result.status (0 ∷ 4 ∷ 8 ∷ [])
  pub run : IsOneOf result.status (0 ∷ 4 ∷ []) → result.run ≡ record_of script
  pub numbers : (result.card ≡ 0) × (result.cause ≡ 0)
  pub text : result.status ≡ 0 → new.held ≡ after old.held (shown script (record_of script))
  pub part : result.status ≡ 4 → GrewByProperPrefix old.held (shown script (record_of script)) new.held
  pub cause : result.status ≡ 4 → Rose old.faults new.faults
  pub memory : result.status ≡ 8 → result ≡ bare 8 0 0
  pub silent : result.status ≡ 8 → new.held ≡ old.held

-- the script that came in is refused, and so it was written
pub record IsRefusedScript (old new : StreamsSeen) (result : Outcome) : Type 0 where
  pub bytes : List ℕ
  pub refusal : ScriptRefusal
  pub read : IsRefused Replay old.input.left new.input.left bytes refusal
  pub outcome : result ≡ bare 2 refusal.card (cause_number refusal.cause)
  pub written : new.output.held ≡ after old.output.held (script_refused refusal.card (cause_number refusal.cause))

-- a text that was to be written of what came in
pub data IsDue (text : TextOfRun) (old new : StreamsSeen) (due : List ℕ) : Type 0 where
  OfRun : (script : Script) → IsSpelled Replay old.input.left new.input.left script → due ≡ text script (record_of script)
      → IsDue text old new due
  OfRefusal : (bytes : List ℕ) (refusal : ScriptRefusal) → IsRefused Replay old.input.left new.input.left bytes refusal
      → due ≡ script_refused refusal.card (cause_number refusal.cause) → IsDue text old new due

-- the output failed, and holds a part of the text only
pub record IsShownInPart (text : TextOfRun) (old new : StreamsSeen) : Type 0 where
  pub due : List ℕ
  pub is_due : IsDue text old new due
  pub part : GrewByProperPrefix old.output.held due new.output.held

-- nothing was written
pub record IsSilent (old new : StreamsSeen) (result : Outcome) : Type 0 where
  pub outcome : result ≡ bare result.status 0 0
  pub same : new.output.held ≡ old.output.held

-- which statuses there can be where the bytes spell a script, or are refused
abbrev pub statuses_for : Result Script ScriptRefusal → List ℕ
statuses_for (Err refusal) = 2 ∷ 3 ∷ 4 ∷ 8 ∷ []
statuses_for (Ok script) = 0 ∷ 3 ∷ 4 ∷ 8 ∷ []

-- All that is promised of an answer: done (0), the script refused (2), the input failed (3), the output failed (4), no memory (8).
pub record IsShowing (text : TextOfRun) (old new : StreamsSeen) (result : Outcome) : Type 0 where
  pub statuses : IsOneOf result.status (0 ∷ 2 ∷ 3 ∷ 4 ∷ 8 ∷ [])
  pub told : WhereTold old.input.left (λ bytes. IsOneOf result.status (statuses_for (script_of bytes)))
  pub shown : result.status ≡ 0 → IsShown text old new result
  pub refused : result.status ≡ 2 → IsRefusedScript old new result
  pub unread : result.status ≡ 3 → Rose old.input.faults new.input.faults
  pub unwritten : result.status ≡ 4 → Rose old.output.faults new.output.faults
  pub part : result.status ≡ 4 → IsShownInPart text old new
  pub silent : IsOneOf result.status (3 ∷ 8 ∷ []) → IsSilent old new result
