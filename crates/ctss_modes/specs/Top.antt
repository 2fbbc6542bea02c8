-- claim: what the answers of the top call mean.
use Rattle.std.specs.Prelude.{◌≡◌, ℕ, Bool, true, false, List, [], ◌∷◌, Option, Some, None, Ok, Err}
use Rattle.std.specs.declared.result.Result.{Result}
use Rattle.ctss_types.specs.declared.script.Script.{Script}
use Rattle.ctss_types.specs.declared.history.Record.{Record}
use Rattle.faults.specs.Faults.{Rose, WhereTold}
use Rattle.ctss_io.specs.Outside.{after}
use Rattle.ctss_io.specs.Whole.{GrewByProperPrefix}
use Rattle.text_model.specs.declared.mode.Mode.{Mode}
use Rattle.text_model.specs.declared.mode.Mode.TheVariants.{Replay, Dump, Load, Asm, Serve}
use Rattle.text_model.specs.declared.cause.ScriptRefusal.{ScriptRefusal}
use Rattle.text_model.specs.Causes.{cause_number}
use Rattle.text_model.specs.Words.{mode_of, words_refused, script_refused}
use Rattle.text_model.specs.Reading.{script_of}
use Rattle.script_read.specs.Bases.{base_of}
use Rattle.system_model.specs.Record.{record_of, EachIsAlone, IsOneList}
use Rattle.supervisor.specs.Counts.{IsCounted}
use Rattle.ctss_modes.specs.declared.outcome.Outcome.{Outcome}
use Rattle.ctss_modes.specs.Outcomes.{empty_record, bare, IsOneOf}
use Rattle.ctss_modes.specs.Devices.{DevicesSeen, Stands}
use Rattle.file_tracks.specs.Lying.{LieOn}
use Rattle.live_serve.specs.Live.{IsStopped as IsLiveStopped, IsLost as IsLiveLost, HasSpent as HasLiveSpent}
use Rattle.ctss_modes.specs.Played.{IsDone, IsCut, IsLost, HasSpent}
use Rattle.ctss_modes.specs.Modes.{Comes, IsSpelled, IsRefused, text_for, reads_script, runs_script, serves}
use Rattle.ctss_modes.specs.Asm.{IsTextOfCards, CardsAreRefused, InputIsTooLong, statuses_for_cards, status_of_cards}

-- The headline. The script is the one that the mode runs: that of all bytes that came, a made one, or a base with what people did
-- over the link. The text of the run has come to the output. Where drum and disk tell their records, the run is the script's one
-- record, each account's transcript and files are those of the user's machine alone, and all replies of the common files are those of
-- one list of files. Where the drum tells its calls, they are just those of the run's loads; where the disk tells its records, each
-- file of the run lies on tracks of its own.
pub record IsRun (mode : Mode) (old new : DevicesSeen) (result : Outcome) : Type 0 where
  pub script : Script
  pub comes : Comes mode old new script
  pub written : new.output.held ≡ after old.output.held (text_for mode script result.run)
  pub run : old.media.tells ≡ true → result.run ≡ record_of script
  pub alone : old.media.tells ≡ true → EachIsAlone script result.run
  pub shared : old.media.tells ≡ true → IsOneList script result.run
  pub counted : IsCounted [] result.run.entries old.media.drum_calls new.media.drum_calls
  pub lie : WhereTold new.media.disk_contents (λ contents. LieOn contents result.run.files result.run.common)
  pub card : result.card ≡ 0
  pub cause : result.cause ≡ 0

-- The drum failed in the run of this script.
pub record ScriptIsStopped (mode : Mode) (old new : DevicesSeen) (result : Outcome) : Type 0 where
  pub script : Script
  pub comes : Comes mode old new script
  pub stopped : IsCut script old.media new.media result.run

-- the same of live consoles, in a turn
pub record LiveIsStopped (mode : Mode) (port turns : ℕ) (old new : DevicesSeen) (result : Outcome) : Type 0 where
  pub base : Script
  pub spelled : IsSpelled mode old.input.left new.input.left base
  pub stopped : IsLiveStopped base port turns old.media new.media old.link new.link result.run

abbrev pub StopsFor : Mode → DevicesSeen → DevicesSeen → Outcome → Type 0
StopsFor Replay old new result = ScriptIsStopped Replay old new result
StopsFor Dump old new result = ScriptIsStopped Dump old new result
StopsFor (Load n) old new result = ScriptIsStopped (Load n) old new result
StopsFor Asm old new result = true ≡ false
StopsFor (Serve port turns) old new result = LiveIsStopped (Serve port turns) port turns old new result

-- the drum failed, and nothing was written
pub record RunIsStopped (words : List (List ℕ)) (old new : DevicesSeen) (result : Outcome) : Type 0 where
  pub mode : Mode
  pub asked : mode_of words ≡ Some mode
  pub stopped : StopsFor mode old new result
  pub silent : new.output.held ≡ old.output.held
  pub card : result.card ≡ 0
  pub cause : result.cause ≡ 0

-- The disk failed in the run of this script, or before or behind it.
pub record ScriptLosesFiles (mode : Mode) (old new : DevicesSeen) (result : Outcome) : Type 0 where
  pub script : Script
  pub comes : Comes mode old new script
  pub lost : IsLost script old.media new.media result.run

-- the same of live consoles
pub record LiveLosesFiles (mode : Mode) (port turns : ℕ) (old new : DevicesSeen) (result : Outcome) : Type 0 where
  pub base : Script
  pub spelled : IsSpelled mode old.input.left new.input.left base
  pub lost : IsLiveLost base port turns old.media new.media old.link new.link result.run

abbrev pub LosesFor : Mode → DevicesSeen → DevicesSeen → Outcome → Type 0
LosesFor Replay old new result = ScriptLosesFiles Replay old new result
LosesFor Dump old new result = ScriptLosesFiles Dump old new result
LosesFor (Load n) old new result = ScriptLosesFiles (Load n) old new result
LosesFor Asm old new result = true ≡ false
LosesFor (Serve port turns) old new result = LiveLosesFiles (Serve port turns) port turns old new result

pub record RunLosesFiles (words : List (List ℕ)) (old new : DevicesSeen) (result : Outcome) : Type 0 where
  pub mode : Mode
  pub asked : mode_of words ≡ Some mode
  pub loses : LosesFor mode old new result
  pub silent : new.output.held ≡ old.output.held
  pub card : result.card ≡ 0
  pub cause : result.cause ≡ 0

-- No record came of a script's run, as memory lacked: drum and link had not been called, or this script was run, over the drum's calls.
pub data ScriptSpends (mode : Mode) (old new : DevicesSeen) : Type 0 where
  Unbegun : new.media.drum_calls ≡ old.media.drum_calls → new.link ≡ old.link → ScriptSpends mode old new
  Begun : (script : Script) → Comes mode old new script → HasSpent script old.media new.media → ScriptSpends mode old new

-- the same of live consoles, of which the listener may have failed too
pub data LiveSpends (mode : Mode) (port turns : ℕ) (old new : DevicesSeen) : Type 0 where
  NotServed : new.media.drum_calls ≡ old.media.drum_calls → new.link ≡ old.link → LiveSpends mode port turns old new
  Serving : (base : Script) → IsSpelled mode old.input.left new.input.left base → HasLiveSpent base port turns old.media new.media old.link new.link → LiveSpends mode port turns old new

abbrev pub SpendsFor : Mode → DevicesSeen → DevicesSeen → Type 0
SpendsFor Replay old new = ScriptSpends Replay old new
SpendsFor Dump old new = ScriptSpends Dump old new
SpendsFor (Load n) old new = ScriptSpends (Load n) old new
SpendsFor Asm old new = new.media ≡ old.media
SpendsFor (Serve port turns) old new = LiveSpends (Serve port turns) port turns old new

-- the script that came is refused, and so it was written; no call of drum, disk or link was made
pub record ScriptIsRefused (mode : Mode) (old new : DevicesSeen) (result : Outcome) : Type 0 where
  pub bytes : List ℕ
  pub refusal : ScriptRefusal
  pub read : IsRefused mode old.input.left new.input.left bytes refusal
  pub outcome : result ≡ bare 2 refusal.card (cause_number refusal.cause)
  pub written : new.output.held ≡ after old.output.held (script_refused refusal.card (cause_number refusal.cause))
  pub media : new.media ≡ old.media
  pub link : new.link ≡ old.link

-- the words ask for nothing, and so it was written; nothing was read
pub record WordsAreRefused (words : List (List ℕ)) (old new : DevicesSeen) (result : Outcome) : Type 0 where
  pub lawless : mode_of words ≡ None
  pub unread : new.input ≡ old.input
  pub outcome : result ≡ bare 1 0 0
  pub written : new.output.held ≡ after old.output.held words_refused

-- a text that was to be written, and the record that goes with it
pub data IsTextOf (words : List (List ℕ)) (old new : DevicesSeen) (run : Record) (text : List ℕ) : Type 0 where
  OfWords : mode_of words ≡ None → new.input ≡ old.input → run ≡ empty_record → text ≡ words_refused
      → IsTextOf words old new run text
  OfRefusal : (mode : Mode) → mode_of words ≡ Some mode → reads_script mode ≡ true → (bytes : List ℕ) (refusal : ScriptRefusal)
      → IsRefused mode old.input.left new.input.left bytes refusal → new.media ≡ old.media → new.link ≡ old.link → run ≡ empty_record
      → text ≡ script_refused refusal.card (cause_number refusal.cause) → IsTextOf words old new run text
  OfRun : (mode : Mode) → mode_of words ≡ Some mode → (script : Script) → Comes mode old new script
      → IsDone script old.media new.media run → text ≡ text_for mode script run → IsTextOf words old new run text
  OfCards : mode_of words ≡ Some Asm → run ≡ empty_record → IsTextOfCards old.input.left new.input.left text
      → IsTextOf words old new run text

-- the output failed, and holds a part of the text only
pub record IsCutOff (words : List (List ℕ)) (old new : DevicesSeen) (result : Outcome) : Type 0 where
  pub text : List ℕ
  pub said : IsTextOf words old new result.run text
  pub part : GrewByProperPrefix old.output.held text new.output.held
  pub card : result.card ≡ 0
  pub cause : result.cause ≡ 0

-- nothing was written; where reading failed no call of drum, disk or link was made
pub record IsSilent (status : ℕ) (old new : DevicesSeen) (result : Outcome) : Type 0 where
  pub outcome : result ≡ bare status 0 0
  pub same : new.output.held ≡ old.output.held
  pub media : status ≡ 3 → new.media ≡ old.media
  pub link : status ≡ 3 → new.link ≡ old.link

-- the refusals, each with its text
pub record IsRefusal (words : List (List ℕ)) (old new : DevicesSeen) (result : Outcome) : Type 0 where
  pub of_words : result.status ≡ 1 → WordsAreRefused words old new result
  pub of_script : (mode : Mode) → mode_of words ≡ Some mode → reads_script mode ≡ true → result.status ≡ 2 → ScriptIsRefused mode old new result
  pub of_input : mode_of words ≡ Some Asm → result.status ≡ 2 → InputIsTooLong old new result
  pub of_cards : result.status ≡ 9 → CardsAreRefused old new result

-- a fault is answered only where that object's count of faults rose
pub record HasCause (old new : DevicesSeen) (result : Outcome) : Type 0 where
  pub reading : result.status ≡ 3 → Rose old.input.faults new.input.faults
  pub writing : result.status ≡ 4 → Rose old.output.faults new.output.faults
  pub drum : result.status ≡ 5 → Rose old.media.drum_faults new.media.drum_faults
  pub disk : result.status ≡ 6 → Rose old.media.disk_faults new.media.disk_faults
  pub link : result.status ≡ 7 → Rose old.link.faults new.link.faults

-- whether the words ask for the run of a script, and for live consoles
abbrev pub asks_run : Option Mode → Bool
asks_run None = false
asks_run (Some mode) = runs_script mode

abbrev pub asks_link : Option Mode → Bool
asks_link None = false
asks_link (Some mode) = serves mode

-- drum, disk and link are as they were, none of their calls was made, where the words don't ask for them
pub record LeavesUnasked (words : List (List ℕ)) (old new : DevicesSeen) : Type 0 where
  pub media : asks_run (mode_of words) ≡ false → new.media ≡ old.media
  pub link : asks_link (mode_of words) ≡ false → new.link ≡ old.link

-- which statuses there can be where the bytes spell a script, or are refused
abbrev pub statuses_for : Result Script ScriptRefusal → List ℕ
statuses_for (Err refusal) = 2 ∷ 3 ∷ 4 ∷ 8 ∷ []
statuses_for (Ok script) = 0 ∷ 3 ∷ 4 ∷ 5 ∷ 6 ∷ 8 ∷ []

-- the same for a base script
abbrev pub statuses_live : Result Script ScriptRefusal → List ℕ
statuses_live (Err refusal) = 2 ∷ 3 ∷ 4 ∷ 8 ∷ []
statuses_live (Ok base) = 0 ∷ 3 ∷ 4 ∷ 5 ∷ 6 ∷ 7 ∷ 8 ∷ []

-- which statuses there can be, for what the words ask and all bytes that are left
abbrev pub statuses_of : Option Mode → List ℕ → List ℕ
statuses_of None bytes = 1 ∷ 4 ∷ 8 ∷ []
statuses_of (Some Replay) bytes = statuses_for (script_of bytes)
statuses_of (Some Dump) bytes = statuses_for (script_of bytes)
statuses_of (Some (Load n)) bytes = 0 ∷ 4 ∷ 5 ∷ 6 ∷ 8 ∷ []
statuses_of (Some Asm) bytes = statuses_for_cards bytes
statuses_of (Some (Serve port turns)) bytes = statuses_live (base_of bytes)

-- the same for what the words ask, whatever the bytes
abbrev pub statuses_asked : Option Mode → List ℕ
statuses_asked None = 1 ∷ 4 ∷ 8 ∷ []
statuses_asked (Some Replay) = 0 ∷ 2 ∷ 3 ∷ 4 ∷ 5 ∷ 6 ∷ 8 ∷ []
statuses_asked (Some Dump) = 0 ∷ 2 ∷ 3 ∷ 4 ∷ 5 ∷ 6 ∷ 8 ∷ []
statuses_asked (Some (Load n)) = 0 ∷ 4 ∷ 5 ∷ 6 ∷ 8 ∷ []
statuses_asked (Some Asm) = 0 ∷ 2 ∷ 3 ∷ 4 ∷ 8 ∷ 9 ∷ []
statuses_asked (Some (Serve port turns)) = 0 ∷ 2 ∷ 3 ∷ 4 ∷ 5 ∷ 6 ∷ 7 ∷ 8 ∷ []

-- no other status comes than those that the words allow and, where the bytes are told, these
pub record IsAllowed (words : List (List ℕ)) (old : DevicesSeen) (result : Outcome) : Type 0 where
  pub by_words : IsOneOf result.status (statuses_asked (mode_of words))
  pub by_bytes : WhereTold old.input.left (λ bytes. IsOneOf result.status (statuses_of (mode_of words) bytes))

-- the one status that words and bytes define, where nothing fails

abbrev pub status_of_script : Result Script ScriptRefusal → ℕ
status_of_script (Ok script) = 0
status_of_script (Err refusal) = 2

abbrev pub status_due : Option Mode → List ℕ → ℕ
status_due None bytes = 1
status_due (Some Replay) bytes = status_of_script (script_of bytes)
status_due (Some Dump) bytes = status_of_script (script_of bytes)
status_due (Some (Load n)) bytes = 0
status_due (Some Asm) bytes = status_of_cards bytes
status_due (Some (Serve port turns)) bytes = status_of_script (base_of bytes)

-- the answers to what the words ask, where nothing fails, whatever the bytes
abbrev pub answers_to : Option Mode → List ℕ
answers_to None = 1 ∷ 8 ∷ []
answers_to (Some Replay) = 0 ∷ 2 ∷ 8 ∷ []
answers_to (Some Dump) = 0 ∷ 2 ∷ 8 ∷ []
answers_to (Some (Load n)) = 0 ∷ 8 ∷ []
answers_to (Some Asm) = 0 ∷ 2 ∷ 8 ∷ 9 ∷ []
answers_to (Some (Serve port turns)) = 0 ∷ 2 ∷ 8 ∷ []

-- no call of the input, the output, the drum, the disk or the listener failed; what calls on single connections did is not asked
pub record NothingFailed (old new : DevicesSeen) : Type 0 where
  pub input : Stands old.input.faults new.input.faults
  pub output : Stands old.output.faults new.output.faults
  pub drum : Stands old.media.drum_faults new.media.drum_faults
  pub disk : Stands old.media.disk_faults new.media.disk_faults
  pub link : Stands old.link.faults new.link.faults

-- The answer is the one that words and bytes define, or want of memory. Where the bytes are not told it is one that some bytes could
-- have.
pub record IsComplete (words : List (List ℕ)) (old : DevicesSeen) (result : Outcome) : Type 0 where
  pub by_words : IsOneOf result.status (answers_to (mode_of words))
  pub by_bytes : WhereTold old.input.left (λ bytes. IsOneOf result.status (status_due (mode_of words) bytes ∷ 8 ∷ []))
