-- proof: what each mode promises of its answer, by its status.
use Rattle.std.specs.Prelude.{◌≡◌, ◌≢◌, ℕ, List, [], ◌∷◌, Some}
use Rattle.faults.specs.Faults.{Rose, WhereTold}
use Rattle.ctss_types.specs.declared.script.Script.{Script}
use Rattle.ctss_io.specs.Outside.{after}
use Rattle.ctss_io.specs.Whole.{GrewByProperPrefix}
use Rattle.text_model.specs.declared.mode.Mode.{Mode}
use Rattle.text_model.specs.Words.{mode_of}
use Rattle.live_run.specs.Media.{MediaSeen}
use Rattle.ctss_modes.specs.declared.outcome.Outcome.{Outcome}
use Rattle.ctss_modes.specs.Outcomes.{bare, IsOneOf}
use Rattle.ctss_modes.specs.Devices.{OutputSeen, DevicesSeen}
use Rattle.ctss_modes.specs.Played.{IsDone, IsCut, IsLost, HasSpent}
use Rattle.ctss_modes.specs.Modes.{TextOfRun}
use Rattle.ctss_modes.specs.Asm.{assembled_from, DeckIsWritten, CardsAreRefused, InputIsTooLong, CardsAreCutOff, IsDeckOf, AreFaultsOf, IsCutOfCards, statuses_by, statuses_for_cards}
use Rattle.ctss_modes.specs.Top.{IsRun, RunIsStopped, RunLosesFiles, ScriptIsRefused, HasCause, IsCutOff, IsSilent, SpendsFor}

-- a script was run over drum and disk, and the text of its run written
pub record Performs (bytes : TextOfRun) (script : Script) (was now : MediaSeen) (had has : OutputSeen) (o : Outcome) : Type 0 where
  pub status : IsOneOf o.status (0 ∷ 4 ∷ 5 ∷ 6 ∷ 8 ∷ [])
  pub done : IsOneOf o.status (0 ∷ 4 ∷ []) → IsDone script was now o.run
  pub stopped : o.status ≡ 5 → IsCut script was now o.run
  pub lost : o.status ≡ 6 → IsLost script was now o.run
  pub numbers : (o.card ≡ 0) × (o.cause ≡ 0)
  pub text : o.status ≡ 0 → has.held ≡ after had.held (bytes script o.run)
  pub part : o.status ≡ 4 → GrewByProperPrefix had.held (bytes script o.run) has.held
  pub cause : o.status ≡ 4 → Rose had.faults has.faults
  pub memory : o.status ≡ 8 → o ≡ bare 8 0 0
  pub spent : o.status ≡ 8 → HasSpent script was now
  pub silent : IsOneOf o.status (5 ∷ 6 ∷ 8 ∷ []) → has.held ≡ had.held

-- how a mode that runs a script ends that has come
pub record EndsFor (mode : Mode) (old new : DevicesSeen) (o : Outcome) : Type 0 where
  pub done : o.status ≡ 0 → IsRun mode old new o
  pub part : (words : List (List ℕ)) → mode_of words ≡ Some mode → o.status ≡ 4 → IsCutOff words old new o
  pub stopped : (words : List (List ℕ)) → mode_of words ≡ Some mode → o.status ≡ 5 → RunIsStopped words old new o
  pub lost : (words : List (List ℕ)) → mode_of words ≡ Some mode → o.status ≡ 6 → RunLosesFiles words old new o
  pub spent : IsOneOf o.status (7 ∷ 8 ∷ []) → SpendsFor mode old new

-- all that such a mode answers, also of a script that is refused or doesn't come
pub record AnswersFor (mode : Mode) (old new : DevicesSeen) (o : Outcome) : Type 0 where
  pub ends : EndsFor mode old new o
  pub refused : o.status ≡ 2 → ScriptIsRefused mode old new o
  pub cause : HasCause old new o
  pub silent : IsOneOf o.status (3 ∷ 7 ∷ 8 ∷ []) → IsSilent o.status old new o

-- a text of what cards make was written, behind which this is the status
pub record WritesText (status : ℕ) (text : List ℕ) (had has : OutputSeen) (o : Outcome) : Type 0 where
  pub statuses : IsOneOf o.status (status ∷ 4 ∷ 8 ∷ [])
  pub done : o.status ≡ status → o ≡ bare status 0 0
  pub written : o.status ≡ status → has.held ≡ after had.held text
  pub cut : o.status ≡ 4 → o ≡ bare 4 0 0
  pub part : o.status ≡ 4 → GrewByProperPrefix had.held text has.held
  pub cause : o.status ≡ 4 → Rose had.faults has.faults
  pub memory : o.status ≡ 8 → o ≡ bare 8 0 0
  pub silent : o.status ≡ 8 → has.held ≡ had.held

-- what the cards of a text make was written
pub record WritesCards (bytes : List ℕ) (had has : OutputSeen) (o : Outcome) : Type 0 where
  pub status : IsOneOf o.status (8 ∷ statuses_by (assembled_from bytes))
  pub deck : o.status ≡ 0 → IsDeckOf bytes had.held has.held o
  pub faults : o.status ≡ 9 → AreFaultsOf bytes had.held has.held o
  pub unread : o.status ≢ 3
  pub cut : o.status ≡ 4 → o ≡ bare 4 0 0
  pub part : o.status ≡ 4 → IsCutOfCards bytes had.held has.held
  pub cause : o.status ≡ 4 → Rose had.faults has.faults
  pub memory : o.status ≡ 8 → o ≡ bare 8 0 0
  pub silent : o.status ≡ 8 → has.held ≡ had.held

-- cards were read, and what they make was written
pub record Assembles (old new : DevicesSeen) (o : Outcome) : Type 0 where
  pub status : IsOneOf o.status (0 ∷ 2 ∷ 3 ∷ 4 ∷ 8 ∷ 9 ∷ [])
  pub deck : o.status ≡ 0 → DeckIsWritten old new o
  pub faults : o.status ≡ 9 → CardsAreRefused old new o
  pub long : o.status ≡ 2 → InputIsTooLong old new o
  pub unread : o.status ≡ 3 → Rose old.input.faults new.input.faults
  pub unwritten : o.status ≡ 4 → Rose old.output.faults new.output.faults
  pub cut : o.status ≡ 4 → o ≡ bare 4 0 0
  pub part : o.status ≡ 4 → CardsAreCutOff old new
  pub silent : IsOneOf o.status (3 ∷ 8 ∷ []) → IsSilent o.status old new o
  pub told : WhereTold old.input.left (λ bytes. IsOneOf o.status (statuses_for_cards bytes))
