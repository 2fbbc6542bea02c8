-- claim: all that is promised of an answer, in one.
use Rattle.std.specs.Prelude.{◌≡◌, ℕ, true, List, [], ◌∷◌, Option, Some}
use Rattle.text_model.specs.declared.mode.Mode.{Mode}
use Rattle.text_model.specs.declared.mode.Mode.TheVariants.{Asm}
use Rattle.text_model.specs.Words.{mode_of}
use Rattle.ctss_modes.specs.declared.outcome.Outcome.{Outcome}
use Rattle.ctss_modes.specs.Outcomes.{IsOneOf}
use Rattle.ctss_modes.specs.Devices.{DevicesSeen}
use Rattle.ctss_modes.specs.Modes.{runs_script}
use Rattle.ctss_modes.specs.Asm.{DeckIsWritten}
use Rattle.ctss_modes.specs.Top.{IsRun, IsRefusal, HasCause, IsCutOff, RunIsStopped, RunLosesFiles, IsSilent, SpendsFor, LeavesUnasked, IsAllowed, NothingFailed, IsComplete}

pub record Answers (words : List (List ℕ)) (old new : DevicesSeen) (result : Outcome) : Type 0 where
  pub headline : (mode : Mode) → mode_of words ≡ Some mode → runs_script mode ≡ true → result.status ≡ 0 → IsRun mode old new result
  pub deck : mode_of words ≡ Some Asm → result.status ≡ 0 → DeckIsWritten old new result
  pub refusals : IsRefusal words old new result
  pub causes : HasCause old new result
  pub cut_off : result.status ≡ 4 → IsCutOff words old new result
  pub stopped : result.status ≡ 5 → RunIsStopped words old new result
  pub lost : result.status ≡ 6 → RunLosesFiles words old new result
  pub silent : IsOneOf result.status (3 ∷ 7 ∷ 8 ∷ []) → IsSilent result.status old new result
  pub spent : IsOneOf result.status (7 ∷ 8 ∷ []) → (mode : Mode) → mode_of words ≡ Some mode → SpendsFor mode old new
  pub apart : LeavesUnasked words old new
  pub allowed : IsAllowed words old result
  pub complete : NothingFailed old new → IsComplete words old result

-- the same for what is asked, by whatever words
pub record IsAnswer (asked : Option Mode) (old new : DevicesSeen) (result : Outcome) : Type 0 where
  pub to_words : (words : List (List ℕ)) → mode_of words ≡ asked → Answers words old new result
