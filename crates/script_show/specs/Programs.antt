-- claim: what a program that writes a text answers, and says on standard error.
use Rattle.std.specs.Prelude.{◌≡◌, ℕ, if◌then◌else◌, nat_eq, List}
use Rattle.command_line.specs.Explained.{explained}
use Rattle.command_line.specs.Said.{Says}
use Rattle.text_model.specs.Parts.{line}
use Rattle.ctss_modes.specs.declared.outcome.Outcome.{Outcome}
use Rattle.ctss_modes.specs.Devices.{OutputSeen}

-- the status is that of an answer, and it is explained; of refused words the usage line is written
pub record HasAnswered (Answers : Outcome → Type 0) (usage : List ℕ) (old new : OutputSeen) (status : ℕ) : Type 0 where
  pub outcome : Outcome
  pub answers : Answers outcome
  pub status_is : status ≡ outcome.status
  pub said : Says (if nat_eq status 1 then line usage else explained status outcome.card outcome.cause) old.held new.held old.faults new.faults
