-- claim: what a program answers to its words, of which some ask for a text and all others are refused.
use Rattle.std.specs.Prelude.{◌≡◌, [], ◌∷◌, Option, Some, None}
use Rattle.faults.specs.Faults.{Rose}
use Rattle.ctss_io.specs.Outside.{after}
use Rattle.ctss_io.specs.Whole.{GrewByProperPrefix}
use Rattle.text_model.specs.Words.{words_refused}
use Rattle.ctss_modes.specs.declared.outcome.Outcome.{Outcome}
use Rattle.ctss_modes.specs.Outcomes.{bare, IsOneOf}
use Rattle.ctss_modes.specs.Modes.{TextOfRun}
use Rattle.script_show.specs.Shown.{StreamsSeen, IsShowing}

-- the words are refused, and so it was written, if the output did not fail; nothing was read
pub record IsRefusedWords (old new : StreamsSeen) (result : Outcome) : Type 0 where
  pub statuses : IsOneOf result.status (1 ∷ 4 ∷ [])
  pub unread : new.input ≡ old.input
  pub refused : result.status ≡ 1 → result ≡ bare 1 0 0
  pub written : result.status ≡ 1 → new.output.held ≡ after old.output.held words_refused
  pub cut : result.status ≡ 4 → result ≡ bare 4 0 0
  pub part : result.status ≡ 4 → GrewByProperPrefix old.output.held words_refused new.output.held
  pub unwritten : result.status ≡ 4 → Rose old.output.faults new.output.faults

-- the answer to words that ask for this text, or for none
abbrev pub IsAnswer : Option TextOfRun → StreamsSeen → StreamsSeen → Outcome → Type 0
IsAnswer None old new result = IsRefusedWords old new result
IsAnswer (Some text) old new result = IsShowing text old new result
