-- claim: what a program answers that writes a text of the bytes that come in.
use Rattle.std.specs.Prelude.{◌≡◌, ℕ, nat_le, if◌then◌else◌, List, [], ◌∷◌, length, Option}
use Rattle.faults.specs.Faults.{Rose, WhereTold}
use Rattle.ctss_io.specs.Outside.{after}
use Rattle.ctss_io.specs.Whole.{GrewByProperPrefix}
use Rattle.text_model.specs.Reading.{max_bytes}
use Rattle.text_model.specs.Words.{script_refused}
use Rattle.ctss_modes.specs.declared.outcome.Outcome.{Outcome}
use Rattle.ctss_modes.specs.Asm.{IsInput, IsTooLong}
use Rattle.ctss_modes.specs.Devices.{OutputSeen}
use Rattle.ctss_modes.specs.Outcomes.{bare, IsOneOf}
use Rattle.script_show.specs.Shown.{StreamsSeen, IsSilent}

-- the text of some bytes, and the status that says how they were, which is 0 or 9
abbrev pub TextOfBytes : Type 0
TextOfBytes = List ℕ → List ℕ

abbrev pub StatusOfBytes : Type 0
StatusOfBytes = List ℕ → ℕ

-- the text of the bytes that came has come to the output
pub record IsWritten (text : TextOfBytes) (status : StatusOfBytes) (old new : StreamsSeen) (result : Outcome) : Type 0 where
  pub bytes : List ℕ
  pub read : IsInput old.input.left new.input.left bytes
  pub outcome : result ≡ bare (status bytes) 0 0
  pub written : new.output.held ≡ after old.output.held (text bytes)

-- too many bytes came, and so it was written
pub record IsLong (old new : StreamsSeen) (result : Outcome) : Type 0 where
  pub bytes : List ℕ
  pub read : IsTooLong old.input.left new.input.left bytes
  pub outcome : result ≡ bare 2 0 8
  pub written : new.output.held ≡ after old.output.held (script_refused 0 8)

-- a text that was to be written of what came
pub data IsDueOf (text : TextOfBytes) (left rest : Option (List ℕ)) (due : List ℕ) : Type 0 where
  OfBytes : (bytes : List ℕ) → IsInput left rest bytes → due ≡ text bytes → IsDueOf text left rest due
  OfLong : (bytes : List ℕ) → IsTooLong left rest bytes → due ≡ script_refused 0 8 → IsDueOf text left rest due

-- the output failed, and holds a part of the text only
pub record IsCutOff (text : TextOfBytes) (old new : StreamsSeen) : Type 0 where
  pub due : List ℕ
  pub is_due : IsDueOf text old.input.left new.input.left due
  pub part : GrewByProperPrefix old.output.held due new.output.held

-- which statuses there can be for all bytes that are left
abbrev pub statuses_of : StatusOfBytes → List ℕ → List ℕ
statuses_of status bytes = if nat_le (length bytes) max_bytes then status bytes ∷ 3 ∷ 4 ∷ 8 ∷ [] else 2 ∷ 3 ∷ 4 ∷ 8 ∷ []

-- All that is promised of an answer: the text was written (0 or 9), too much came (2), the input failed (3), the output failed (4), no memory (8).
pub record IsOfInput (text : TextOfBytes) (status : StatusOfBytes) (old new : StreamsSeen) (result : Outcome) : Type 0 where
  pub statuses : IsOneOf result.status (0 ∷ 2 ∷ 3 ∷ 4 ∷ 8 ∷ 9 ∷ [])
  pub told : WhereTold old.input.left (λ bytes. IsOneOf result.status (statuses_of status bytes))
  pub written : IsOneOf result.status (0 ∷ 9 ∷ []) → IsWritten text status old new result
  pub long : result.status ≡ 2 → IsLong old new result
  pub unread : result.status ≡ 3 → Rose old.input.faults new.input.faults
  pub unwritten : result.status ≡ 4 → Rose old.output.faults new.output.faults
  pub part : result.status ≡ 4 → IsCutOff text old new
  pub silent : IsOneOf result.status (3 ∷ 8 ∷ []) → IsSilent old new result

-- The text of these bytes was written; or the output failed, and holds a part of it; or memory lacked, and nothing was written.
pub record ShowsBytes (text : TextOfBytes) (status : StatusOfBytes) (bytes : List ℕ) (old new : OutputSeen) (result : Outcome) : Type 0 where
  pub statuses : IsOneOf result.status (status bytes ∷ 4 ∷ 8 ∷ [])
  pub known : IsOneOf (status bytes) (0 ∷ 9 ∷ [])
  pub outcome : IsOneOf result.status (0 ∷ 9 ∷ []) → result ≡ bare (status bytes) 0 0
  pub written : IsOneOf result.status (0 ∷ 9 ∷ []) → new.held ≡ after old.held (text bytes)
  pub part : result.status ≡ 4 → GrewByProperPrefix old.held (text bytes) new.held
  pub cause : result.status ≡ 4 → Rose old.faults new.faults
  pub memory : result.status ≡ 8 → result ≡ bare 8 0 0
  pub silent : result.status ≡ 8 → new.held ≡ old.held
