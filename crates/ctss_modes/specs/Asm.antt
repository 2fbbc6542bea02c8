-- claim: assembly: cards come in, and their deck or their faults go out.
use Rattle.std.specs.Prelude.{◌≡◌, ◌≤◌, ◌<◌, ℕ, nat_le, if◌then◌else◌, List, [], ◌∷◌, length, Option}
use Rattle.std.specs.Str.Lines.{lines}
use Rattle.ctss_io.specs.Outside.{prepended, after, IsAtEnd}
use Rattle.ctss_io.specs.Whole.{GrewByProperPrefix}
use Rattle.text_model.specs.Words.{script_refused, faults_text}
use Rattle.text_model.specs.Canonical.{word_cards}
use Rattle.text_model.specs.Reading.{max_bytes}
use Rattle.fap_model.specs.Decks.{Assembled, deck, faulty, assembled}
use Rattle.ctss_modes.specs.declared.outcome.Outcome.{Outcome}
use Rattle.ctss_modes.specs.Outcomes.{bare}
use Rattle.ctss_modes.specs.Devices.{DevicesSeen}

-- what the cards of a text make
abbrev pub assembled_from : List ℕ → Assembled
assembled_from bytes = assembled (lines bytes)

-- these bytes came, they were all, and not too many
pub record IsInput (left rest : Option (List ℕ)) (bytes : List ℕ) : Type 0 where
  pub came : left ≡ prepended bytes rest
  pub whole : IsAtEnd rest
  pub size : length bytes ≤ max_bytes

-- these bytes came, and are one too many
pub record IsTooLong (left rest : Option (List ℕ)) (bytes : List ℕ) : Type 0 where
  pub came : left ≡ prepended bytes rest
  pub size : max_bytes < length bytes

-- the deck of the cards that came has come to the output, as O cards
pub record DeckIsWritten (old new : DevicesSeen) (result : Outcome) : Type 0 where
  pub bytes : List ℕ
  pub words : List ℕ
  pub read : IsInput old.input.left new.input.left bytes
  pub made : assembled_from bytes ≡ deck words
  pub outcome : result ≡ bare 0 0 0
  pub written : new.output.held ≡ after old.output.held (word_cards words)

-- the cards that came are at fault, and a line for each has come to the output
pub record CardsAreRefused (old new : DevicesSeen) (result : Outcome) : Type 0 where
  pub bytes : List ℕ
  pub faults : List (ℕ × ℕ)
  pub read : IsInput old.input.left new.input.left bytes
  pub made : assembled_from bytes ≡ faulty faults
  pub outcome : result ≡ bare 9 0 0
  pub written : new.output.held ≡ after old.output.held (faults_text faults)

-- too many bytes came, and so it was written
pub record InputIsTooLong (old new : DevicesSeen) (result : Outcome) : Type 0 where
  pub bytes : List ℕ
  pub read : IsTooLong old.input.left new.input.left bytes
  pub outcome : result ≡ bare 2 0 8
  pub written : new.output.held ≡ after old.output.held (script_refused 0 8)

-- a text that was to be written
pub data IsTextOfCards (left rest : Option (List ℕ)) (text : List ℕ) : Type 0 where
  OfDeck : (bytes words : List ℕ) → IsInput left rest bytes → assembled_from bytes ≡ deck words → text ≡ word_cards words
      → IsTextOfCards left rest text
  OfFaults : (bytes : List ℕ) (faults : List (ℕ × ℕ)) → IsInput left rest bytes → assembled_from bytes ≡ faulty faults
      → text ≡ faults_text faults → IsTextOfCards left rest text
  OfLong : (bytes : List ℕ) → IsTooLong left rest bytes → text ≡ script_refused 0 8 → IsTextOfCards left rest text

-- the output failed, and holds a part of the text only
pub record CardsAreCutOff (old new : DevicesSeen) : Type 0 where
  pub text : List ℕ
  pub said : IsTextOfCards old.input.left new.input.left text
  pub part : GrewByProperPrefix old.output.held text new.output.held

-- what is written where the bytes are known

pub record IsDeckOf (bytes : List ℕ) (held now : Option (List ℕ)) (result : Outcome) : Type 0 where
  pub words : List ℕ
  pub made : assembled_from bytes ≡ deck words
  pub outcome : result ≡ bare 0 0 0
  pub written : now ≡ after held (word_cards words)

pub record AreFaultsOf (bytes : List ℕ) (held now : Option (List ℕ)) (result : Outcome) : Type 0 where
  pub faults : List (ℕ × ℕ)
  pub made : assembled_from bytes ≡ faulty faults
  pub outcome : result ≡ bare 9 0 0
  pub written : now ≡ after held (faults_text faults)

pub data IsTextOfBytes (bytes text : List ℕ) : Type 0 where
  DeckOf : (words : List ℕ) → assembled_from bytes ≡ deck words → text ≡ word_cards words → IsTextOfBytes bytes text
  FaultsOf : (faults : List (ℕ × ℕ)) → assembled_from bytes ≡ faulty faults → text ≡ faults_text faults → IsTextOfBytes bytes text

pub record IsCutOfCards (bytes : List ℕ) (held now : Option (List ℕ)) : Type 0 where
  pub text : List ℕ
  pub said : IsTextOfBytes bytes text
  pub part : GrewByProperPrefix held text now

-- which statuses there can be for all bytes that are left
abbrev pub statuses_by : Assembled → List ℕ
statuses_by (deck words) = 0 ∷ 3 ∷ 4 ∷ 8 ∷ []
statuses_by (faulty faults) = 3 ∷ 4 ∷ 8 ∷ 9 ∷ []

abbrev pub statuses_for_cards : List ℕ → List ℕ
statuses_for_cards bytes = if nat_le (length bytes) max_bytes then statuses_by (assembled_from bytes) else 2 ∷ 3 ∷ 4 ∷ 8 ∷ []

-- the one status that bytes define, where nothing fails

abbrev pub status_by : Assembled → ℕ
status_by (deck words) = 0
status_by (faulty faults) = 9

abbrev pub status_of_cards : List ℕ → ℕ
status_of_cards bytes = if nat_le (length bytes) max_bytes then status_by (assembled_from bytes) else 2
