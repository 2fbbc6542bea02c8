-- claim: a base script: a script without events, for consoles whose events come while the run goes on.
use Rattle.std.specs.Prelude.{◌≡◌, ℕ, suc, Bool, true, false, not, ◌&&◌, nat_le, is_some, List, [], ◌∷◌, length, codes, Ok, Err, if◌then◌else◌}
use Rattle.std.specs.declared.result.Result.{Result}
use Rattle.std.specs.Str.{bytes_eq}
use Rattle.std.specs.Str.Lines.{lines}
use Rattle.ctss_types.specs.Words.{word_in}
use Rattle.ctss_types.specs.declared.script.Script.{Script}
use Rattle.text_model.specs.declared.cause.ScriptCause.{ScriptCause}
use Rattle.text_model.specs.declared.cause.ScriptCause.TheVariants.{NotACard, TooLong}
use Rattle.text_model.specs.declared.cause.ScriptRefusal.{ScriptRefusal}
use Rattle.text_model.specs.Drafts.{Draft, empty_draft, entered, is_comment, is_indented}
use Rattle.text_model.specs.Reading.{script_by, script_of, max_bytes}

-- a card that says an event
abbrev pub is_event_card : List ℕ → Bool
is_event_card card = not (is_comment card) && (not (is_indented card) && bytes_eq (word_in card) (codes "AT"))

-- one card more of a base script, in which an event has no form
abbrev pub entered_base : Draft → List ℕ → Result Draft ScriptCause
entered_base d card = if not (is_some d.end) && is_event_card card then Err NotACard else entered d card

-- one card more, of a base script or of any
abbrev pub entered_in : Bool → Draft → List ℕ → Result Draft ScriptCause
entered_in true d card = entered_base d card
entered_in false d card = entered d card

-- the script of a draft and further cards, the first of which is number k
abbrev pub cards_from : Bool → ℕ → Draft → List (List ℕ) → Result Script ScriptRefusal
cards_from is_base k d [] = script_by d.params d.end k d
cards_from is_base k d (card ∷ cards) =
    elim (entered_in is_base d card) [ Ok e ↦ cards_from is_base (suc k) e cards | Err cause ↦ Err (record { card = k; cause = cause }) ]

-- the base script of bytes, if they are not too many
unfoldable pub base_of : List ℕ → Result Script ScriptRefusal
base_of bytes = if nat_le (length bytes) max_bytes then cards_from true 1 empty_draft (lines bytes) else Err (record { card = 0; cause = TooLong })

-- every base script is a script
abbrev pub BasesAreScripts : Type 0
BasesAreScripts = (bytes : List ℕ) (s : Script) → base_of bytes ≡ Ok s → script_of bytes ≡ Ok s
