-- proof: how a call ends whose input was too long or could not be read.
use Rattle.std.specs.Prelude.{◌≡◌, [], ◌∷◌}
use Rattle.faults.specs.Faults.{Rose}
use Rattle.ctss_io.specs.declared.whole.ReadEnd.{ReadEnd}
use Rattle.ctss_io.specs.declared.whole.ReadEnd.TheVariants.{TooLong, Fault, NoMemory}
use Rattle.ctss_io.specs.Outside.{after}
use Rattle.ctss_io.specs.Whole.{ShrankBy, HasAtLeast, GrewByProperPrefix}
use Rattle.text_model.specs.Words.{script_refused}
use Rattle.ctss_modes.specs.declared.outcome.Outcome.{Outcome}
use Rattle.ctss_modes.specs.Outcomes.{bare, IsOneOf}
use Rattle.ctss_modes.specs.Devices.{InputSeen, OutputSeen}

pub record EndsUnread (was now : InputSeen) (had has : OutputSeen) (o : Outcome) : Type 0 where
  pub statuses : IsOneOf o.status (2 ∷ 3 ∷ 4 ∷ 8 ∷ [])
  pub many : IsOneOf o.status (2 ∷ 4 ∷ []) → HasAtLeast 4194305 was.left
  pub gone : IsOneOf o.status (2 ∷ 4 ∷ []) → ShrankBy 4194305 was.left now.left
  pub refused : o.status ≡ 2 → o ≡ bare 2 0 8
  pub written : o.status ≡ 2 → has.held ≡ after had.held (script_refused 0 8)
  pub cut : o.status ≡ 4 → o ≡ bare 4 0 0
  pub part : o.status ≡ 4 → GrewByProperPrefix had.held (script_refused 0 8) has.held
  pub unwritten : o.status ≡ 4 → Rose had.faults has.faults
  pub unread : o.status ≡ 3 → Rose was.faults now.faults
  pub bare_is : IsOneOf o.status (3 ∷ 8 ∷ []) → o ≡ bare o.status 0 0
  pub silent : IsOneOf o.status (3 ∷ 8 ∷ []) → has.held ≡ had.held

-- too much came: a refusal is written, or the output or memory fails
pub record RefusesInput (had has : OutputSeen) (o : Outcome) : Type 0 where
  pub statuses : IsOneOf o.status (2 ∷ 4 ∷ 8 ∷ [])
  pub refused : o.status ≡ 2 → o ≡ bare 2 0 8
  pub written : o.status ≡ 2 → has.held ≡ after had.held (script_refused 0 8)
  pub cut : o.status ≡ 4 → o ≡ bare 4 0 0
  pub part : o.status ≡ 4 → GrewByProperPrefix had.held (script_refused 0 8) has.held
  pub unwritten : o.status ≡ 4 → Rose had.faults has.faults
  pub memory : o.status ≡ 8 → o ≡ bare 8 0 0
  pub silent : o.status ≡ 8 → has.held ≡ had.held

-- what each end of the reading comes to
abbrev pub EndsBy : ReadEnd → (had has : OutputSeen) → Outcome → Type 0
EndsBy TooLong had has o = RefusesInput had has o
EndsBy Fault had has o = (o ≡ bare 3 0 0) × (has ≡ had)
EndsBy NoMemory had has o = (o ≡ bare 8 0 0) × (has ≡ had)
