-- proof: what the consoles have shown of a run.
use Rattle.std.specs.Prelude.{◌≡◌, ℕ, true, List, map}
use Rattle.std.specs.List.{AllZip}
use Rattle.live_core.specs.Core.{Grows}
use Rattle.time_sharing.specs.System.{Console}
use Rattle.user_model.specs.User.{User}
use Rattle.system_model.specs.Run.{Run, next}
use Rattle.system_model.specs.Joined.{joined}
use Rattle.user_model.specs.Inner.{Stored}
use Rattle.user_cores.specs.Backing.{Held}
use Rattle.console_texts.specs.Parts.{Shown, Kept, text_of}
use Rattle.console_texts.specs.Following.{AreShown}
use Rattle.console_texts.specs.Watching.{transcripts_of, texts_next, texts_to, AfterShown}
use Rattle.supervisor.specs.Steps.{Shows}

abbrev pub rows_of : List Kept → List Shown
rows_of rows = map (λ (k : Kept). k.shown) rows

-- each console's text, the first that of console 1
abbrev pub texts_of : List User → List Kept → List (List ℕ)
texts_of users rows = map (text_of (transcripts_of users)) (rows_of rows)

-- the rows are those of these consoles
abbrev pub MatchesConsoles : List Console → List User → List Kept → Type 0
MatchesConsoles consoles users rows = AreShown consoles (transcripts_of users) (rows_of rows)

-- The texts after a step, with whatever words and files the users had.
abbrev pub GoesOn : ℕ → (old new : Run) → (had has : List (List ℕ)) → Type 0
GoesOn limit old new had has = (before after : ℕ → Stored) → joined after new ≡ next limit (joined before old) → has ≡ texts_next limit (joined before old) had

-- The texts after the run to the limit, and after a part that is shown; where drum and disk tell their records.
abbrev pub HasTexts : ℕ → (old : Run) → (had : Held) → (told tells : List (List ℕ)) → Type 0
HasTexts limit old had told tells = had.tells ≡ true → tells ≡ texts_to limit (joined had.stores old) told

abbrev pub HasTextsShown : ℕ → (old new : Run) → (had : Held) → (told tells : List (List ℕ)) → Type 0
HasTextsShown limit old new had told tells = had.tells ≡ true → (at : Run) × AfterShown limit (joined had.stores old) at told tells × Shows at new

-- The texts after some whole steps, of a run that has come to its new state by as many; likewise.
abbrev pub HasTextsPart : ℕ → (old new : Run) → (had has : Held) → (told tells : List (List ℕ)) → Type 0
HasTextsPart limit old new had has told tells = had.tells ≡ true → AfterShown limit (joined had.stores old) (joined has.stores new) told tells

-- nothing that a console has shown is taken back
abbrev pub TextsGrow : (had has : List (List ℕ)) → Type 0
TextsGrow had has = AllZip Grows had has
