-- proof: what a console has shown after one step of a run.
use Rattle.std.specs.Prelude.{◌≡◌, ℕ, zero, suc, ◌-◌, Bool, true, false, not, ◌&&◌, if◌then◌else◌, nat_eq, Option, Some, None, List, [], ◌∷◌, ◌++◌, All}
use Rattle.time_sharing.specs.System.{Console, Off, On, Password, Session, at}
use Rattle.time_sharing.specs.Texts.{user_in, shows}
use Rattle.console_texts.specs.declared.row.Piece.{Piece}
use Rattle.console_texts.specs.declared.row.Piece.TheVariants.{PasswordAsked, LoginRefused, Wrote}
use Rattle.console_texts.specs.declared.row.Tail.{Tail}
use Rattle.console_texts.specs.Parts.{Shown, Transcripts, Fits}

-- a console that wasn't waiting for a password and is now
abbrev pub asks : Console → Console → Bool
asks (Password was) now = false
asks Off (Password name) = true
asks Off Off = false
asks Off On = false
asks Off (Session u) = false
asks On (Password name) = true
asks On Off = false
asks On On = false
asks On (Session u) = false
asks (Session u) (Password name) = true
asks (Session u) Off = false
asks (Session u) On = false
asks (Session u) (Session v) = false

-- the session that is shown ends, where the transcripts have these lengths
abbrev pub closed_by : Option Tail → List ℕ → Shown → Shown
closed_by None lens s = s
closed_by (Some t) lens s = record s { pieces = s.pieces ++ Wrote t.user t.from (at 0 lens t.user - t.from) ∷ []; tail = None }

unfoldable pub closed : List ℕ → Shown → Shown
closed lens s = closed_by s.tail lens s

-- a session of this user, if any, is shown from the end of its transcript on
unfoldable pub begun : ℕ → List ℕ → Shown → Shown
begun u lens s = if nat_eq u 0 then s else record s { tail = Some (record { user = u; from = at 0 lens u }) }

abbrev pub piece_if : Bool → Piece → List Piece
piece_if false p = []
piece_if true p = p ∷ []

-- the texts of a login
unfoldable pub login_answered : Bool → Bool → Shown → Shown
login_answered asked refused s = record s { pieces = s.pieces ++ (piece_if asked PasswordAsked ++ piece_if refused LoginRefused) }

-- nothing is told, and the same session is shown
abbrev pub goes_on : Console → Console → Bool → Bool
goes_on was now refused = not (asks was now) && (not refused && nat_eq (shows was now) (user_in was))

-- before what users newly wrote
unfoldable pub turned : Console → Console → Bool → List ℕ → Shown → Shown
turned was now refused before s = if goes_on was now refused then s else begun (shows was now) before (login_answered (asks was now) refused (closed before s))

-- behind what users newly wrote
unfoldable pub settled : Console → List ℕ → Shown → Shown
settled now after s = record (if nat_eq (user_in now) 0 then closed after s else s) { console = now }

-- behind an event, at which a login was refused at this console (0 for none); the lengths are the transcripts' before and after
unfoldable pub followed : List Console → ℕ → List ℕ → List ℕ → Shown → Shown
followed consoles refused before after s =
    let now = at Off consoles s.number in
    settled now after (turned s.console now (nat_eq refused s.number) before s)

-- behind any other step
unfoldable pub settled_in : List Console → List ℕ → Shown → Shown
settled_in consoles after s = settled (at Off consoles s.number) after s

-- consoles that are numbered from k on
abbrev pub Numbered : ℕ → List Shown → Type 0
Numbered k [] = Unit {0}
Numbered k (s ∷ rows) = (s.number ≡ k) × Numbered (suc k) rows

-- these rows tell what the consoles have shown
pub record AreShown (consoles : List Console) (ts : Transcripts) (rows : List Shown) : Type 0 where
  pub numbered : Numbered 1 rows
  pub are : All (λ (s : Shown). s.console ≡ at Off consoles s.number) rows
  pub fit : All (λ (s : Shown). Fits ts (user_in s.console) s) rows

-- consoles that are off and have shown nothing, numbered from k on
abbrev pub fresh : ℕ → ℕ → List Shown
fresh k zero = []
fresh k (suc n) = record { number = k; console = Off; pieces = []; tail = None } ∷ fresh (suc k) n
