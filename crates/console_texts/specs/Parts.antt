-- proof: what a console has shown: the texts of logins, and parts of users' transcripts.
use Rattle.std.specs.Prelude.{◌≡◌, ℕ, ◌+◌, ◌<◌, ◌≤◌, Bool, true, false, Option, Some, None, List, [], ◌∷◌, ◌++◌, take, drop, length, map, codes, All}
use Rattle.std.specs.List.{flat_map}
use Rattle.time_sharing.specs.Machine.{Line, Item}
use Rattle.time_sharing.specs.System.{Console, at}
use Rattle.time_sharing.specs.Texts.{written, sent, shows, asks_password}
use Rattle.console_texts.specs.declared.row.Piece.{Piece}
use Rattle.console_texts.specs.declared.row.Piece.TheVariants.{PasswordAsked, LoginRefused, Wrote}
use Rattle.console_texts.specs.declared.row.Tail.{Tail}

-- the transcripts of all users, the first that of user 1
abbrev pub Transcripts : Type 0
Transcripts = List (List Item)

-- a console, and what it has shown: parts that stand for good, and what its session's user writes from some item on
pub record Shown : Type 0 where
  pub number : ℕ
  pub console : Console
  pub pieces : List Piece
  pub tail : Option Tail

-- with as many parts more as there is memory for
pub record Kept : Type 0 where
  pub shown : Shown
  pub room : ℕ

abbrev pub piece_text : Transcripts → Piece → List ℕ
piece_text ts PasswordAsked = sent (codes "PASSWORD" ∷ [])
piece_text ts LoginRefused = sent (codes "LOGIN REFUSED" ∷ [])
piece_text ts (Wrote user from count) = sent (written (take count (drop from (at [] ts user))))

abbrev pub tail_text : Transcripts → Option Tail → List ℕ
tail_text ts None = []
tail_text ts (Some t) = sent (written (drop t.from (at [] ts t.user)))

-- all that a console has shown, with these transcripts
abbrev pub text_of : Transcripts → Shown → List ℕ
text_of ts s = flat_map (piece_text ts) s.pieces ++ tail_text ts s.tail

-- a part lies in its transcript
abbrev pub IsPiece : Transcripts → Piece → Type 0
IsPiece ts PasswordAsked = Unit {0}
IsPiece ts LoginRefused = Unit {0}
IsPiece ts (Wrote user from count) = from + count ≤ length (at [] ts user)

-- it shows the session of this user, or of nobody
abbrev pub IsTail : Transcripts → ℕ → Option Tail → Type 0
IsTail ts u None = u ≡ 0
IsTail ts u (Some t) = (t.user ≡ u) × (0 < u) × (t.from ≤ length (at [] ts t.user))

pub record Fits (ts : Transcripts) (u : ℕ) (s : Shown) : Type 0 where
  pub pieces : All (IsPiece ts) s.pieces
  pub tail : IsTail ts u s.tail

-- transcripts with more at their ends
abbrev pub Extends : Transcripts → Transcripts → Type 0
Extends ts us = (u : ℕ) → (more : List Item) × (at [] us u ≡ at [] ts u ++ more)

-- the lengths of transcripts
abbrev pub AreLengths : List ℕ → Transcripts → Type 0
AreLengths lens ts = (u : ℕ) → at 0 lens u ≡ length (at [] ts u)

-- what a user newly wrote
abbrev pub wrote : ℕ → Transcripts → Transcripts → List Line
wrote u ts us = written (drop (length (at [] ts u)) (at [] us u))

abbrev pub refusal_lines : Bool → List Line
refusal_lines false = []
refusal_lines true = codes "LOGIN REFUSED" ∷ []

abbrev pub password_lines : Bool → List Line
password_lines false = []
password_lines true = codes "PASSWORD" ∷ []

-- what a console newly shows that was one thing and is another now, where a login was refused there or not
abbrev pub said_by : Bool → Console → Console → Transcripts → Transcripts → List Line
said_by refused was now ts us = asks_password was now ++ (refusal_lines refused ++ wrote (shows was now) ts us)

-- the text of the console of this number
abbrev pub text_at : Transcripts → List Kept → ℕ → List ℕ
text_at ts rows c = at [] (map (text_of ts) (map (λ (k : Kept). k.shown) rows)) c
