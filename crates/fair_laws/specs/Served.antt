-- claim: how many ticks a user has been served, and how often it was cut off, by the entries of a record.
use Rattle.std.specs.Prelude.{ℕ, ◌+◌, Bool, true, false, ◌&&◌, if◌then◌else◌, nat_eq, List, [], ◌∷◌}
use Rattle.time_sharing.specs.System.{Entry, Serve, Taken, SystemState, EventKind, DialTaken, LineTaken, QuitTaken, HangTaken, SpentTaken}
use Rattle.time_sharing.specs.Feeds.{ran_of}

-- the ticks of a user's services that have ended
abbrev pub ticks_in : ℕ → List Entry → ℕ
ticks_in u [] = 0
ticks_in u (Serve tick v level ran cause ∷ es) = (if nat_eq v u then ran else 0) + ticks_in u es
ticks_in u (_ ∷ es) = ticks_in u es

-- those, and the ticks of its open service
abbrev pub ticks_of : {S P F : Type 0} → ℕ → SystemState S P F → ℕ
ticks_of u s = ticks_in u s.entries + ran_of u s.service

-- whether an event cuts a user off: its quit, its hanging up, or a line that is one too many for its session
abbrev pub cuts_off : EventKind → Bool
cuts_off DialTaken = false
cuts_off LineTaken = false
cuts_off QuitTaken = true
cuts_off HangTaken = true
cuts_off SpentTaken = true

-- how often a user was cut off
abbrev pub cuts_in : ℕ → List Entry → ℕ
cuts_in u [] = 0
cuts_in u (Taken tick console kind v own ∷ es) = (if nat_eq v u && cuts_off kind then 1 else 0) + cuts_in u es
cuts_in u (_ ∷ es) = cuts_in u es
