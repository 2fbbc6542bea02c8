-- claim: what the consoles show: seen from the steps of the machine of all users, which it doesn't change.
use Rattle.std.specs.Prelude.{ℕ, suc, List, [], ◌∷◌, ◌++◌, nat_eq, if◌then◌else◌, drop, length, codes, replicate}
use Rattle.std.specs.List.{flat_map}
use Rattle.time_sharing.specs.Machine.{Machine, Line, Item, In, Out, Quitted, Hung}
use Rattle.time_sharing.specs.System.{SystemState, World, Console, Off, On, Password, Session, Entry, Refused, at, state_of, next}
use Rattle.time_sharing.specs.Repeat.{repeat}
use Rattle.time_sharing.specs.Record.{clock_is_below, measure}

-- the lines that items write
abbrev pub written : List Item → List Line
written [] = []
written (Out l ∷ items) = l ∷ written items
written (In l ∷ items) = written items
written (Quitted ∷ items) = written items
written (Hung ∷ items) = written items

-- the user in whose session a console is, or 0
abbrev pub user_in : Console → ℕ
user_in Off = 0
user_in On = 0
user_in (Password name) = 0
user_in (Session u) = u

-- the user that a console shows in one step: the one after it, else the one before it
abbrev pub shows : Console → Console → ℕ
shows was now = if nat_eq (user_in now) 0 then user_in was else user_in now

-- a console that begins to wait for a password says so
abbrev pub asks_password : Console → Console → List Line
asks_password (Password was) now = []
asks_password Off (Password name) = codes "PASSWORD" ∷ []
asks_password Off now = []
asks_password On (Password name) = codes "PASSWORD" ∷ []
asks_password On now = []
asks_password (Session u) (Password name) = codes "PASSWORD" ∷ []
asks_password (Session u) now = []

-- each refused login at a console is told there
abbrev pub refusals : ℕ → List Entry → List Line
refusals c [] = []
refusals c (Refused tick console cause ∷ es) = if nat_eq console c then codes "LOGIN REFUSED" ∷ refusals c es else refusals c es
refusals c (_ ∷ es) = refusals c es

-- lines as a console gets them
abbrev pub sent : List Line → List ℕ
sent lines = flat_map (λ l. l ++ 13 ∷ 10 ∷ []) lines

-- the machine with a text for each console, the first that of console 1
pub record Watched (S P F : Type 0) : Type 0 where
  pub system : SystemState S P F
  pub texts : List (List ℕ)

module _ {S P F : Type 0} (m : Machine S) (w : World S P F) where
  -- what a user newly wrote between two states
  abbrev pub newly : ℕ → SystemState S P F → SystemState S P F → List Line
  newly u s t = written (drop (length (m.transcript (state_of m w s u))) (m.transcript (state_of m w t u)))

  -- what a console newly shows: the texts of its login, and what its session's user writes
  abbrev pub said : ℕ → SystemState S P F → SystemState S P F → List Line
  said c s t =
      let was = at Off s.consoles c in
      let now = at Off t.consoles c in
      asks_password was now ++ (refusals c (drop (length s.entries) t.entries) ++ newly (shows was now) s t)

  -- each console's text with what it newly shows, the first that of console c
  abbrev pub texts_after : ℕ → SystemState S P F → SystemState S P F → List (List ℕ) → List (List ℕ)
  texts_after c s t [] = []
  texts_after c s t (text ∷ texts) = (text ++ sent (said c s t)) ∷ texts_after (suc c) s t texts

  abbrev pub next_watched : ℕ → Watched S P F → Watched S P F
  next_watched limit x = let t = next m w limit x.system in record { system = t; texts = texts_after 1 x.system t x.texts }

  -- Next, repeated while the clock is below the limit
  abbrev pub watched_to : ℕ → Watched S P F → Watched S P F
  watched_to limit x = repeat (λ (y : Watched S P F). clock_is_below m w limit y.system) (next_watched limit) (measure m w limit x.system) x

  -- no console has shown anything
  abbrev pub unwatched : SystemState S P F → Watched S P F
  unwatched s = record { system = s; texts = replicate (length s.consoles) [] }
