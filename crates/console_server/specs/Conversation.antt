-- claim: turns one after another: their calls, their events, and the desk behind them, by what the link answered.
use Rattle.std.specs.Prelude.{◌≡◌, ℕ, suc, ◌*◌, ◌<◌, ◌≤◌, List, [], ◌∷◌, ◌++◌, length, take, map}
use Rattle.std.specs.List.{AllZip}
use Rattle.ctss_types.specs.declared.script.Timed.{Timed}
use Rattle.console_link.specs.Links.{LinkSeen, Done}
use Rattle.live_core.specs.Core.{CoreSeen, CoreCall, Took, Grows}
use Rattle.console_server.specs.declared.fault.ServeFault.{ServeFault}
use Rattle.console_server.specs.Readings.{DidAll}
use Rattle.console_server.specs.Turns.{Desk, TurnAnswers, IsTurn, calls_of_turn, events_of_turn, desk_after}
use Rattle.console_server.specs.Seats.{StandAll}
use Rattle.console_server.specs.History.{heard_in, events_in}
use Rattle.console_server.specs.Server.{ServerState, CutAt, calls_until, ends_with, IsCutTurn}

-- a turn: what the link answered, and what the consoles had shown behind its advance
pub record TurnSeen : Type 0 where
  pub answers : TurnAnswers
  pub shown : List (List ℕ)

-- each turn stops only where it may, and texts only grow; these are the texts before the first turn
abbrev pub AreTurns : List (List ℕ) → Desk → List TurnSeen → Type 0
AreTurns texts desk [] = Unit {0}
AreTurns texts desk (t ∷ turns) =
    IsTurn texts t.shown desk t.answers × (AllZip Grows texts t.shown × AreTurns t.shown (desk_after texts desk t.answers) turns)

abbrev pub calls_of_turns : List (List ℕ) → Desk → List TurnSeen → List Done
calls_of_turns texts desk [] = []
calls_of_turns texts desk (t ∷ turns) = calls_of_turn texts desk t.answers ++ calls_of_turns t.shown (desk_after texts desk t.answers) turns

-- the events of each turn, the first of which has this number
abbrev pub events_of_turns : ℕ → List (List ℕ) → Desk → List TurnSeen → List (List Timed)
events_of_turns number texts desk [] = []
events_of_turns number texts desk (t ∷ turns) =
    events_of_turn (1000 * number) texts desk t.answers ∷ events_of_turns (suc number) t.shown (desk_after texts desk t.answers) turns

abbrev pub desk_behind : List (List ℕ) → Desk → List TurnSeen → Desk
desk_behind texts desk [] = desk
desk_behind texts desk (t ∷ turns) = desk_behind t.shown (desk_after texts desk t.answers) turns

abbrev pub texts_behind : List (List ℕ) → List TurnSeen → List (List ℕ)
texts_behind texts [] = texts
texts_behind texts (t ∷ turns) = texts_behind t.shown turns

-- a core that such calls lead to has shown these texts
abbrev pub HasShown : {C : Type 0} → (C → List CoreCall → C → Type 0) → (C → CoreSeen) → C → List CoreCall → List (List ℕ) → Type 0
HasShown {C = C} goes see old calls texts = (mid : C) × goes old calls mid × ((see mid).texts ≡ texts)

-- The texts before the first turn and behind each are those of a core that was given the events up to there.
abbrev pub AreShown : {C : Type 0} → (C → List CoreCall → C → Type 0) → (C → CoreSeen) → C → List (List Timed) → List (List ℕ) → List TurnSeen → Type 0
AreShown goes see old given texts turns =
    (k : ℕ) → k ≤ length turns → HasShown goes see old (heard_in 0 (take k given)) (texts_behind texts (take k turns))

-- From the one to the other so many turns were done, from number 0 on.
pub record TurnsAreDone {C L : Type 0} (goes : C → List CoreCall → C → Type 0) (see : C → CoreSeen) (look : L → LinkSeen) (count : ℕ) (desk : Desk) (old new : ServerState C L) : Type 0 where
  pub turns : List TurnSeen
  pub many : length turns ≡ count
  pub lawful : AreTurns (see old.core).texts desk turns
  pub link : DidAll (calls_of_turns (see old.core).texts desk turns) (look old.link.now) (look new.link.now)
  pub core : goes old.core (heard_in 0 (events_of_turns 0 (see old.core).texts desk turns)) new.core
  pub noted : new.events ≡ old.events ++ events_in (events_of_turns 0 (see old.core).texts desk turns)
  pub shown : (see new.core).texts ≡ texts_behind (see old.core).texts turns
  pub each : AreShown goes see old.core (events_of_turns 0 (see old.core).texts desk turns) (see old.core).texts turns
  pub seats : StandAll new.seats (desk_behind (see old.core).texts desk turns).seats
  pub failed : new.failed ≡ (desk_behind (see old.core).texts desk turns).failed

-- Some turns were done, and the one behind them failed: the link was called up to there, the core was given a beginning of that
-- turn's events, which is noted, and maybe met the fault on its way to that turn's limit.
pub record TurnsAreCut {C L : Type 0} (goes : C → List CoreCall → C → Type 0) (see : C → CoreSeen) (look : L → LinkSeen) (count : ℕ) (desk : Desk) (fault : ServeFault) (old new : ServerState C L) : Type 0 where
  pub turns : List TurnSeen
  pub few : length turns < count
  pub lawful : AreTurns (see old.core).texts desk turns
  pub each : AreShown goes see old.core (events_of_turns 0 (see old.core).texts desk turns) (see old.core).texts turns
  pub answers : TurnAnswers
  pub at : CutAt
  pub events : List Timed
  pub cut :
      IsCutTurn (length turns) (texts_behind (see old.core).texts turns) (desk_behind (see old.core).texts desk turns) answers at fault events
  pub link :
      DidAll (calls_of_turns (see old.core).texts desk turns
      ++ calls_until (texts_behind (see old.core).texts turns) (desk_behind (see old.core).texts desk turns) answers at)
      (look old.link.now) (look new.link.now)
  pub part : events ≡ take (length events) (events_of_turn (1000 * length turns) (texts_behind (see old.core).texts turns) (desk_behind (see old.core).texts desk turns) answers)
  pub core : goes old.core (heard_in 0 (events_of_turns 0 (see old.core).texts desk turns) ++ (map Took events ++ ends_with (length turns) fault at)) new.core
  pub noted : new.events ≡ (old.events ++ events_in (events_of_turns 0 (see old.core).texts desk turns)) ++ events
