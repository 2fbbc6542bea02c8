-- claim: what passes over a link from its opening to the closing of all connections, what the core is given of it, and what is shown of the
-- run meanwhile.
use Rattle.std.specs.Prelude.{◌≡◌, ℕ, ◌*◌, ◌<◌, ◌≤◌, Bool, true, false, List, [], ◌∷◌, ◌++◌, length, take, map, replicate, Option, Some, None}
use Rattle.ctss_types.specs.declared.script.Script.{Script}
use Rattle.ctss_types.specs.declared.script.Timed.{Timed}
use Rattle.system_model.specs.Run.{Run}
use Rattle.system_model.specs.Record.{start_of}
use Rattle.console_texts.specs.Watching.{texts_to}
use Rattle.live_run.specs.Parts.{live_script}
use Rattle.console_link.specs.Links.{LinkSeen, Done, DidOpen, DidClose}
use Rattle.console_server.specs.declared.fault.ServeFault.{ServeFault}
use Rattle.live_core.specs.Core.{CoreSeen, CoreCall, Took}
use Rattle.console_server.specs.Readings.{DidAll}
use Rattle.console_server.specs.Turns.{Talk, Desk, TurnAnswers, events_of_turn}
use Rattle.console_server.specs.History.{heard_in, events_in}
use Rattle.console_server.specs.Server.{CutAt, IsTurnUntil, GivenUntil, calls_until, ends_with, IsCutTurn}
use Rattle.console_server.specs.Conversation.{TurnSeen, AreTurns, AreShown, calls_of_turns, events_of_turns, desk_behind, texts_behind}

-- 32 consoles, none of which has a connection
abbrev pub empty_desk : Desk
empty_desk = record { seats = replicate 32 None; failed = replicate 32 false }

-- the close of each connection that has a console
abbrev pub close_of : Option Talk → List Done
close_of None = []
close_of (Some t) = DidClose t.id ∷ []

abbrev pub closes_of_desk : List (Option Talk) → List Done
closes_of_desk [] = []
closes_of_desk (seat ∷ seats) = close_of seat ++ closes_of_desk seats

-- The calls of these turns and of the closing behind them.
abbrev pub calls_of_talk : List (List ℕ) → List TurnSeen → List Done
calls_of_talk texts turns = calls_of_turns texts empty_desk turns ++ closes_of_desk (desk_behind texts empty_desk turns).seats

-- 32 consoles that have shown nothing
abbrev pub silent : List (List ℕ)
silent = replicate 32 []

-- the events that these turns gave
abbrev pub events_given : List TurnSeen → List Timed
events_given turns = events_in (events_of_turns 0 silent empty_desk turns)

-- Before the first of these turns, and behind each, the consoles have shown what they show in this run up to then: a turn has 1000 ticks.
abbrev pub AreTextsOf : Run → List TurnSeen → Type 0
AreTextsOf r turns = (k : ℕ) → k ≤ length turns → texts_behind silent (take k turns) ≡ texts_to (1000 * k) r silent

-- The listener was opened at this port, so many turns were done with 32 consoles that had shown nothing, and all connections were
-- closed. The run was given these events; and where drum and disk tell their records, what people were sent is what the consoles show in
-- the run of the base script with these events.
pub record IsTalk (base : Script) (told : Bool) (port count : ℕ) (events : List Timed) (a b : LinkSeen) : Type 0 where
  pub turns : List TurnSeen
  pub many : length turns ≡ count
  pub lawful : AreTurns silent empty_desk turns
  pub link : DidAll (DidOpen port false ∷ calls_of_talk silent turns) a b
  pub events_are : events ≡ events_given turns
  pub shown : told ≡ true → AreTextsOf (start_of (live_script base events (1000 * count))) turns

-- The listener was opened at this port, some turns were done, and the one behind them failed here, of which these events had been given; then
-- all connections were closed. What people were sent is that of the run, as above.
pub record IsCutTalk (base : Script) (told : Bool) (port count : ℕ) (at : CutAt) (a b : LinkSeen) : Type 0 where
  pub turns : List TurnSeen
  pub few : length turns < count
  pub lawful : AreTurns silent empty_desk turns
  pub answers : TurnAnswers
  pub heard : IsTurnUntil (texts_behind silent turns) (desk_behind silent empty_desk turns) answers at
  pub events : List Timed
  pub given : GivenUntil (1000 * length turns) (texts_behind silent turns) (desk_behind silent empty_desk turns) answers at events
  pub closed : List ℕ
  pub seated : length closed ≤ 32
  pub link :
      DidAll (DidOpen port false ∷ (calls_of_turns silent empty_desk turns
      ++ (calls_until (texts_behind silent turns) (desk_behind silent empty_desk turns) answers at ++ map DidClose closed))) a b
  pub shown : told ≡ true → AreTextsOf (start_of (live_script base (events_given turns) (1000 * length turns))) turns

-- a core after all its turns, of consoles that had shown these texts
pub record TalkIsDone {C : Type 0} (goes : C → List CoreCall → C → Type 0) (see : C → CoreSeen) (texts : List (List ℕ)) (count : ℕ) (events : List Timed) (a b : LinkSeen) (old new : C) : Type 0 where
  pub turns : List TurnSeen
  pub many : length turns ≡ count
  pub lawful : AreTurns texts empty_desk turns
  pub link : DidAll (calls_of_talk texts turns) a b
  pub core : goes old (heard_in 0 (events_of_turns 0 texts empty_desk turns)) new
  pub each : AreShown goes see old (events_of_turns 0 texts empty_desk turns) texts turns
  pub events_are : events ≡ events_in (events_of_turns 0 texts empty_desk turns)

-- A core behind some of its turns and one that failed, of which it was given a beginning of its events. The link was called as far as
-- that, and then these connections were closed.
pub record TalkIsCut {C : Type 0} (goes : C → List CoreCall → C → Type 0) (see : C → CoreSeen) (texts : List (List ℕ)) (count : ℕ) (fault : ServeFault) (a b : LinkSeen) (old new : C) : Type 0 where
  pub turns : List TurnSeen
  pub few : length turns < count
  pub lawful : AreTurns texts empty_desk turns
  pub each : AreShown goes see old (events_of_turns 0 texts empty_desk turns) texts turns
  pub events : List Timed
  pub answers : TurnAnswers
  pub at : CutAt
  pub closed : List ℕ
  pub seated : length closed ≤ 32
  pub cut : IsCutTurn (length turns) (texts_behind texts turns) (desk_behind texts empty_desk turns) answers at fault events
  pub link :
      DidAll (calls_of_turns texts empty_desk turns
      ++ (calls_until (texts_behind texts turns) (desk_behind texts empty_desk turns) answers at ++ map DidClose closed)) a b
  pub part : events ≡ take (length events) (events_of_turn (1000 * length turns) (texts_behind texts turns) (desk_behind texts empty_desk turns) answers)
  pub core : goes old (heard_in 0 (events_of_turns 0 texts empty_desk turns) ++ (map Took events ++ ends_with (length turns) fault at)) new
