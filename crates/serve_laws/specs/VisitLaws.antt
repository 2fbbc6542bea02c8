-- claim: what the core hears at a console over many turns is what the console's connections sent, one after another; and so far, where
-- a turn failed.
use Rattle.std.specs.Prelude.{◌≡◌, ℕ, zero, suc, ◌-◌, ◌*◌, ◌≤◌, true, false, List, [], ◌∷◌, ◌++◌, length, take, map, replicate, get_or, Some, None}
use Rattle.std.specs.List.{All, Contains, flat_map}
use Rattle.ctss_types.specs.declared.script.Event.{Event}
use Rattle.ctss_types.specs.declared.script.Timed.{Timed}
use Rattle.console_link.specs.Links.{LinkSeen, Done}
use Rattle.console_server.specs.Readings.{DidAll}
use Rattle.console_server.specs.Turns.{Desk, TurnAnswers, end_of, calls_of_turn, desk_after}
use Rattle.console_server.specs.History.{events_in}
use Rattle.console_server.specs.Server.{CutAt, Waiting, Hanging, Accepting, Dialling, Reading, Advancing, IsTurnUntil, calls_to_read, calls_until, GivenUntil}
use Rattle.console_server.specs.Conversation.{TurnSeen, AreTurns, calls_of_turns, events_of_turns, desk_behind, texts_behind}
use Rattle.console_server.specs.Visits.{Visit, OneAtATime, events_of_visit, events_at, IsSentFrom, HaveEnded, EndsAreHeard, AreVisits}

-- the numbers of the connections that were accepted in a turn
abbrev pub accepted_in : ℕ → List TurnSeen → List ℕ
accepted_in turn [] = []
accepted_in zero (t ∷ turns) = t.answers.accepts
accepted_in (suc turn) (t ∷ turns) = accepted_in turn turns

-- each was accepted in its turn
abbrev pub HaveCome : List TurnSeen → List Visit → Type 0
HaveCome turns visits = All (λ (v : Visit). Contains (accepted_in v.turn turns) v.id) visits

-- the calls of each of these turns
abbrev pub calls_each : List (List ℕ) → Desk → List TurnSeen → List (List Done)
calls_each texts desk [] = []
calls_each texts desk (t ∷ turns) = calls_of_turn texts desk t.answers ∷ calls_each t.shown (desk_after texts desk t.answers) turns

-- the same without the last turn's writes, since the core hears of a failed write in the next turn
abbrev pub calls_heard_of : List (List ℕ) → Desk → List TurnSeen → List (List Done)
calls_heard_of texts desk [] = []
calls_heard_of texts desk (t ∷ []) = calls_to_read texts desk t.answers ∷ []
calls_heard_of texts desk (t ∷ u ∷ turns) = calls_of_turn texts desk t.answers ∷ calls_heard_of t.shown (desk_after texts desk t.answers) (u ∷ turns)

-- From a desk without connections on, the events at a console are those of its visits. A Hang is of a connection that ended, and each that
-- ended has its Hang, but for one that a write of the last turn lost.
abbrev pub EventsAreVisits : Type 0
EventsAreVisits =
    (console : ℕ) (texts : List (List ℕ)) (desk : Desk) (turns : List TurnSeen) (a b : LinkSeen) → 1 ≤ console
    → desk.seats ≡ replicate 32 None → desk.failed ≡ replicate 32 false → AreTurns texts desk turns
    → DidAll (calls_of_turns texts desk turns) a b
    → (visits : List Visit)
    × AreVisits console texts turns (events_in (events_of_turns 0 texts desk turns)) b visits
    × HaveCome turns visits
    × HaveEnded (calls_of_turns texts desk turns) visits
    × EndsAreHeard (calls_heard_of texts desk turns) visits

-- the numbers of the connections that were accepted in each turn, and in one that failed
abbrev pub accepted_each : List TurnSeen → List (List ℕ)
accepted_each turns = map (λ (t : TurnSeen). t.answers.accepts) turns

abbrev pub accepted_until : TurnAnswers → CutAt → List ℕ
accepted_until turn Waiting = []
accepted_until turn Hanging = []
accepted_until turn Accepting = turn.accepts
accepted_until turn Dialling = turn.accepts
accepted_until turn Reading = turn.accepts
accepted_until turn Advancing = turn.accepts

-- each was accepted in its turn, or in the one behind them that failed
abbrev pub HaveComeUntil : List TurnSeen → TurnAnswers → CutAt → List Visit → Type 0
HaveComeUntil turns answers at visits =
    All (λ (v : Visit). Contains (get_or (accepted_each turns ++ accepted_until answers at ∷ []) v.turn []) v.id) visits

-- The console's connections over these turns and one that failed: what the core heard so far is a beginning of what their bytes say,
-- and else as in `AreVisits`.
pub record AreVisitsSoFar (console : ℕ) (texts : List (List ℕ)) (turns : List TurnSeen) (events : List Timed) (more : List Event) (link : LinkSeen) (visits : List Visit) : Type 0 where
  pub heard : events_at console events ++ more ≡ flat_map events_of_visit visits
  pub order : OneAtATime visits
  pub places : All (λ (v : Visit). v.place ≡ end_of (texts_behind texts (take v.turn turns)) (Some console)) visits
  pub taken : link.tells ≡ true → All (λ (v : Visit). (link.passed v.id).taken ≡ v.bytes) visits
  pub sent : link.tells ≡ true → All (λ (v : Visit). IsSentFrom v.place (get_or (texts_behind texts turns) (console - 1) []) (link.passed v.id).sent) visits

-- From a desk without connections on, after turns and one that failed, the events at a console are a beginning of those of its visits:
-- all of them, where the core was to go on. A Hang is of a connection that ended, and each that ended has its Hang among them, if the turn
-- read only as far as it may.
abbrev pub CutEventsAreVisits : Type 0
CutEventsAreVisits =
    (console : ℕ) (texts : List (List ℕ)) (desk : Desk) (turns : List TurnSeen) (answers : TurnAnswers) (at : CutAt)
    (events : List Timed) (a c : LinkSeen) → 1 ≤ console
    → desk.seats ≡ replicate 32 None → desk.failed ≡ replicate 32 false → AreTurns texts desk turns
    → DidAll (calls_of_turns texts desk turns
    ++ calls_until (texts_behind texts turns) (desk_behind texts desk turns) answers at) a c
    → GivenUntil (1000 * length turns) (texts_behind texts turns) (desk_behind texts desk turns) answers at events
    → (visits : List Visit) × (more : List Event)
    × AreVisitsSoFar console texts turns (events_in (events_of_turns 0 texts desk turns) ++ events) more c visits
    × HaveComeUntil turns answers at visits
    × (IsTurnUntil (texts_behind texts turns) (desk_behind texts desk turns) answers at → HaveEnded (calls_of_turns texts desk turns
    ++ calls_until (texts_behind texts turns) (desk_behind texts desk turns) answers at) visits)
    × (IsTurnUntil (texts_behind texts turns) (desk_behind texts desk turns) answers at → EndsAreHeard (calls_each texts desk turns
    ++ calls_until (texts_behind texts turns) (desk_behind texts desk turns) answers at ∷ []) visits)
    × (at ≡ Advancing → more ≡ [])
