-- claim: what a console heard of its connections over many turns, and what they were sent.
use Rattle.std.specs.Prelude.{◌≡◌, ℕ, ◌-◌, ◌<◌, ◌^◌, min, Bool, true, false, ◌&&◌, nat_eq, List, [], ◌∷◌, ◌++◌, length, take, drop, map, filter, get_or, Some}
use Rattle.std.specs.List.{All, flat_map, list_any}
use Rattle.ctss_types.specs.declared.script.Event.{Event}
use Rattle.ctss_types.specs.declared.script.Event.TheVariants.{Dial, Hang}
use Rattle.ctss_types.specs.declared.script.Timed.{Timed}
use Rattle.console_wire.specs.Items.{items_from}
use Rattle.console_link.specs.declared.link.LinkGot.{LinkGot}
use Rattle.console_link.specs.declared.link.LinkGot.TheVariants as got
use Rattle.console_link.specs.declared.link.LinkTook.{LinkTook}
use Rattle.console_link.specs.declared.link.LinkTook.TheVariants as took
use Rattle.console_link.specs.Links.{LinkSeen, Done, DidOpen, DidAccept, DidRead, DidWrite, DidClose, DidWait}
use Rattle.console_server.specs.Turns.{if_over, end_of}
use Rattle.console_server.specs.Conversation.{TurnSeen, texts_behind}

-- A connection that got the console: its number, the turn in which it came, the place of the console's text from which on it was
-- sent, all bytes that were taken from it, and whether the core heard of its end.
pub record Visit : Type 0 where
  pub id : ℕ
  pub turn : ℕ
  pub place : ℕ
  pub bytes : List ℕ
  pub hung : Bool

-- what the core heard of it
abbrev pub events_of_visit : Visit → List Event
events_of_visit v = Dial ∷ (items_from [] v.bytes ++ if_over v.hung (Hang ∷ []))

-- the events at a console
abbrev pub events_at : ℕ → List Timed → List Event
events_at console events = map (λ (e : Timed). e.event) (filter (λ (e : Timed). nat_eq e.console console) events)

-- the core heard of the end of each but the last
abbrev pub OneAtATime : List Visit → Type 0
OneAtATime [] = Unit {0}
OneAtATime (v ∷ []) = Unit {0}
OneAtATime (v ∷ w ∷ visits) = (v.hung ≡ true) × OneAtATime (w ∷ visits)

-- What was sent of a text from a place on. If the text has less than 2^64 bytes, it is a beginning of the text from there on. Of a longer
-- text this holds up to place 2^64 - 1, where a count of bytes stays.
pub record IsSentFrom (place : ℕ) (text sent : List ℕ) : Type 0 where
  pub whole : length text < 2 ^ 64 → sent ≡ take (length sent) (drop place text)
  pub counted : take (2 ^ 64 - 1 - place) sent ≡ take (min (length sent) (2 ^ 64 - 1 - place)) (drop place text)

-- a call on this connection that was answered by its end or by a fault
abbrev pub ends_reading : LinkGot → Bool
ends_reading (got.Bytes n) = false
ends_reading got.End = true
ends_reading got.NotYet = false
ends_reading got.Failed = true

abbrev pub ends_writing : LinkTook → Bool
ends_writing (took.Bytes n) = false
ends_writing took.NotYet = false
ends_writing took.Failed = true

abbrev pub ends_it : ℕ → Done → Bool
ends_it id (DidOpen port failed) = false
ends_it id (DidAccept answer) = false
ends_it id (DidRead k answer bytes) = nat_eq k id && ends_reading answer
ends_it id (DidWrite k answer bytes) = nat_eq k id && ends_writing answer
ends_it id (DidClose k) = false
ends_it id (DidWait millis failed) = false

-- Of each connection of whose end the core heard, one of these calls was answered by that.
abbrev pub HaveEnded : List Done → List Visit → Type 0
HaveEnded calls visits = All (λ (v : Visit). v.hung ≡ true → list_any (ends_it v.id) calls ≡ true) visits

-- Given the calls of each turn: the core heard of the end of exactly those connections of which a call was answered by their end or by a
-- fault, in the turn in which they came or a later one.
abbrev pub EndsAreHeard : List (List Done) → List Visit → Type 0
EndsAreHeard calls visits = All (λ (v : Visit). v.hung ≡ list_any (list_any (ends_it v.id)) (drop v.turn calls)) visits

-- The console's connections over these turns, in order: the core heard of each what its bytes say, the place is where the text
-- ended at the beginning of the turn in which it came. If the link's bytes are observable, these are all that were taken from it, and what was
-- sent to it is the text from its place on.
pub record AreVisits (console : ℕ) (texts : List (List ℕ)) (turns : List TurnSeen) (events : List Timed) (link : LinkSeen) (visits : List Visit) : Type 0 where
  pub heard : events_at console events ≡ flat_map events_of_visit visits
  pub order : OneAtATime visits
  pub places : All (λ (v : Visit). v.place ≡ end_of (texts_behind texts (take v.turn turns)) (Some console)) visits
  pub taken : link.tells ≡ true → All (λ (v : Visit). (link.passed v.id).taken ≡ v.bytes) visits
  pub sent : link.tells ≡ true → All (λ (v : Visit). IsSentFrom v.place (get_or (texts_behind texts turns) (console - 1) []) (link.passed v.id).sent) visits
