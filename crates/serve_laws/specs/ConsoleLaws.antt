-- claim: how many calls a turn makes, that a link which lists its calls lists them all, why reading and writing stop,
-- whose counts a call moves, and what passes over a connection.
use Rattle.std.specs.Prelude.{◌≡◌, ℕ, ◌-◌, ◌*◌, ◌≤◌, Bool, true, false, List, ◌++◌, length, map, if◌then◌else◌, Some}
use Rattle.std.specs.List.{All}
use Rattle.console_link.specs.Links.{LinkSeen, CallList, Counts, Done, call_of, names, accepts, is_at}
use Rattle.console_server.specs.Readings.{Gave, bytes_of, did_read, DidAll, IsReading}
use Rattle.console_server.specs.Turns.{Desk, TurnAnswers, calls_of_turn, IsTurn, Wrote, sent_of, IsPutting}
use Rattle.console_server.specs.Server.{CutAt, IsTurnUntil, calls_until}
use Rattle.console_server.specs.Conversation.{TurnSeen, AreTurns, calls_of_turns}
use Rattle.console_server.specs.Writings.{did_write}
use Rattle.serve_laws.specs.Stops.{WhyStopped, WhyWritingStopped}

-- a turn over 32 consoles makes at most so many calls
abbrev pub FewCalls : Type 0
FewCalls =
    (texts shown : List (List ℕ)) (desk : Desk) (turn : TurnAnswers) → length desk.seats ≡ 32
    → IsTurn texts shown desk turn → length (calls_of_turn texts desk turn) ≤ 164000

-- and so does one that failed
abbrev pub FewCallsUntil : Type 0
FewCallsUntil =
    (texts : List (List ℕ)) (desk : Desk) (turn : TurnAnswers) (at : CutAt) → length desk.seats ≡ 32
    → IsTurnUntil texts desk turn at → length (calls_until texts desk turn at) ≤ 164000

-- turns one after another make at most so many each
abbrev pub FewCallsInTurns : Type 0
FewCallsInTurns =
    (texts : List (List ℕ)) (desk : Desk) (turns : List TurnSeen) → length desk.seats ≡ 32
    → AreTurns texts desk turns → length (calls_of_turns texts desk turns) ≤ 164000 * length turns

-- a link that lists its calls, and has the room, lists these in order
abbrev pub CallsAreTold : Type 0
CallsAreTold =
    (ds : List Done) (a b : LinkSeen) → DidAll ds a b → (list : CallList) → a.calls ≡ Some list → length ds ≤ list.room
    → b.calls ≡ Some (record { made = list.made ++ map call_of ds; room = list.room - length ds })

abbrev pub ReadingStops : Type 0
ReadingStops =
    (id : ℕ) (over : Bool) (reads : List Gave) (most : ℕ) (a b : LinkSeen) → IsReading over reads most
    → DidAll (map (did_read id) reads) a b → WhyStopped id reads most a b

abbrev pub WritingStops : Type 0
WritingStops =
    (id : ℕ) (lost : Bool) (puts : List Wrote) (may : ℕ) (rest : List ℕ) (a b : LinkSeen) → IsPutting lost puts may rest
    → DidAll (map (did_write id) puts) a b → WhyWritingStopped id puts may rest a b

-- a call that names the number, or that gives it to a new connection
abbrev pub is_on : ℕ → Done → Bool
is_on k d = if is_at (names d) k then true else is_at (accepts d) k

-- a number's counts are as before, and where bytes are told what passed over it
pub record IsLeft (k : ℕ) (a b : LinkSeen) : Type 0 where
  pub counts : b.counts k ≡ a.counts k
  pub passed : a.tells ≡ true → b.passed k ≡ a.passed k

-- calls on other numbers leave it
abbrev pub OthersLeaveIt : Type 0
OthersLeaveIt =
    (k : ℕ) (ds : List Done) (a b : LinkSeen) → DidAll ds a b → All (λ (d : Done). is_on k d ≡ false) ds
    → IsLeft k a b

pub record AtMost (old new : Counts) : Type 0 where
  pub faults : old.faults ≤ new.faults
  pub read_waits : old.read_waits ≤ new.read_waits
  pub write_waits : old.write_waits ≤ new.write_waits

-- no calls make a count fall
abbrev pub CountsNeverFall : Type 0
CountsNeverFall = (k : ℕ) (ds : List Done) (a b : LinkSeen) → DidAll ds a b → AtMost (a.counts k) (b.counts k)

-- where bytes are told, what reads gave was taken from the connection, and what writes took was sent to it
abbrev pub ReadsAreTaken : Type 0
ReadsAreTaken =
    (id : ℕ) (reads : List Gave) (a b : LinkSeen) → a.tells ≡ true → DidAll (map (did_read id) reads) a b
    → (b.passed id).taken ≡ (a.passed id).taken ++ bytes_of reads

abbrev pub WritesAreSent : Type 0
WritesAreSent =
    (id : ℕ) (puts : List Wrote) (a b : LinkSeen) → a.tells ≡ true → DidAll (map (did_write id) puts) a b
    → (b.passed id).sent ≡ (a.passed id).sent ++ sent_of puts
