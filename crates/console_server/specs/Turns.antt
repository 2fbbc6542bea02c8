-- claim: one turn of a server: which calls it makes of its link, which events it gives, and what it leaves, by what the link answered.
use Rattle.std.specs.Prelude.{◌≡◌, ℕ, suc, ◌+◌, ◌-◌, ◌<◌, ◌≤◌, min, Bool, true, false, List, [], ◌∷◌, ◌++◌, length, take, drop, map, Option, Some, None, nat_lt, if◌then◌else◌, ◌^◌, get_or}
use Rattle.std.specs.List.{flat_map}
use Rattle.ctss_types.specs.declared.script.Event.TheVariants.{Dial, Hang}
use Rattle.ctss_types.specs.declared.script.Timed.{Timed}
use Rattle.console_wire.specs.Items.{items_from, piece_from}
use Rattle.console_link.specs.declared.link.Accepted.TheVariants as accepted
use Rattle.console_link.specs.declared.link.LinkTook.{LinkTook}
use Rattle.console_link.specs.declared.link.LinkTook.TheVariants as took
use Rattle.console_link.specs.Links.{Done, DidWait, DidAccept, DidWrite, DidClose}
use Rattle.console_server.specs.Readings.{Gave, bytes_of, did_read, IsReading, ReadsOn, timed, all_timed}

-- a connection that has a console: its number, what it sent since its last whole line or quit, and up to which place of the
-- console's text it was sent
pub record Talk : Type 0 where
  pub id : ℕ
  pub piece : List ℕ
  pub place : ℕ

-- the consoles' connections, the first that of console 1, and whether each failed in the last turn's writes
pub record Desk : Type 0 where
  pub seats : List (Option Talk)
  pub failed : List Bool

abbrev pub if_over : {X : Type 0} → Bool → List X → List X
if_over true xs = xs
if_over false xs = []

-- reading one console

abbrev pub calls_heard : Option Talk → List Gave → Bool → List Done
calls_heard None reads over = []
calls_heard (Some t) reads over = map (did_read t.id) reads ++ if_over over (DidClose t.id ∷ [])

abbrev pub events_heard : ℕ → ℕ → Option Talk → List Gave → Bool → List Timed
events_heard tick console None reads over = []
events_heard tick console (Some t) reads over = all_timed tick console (items_from t.piece (bytes_of reads)) ++ if_over over (timed tick console Hang ∷ [])

abbrev pub talk_after : Talk → List Gave → Bool → Option Talk
talk_after t reads true = None
talk_after t reads false = Some (record t { piece = piece_from t.piece (bytes_of reads) })

abbrev pub seat_after : Option Talk → List Gave → Bool → Option Talk
seat_after None reads over = None
seat_after (Some t) reads over = talk_after t reads over

abbrev pub IsHeard : Option Talk → List Gave → Bool → Type 0
IsHeard None reads over = (reads ≡ []) × (over ≡ false)
IsHeard (Some t) reads over = IsReading over reads 1024

-- what was read of one console, and whether its connection is over
pub record HeardOf : Type 0 where
  pub reads : List Gave
  pub over : Bool

-- all consoles, from this one on
abbrev pub all_calls_heard : List (Option Talk) → List HeardOf → List Done
all_calls_heard [] hs = []
all_calls_heard (s ∷ seats) [] = []
all_calls_heard (s ∷ seats) (h ∷ hs) = calls_heard s h.reads h.over ++ all_calls_heard seats hs

abbrev pub all_events_heard : ℕ → ℕ → List (Option Talk) → List HeardOf → List Timed
all_events_heard tick console [] hs = []
all_events_heard tick console (s ∷ seats) [] = []
all_events_heard tick console (s ∷ seats) (h ∷ hs) = events_heard tick console s h.reads h.over ++ all_events_heard tick (suc console) seats hs

abbrev pub all_seats_after : List (Option Talk) → List HeardOf → List (Option Talk)
all_seats_after [] hs = []
all_seats_after (s ∷ seats) [] = s ∷ seats
all_seats_after (s ∷ seats) (h ∷ hs) = seat_after s h.reads h.over ∷ all_seats_after seats hs

abbrev pub AreHeard : List (Option Talk) → List HeardOf → Type 0
AreHeard [] [] = Unit {0}
AreHeard [] (h ∷ hs) = true ≡ false
AreHeard (s ∷ seats) [] = true ≡ false
AreHeard (s ∷ seats) (h ∷ hs) = IsHeard s h.reads h.over × AreHeard seats hs

-- A console at which memory lacked: its reads gave bytes; or they went on to the end of its connection, which was closed.
abbrev pub IsHeardPart : Option Talk → List Gave → Bool → Type 0
IsHeardPart None reads over = true ≡ false
IsHeardPart (Some t) reads true = IsReading true reads 1024
IsHeardPart (Some t) reads false = (left : ℕ) × ReadsOn reads 1024 left

-- the first consoles, of which the last was read in part
abbrev pub AreHeardUntil : List (Option Talk) → List HeardOf → Type 0
AreHeardUntil [] hs = true ≡ false
AreHeardUntil (s ∷ seats) [] = true ≡ false
AreHeardUntil (s ∷ seats) (h ∷ []) = IsHeardPart s h.reads h.over
AreHeardUntil (s ∷ seats) (h ∷ k ∷ hs) = IsHeard s h.reads h.over × AreHeardUntil seats (k ∷ hs)

-- accepting

-- the lowest console without a connection, from this one on
abbrev pub free_from : {X : Type 0} → ℕ → List (Option X) → Option ℕ
free_from console [] = None
free_from console (None ∷ seats) = Some console
free_from console (Some t ∷ seats) = free_from (suc console) seats

abbrev pub put_first : Talk → List (Option Talk) → List (Option Talk)
put_first t [] = []
put_first t (None ∷ seats) = Some t ∷ seats
put_first t (Some u ∷ seats) = Some u ∷ put_first t seats

-- a new connection gets the lowest free console, whose text is sent to it from where it ends now; one too many is closed

-- where the text of a console ends, as far as a count tells
abbrev pub end_of : List (List ℕ) → Option ℕ → ℕ
end_of texts None = 0
end_of texts (Some console) = min (length (get_or texts (console - 1) [])) (2 ^ 64 - 1)

abbrev pub talk_of : List (List ℕ) → Option ℕ → ℕ → Talk
talk_of texts console id = record { id = id; piece = []; place = end_of texts console }

abbrev pub seats_with : List (List ℕ) → ℕ → List (Option Talk) → List (Option Talk)
seats_with texts id seats = put_first (talk_of texts (free_from 1 seats) id) seats

abbrev pub calls_of_new : Option ℕ → ℕ → List Done
calls_of_new (Some console) id = []
calls_of_new None id = DidClose id ∷ []

abbrev pub dial : ℕ → Option ℕ → List Timed
dial tick None = []
dial tick (Some console) = timed tick console Dial ∷ []

-- the calls, the events and the seats for new connections of these numbers, where the consoles have shown these texts
abbrev pub calls_accepted : List (List ℕ) → List (Option Talk) → List ℕ → List Done
calls_accepted texts seats [] = []
calls_accepted texts seats (id ∷ ids) = DidAccept (accepted.New id) ∷ (calls_of_new (free_from 1 seats) id ++ calls_accepted texts (seats_with texts id seats) ids)

abbrev pub dials : ℕ → List (List ℕ) → List (Option Talk) → List ℕ → List Timed
dials tick texts seats [] = []
dials tick texts seats (id ∷ ids) = dial tick (free_from 1 seats) ++ dials tick texts (seats_with texts id seats) ids

abbrev pub seated : List (List ℕ) → List (Option Talk) → List ℕ → List (Option Talk)
seated texts seats [] = seats
seated texts seats (id ∷ ids) = seated texts (seats_with texts id seats) ids

-- the accepts go on to the first that isn't ready, or to the 32nd; a turn in which one fails ends there and is none of these
abbrev pub last_accept : List ℕ → List Done
last_accept ids = if nat_lt (length ids) 32 then DidAccept accepted.NotYet ∷ [] else []

-- writing one console

-- a write's answer, with the bytes that it took
pub record Wrote : Type 0 where
  pub answer : LinkTook
  pub bytes : List ℕ

abbrev pub sent_of : List Wrote → List ℕ
sent_of puts = flat_map (λ (p : Wrote). p.bytes) puts

-- Writes go on with what is left, of which so many bytes may be sent yet. They stop where all was sent, where no more may be sent,
-- at a write that isn't ready or that fails.
abbrev pub MayPut : LinkTook → ℕ → List ℕ → List ℕ → (ℕ → List ℕ → Type 0) → Type 0 → Bool → Type 0
MayPut (took.Bytes n) may rest bytes goes_on stops lost = (1 ≤ n) × (n ≤ min may (length rest)) × (bytes ≡ take n rest) × goes_on (may - n) (drop n rest)
MayPut took.NotYet may rest bytes goes_on stops lost = (bytes ≡ []) × (lost ≡ false) × stops
MayPut took.Failed may rest bytes goes_on stops lost = (bytes ≡ []) × (lost ≡ true) × stops

abbrev pub IsPutting : Bool → List Wrote → ℕ → List ℕ → Type 0
IsPutting lost [] may rest = (min may (length rest) ≡ 0) × (lost ≡ false)
IsPutting lost (p ∷ puts) may rest = (0 < min may (length rest)) × MayPut p.answer may rest p.bytes (IsPutting lost puts) (puts ≡ []) lost

abbrev pub calls_told : Option Talk → List Wrote → Bool → List Done
calls_told None puts lost = []
calls_told (Some t) puts lost = map (λ (p : Wrote). DidWrite t.id p.answer p.bytes) puts ++ if_over lost (DidClose t.id ∷ [])

abbrev pub talk_told : Talk → List Wrote → Bool → Option Talk
talk_told t puts true = None
talk_told t puts false = Some (record t { place = min (t.place + length (sent_of puts)) (2 ^ 64 - 1) })

abbrev pub seat_told : Option Talk → List Wrote → Bool → Option Talk
seat_told None puts lost = None
seat_told (Some t) puts lost = talk_told t puts lost

pub record Told : Type 0 where
  pub puts : List Wrote
  pub lost : Bool

abbrev pub IsToldOf : List ℕ → Option Talk → List Wrote → Bool → Type 0
IsToldOf text None puts lost = (puts ≡ []) × (lost ≡ false)
IsToldOf text (Some t) puts lost = IsPutting lost puts 4096 (drop t.place text)

-- the consoles of these places
abbrev pub AreTold : List (List ℕ) → ℕ → List (Option Talk) → List Told → Type 0
AreTold texts place [] [] = Unit {0}
AreTold texts place [] (t ∷ ts) = true ≡ false
AreTold texts place (s ∷ seats) [] = true ≡ false
AreTold texts place (s ∷ seats) (t ∷ ts) = IsToldOf (get_or texts place []) s t.puts t.lost × AreTold texts (suc place) seats ts

abbrev pub all_calls_told : List (Option Talk) → List Told → List Done
all_calls_told [] ts = []
all_calls_told (s ∷ seats) [] = []
all_calls_told (s ∷ seats) (t ∷ ts) = calls_told s t.puts t.lost ++ all_calls_told seats ts

abbrev pub all_seats_told : List (Option Talk) → List Told → List (Option Talk)
all_seats_told [] ts = []
all_seats_told (s ∷ seats) [] = s ∷ seats
all_seats_told (s ∷ seats) (t ∷ ts) = seat_told s t.puts t.lost ∷ all_seats_told seats ts

-- whether each console's connection failed in these writes
abbrev pub losses : List Told → List Bool
losses ts = map (λ (t : Told). t.lost) ts

-- what the core hears of connections that failed
abbrev pub hangs : ℕ → ℕ → List Bool → List Timed
hangs tick console [] = []
hangs tick console (true ∷ failed) = timed tick console Hang ∷ hangs tick (suc console) failed
hangs tick console (false ∷ failed) = hangs tick (suc console) failed

-- a whole turn

-- what the link answered in a turn that was done
pub record TurnAnswers : Type 0 where
  pub accepts : List ℕ
  pub heard : List HeardOf
  pub told : List Told

-- the seats while the turn goes on: after the accepts, after the reads
abbrev pub seats_to_read : List (List ℕ) → Desk → TurnAnswers → List (Option Talk)
seats_to_read texts desk turn = seated texts desk.seats turn.accepts

abbrev pub seats_to_write : List (List ℕ) → Desk → TurnAnswers → List (Option Talk)
seats_to_write texts desk turn = all_seats_after (seats_to_read texts desk turn) turn.heard

-- the calls of a turn, in order; texts are those at its beginning
abbrev pub calls_of_turn : List (List ℕ) → Desk → TurnAnswers → List Done
calls_of_turn texts desk turn =
    DidWait 10 false ∷ (calls_accepted texts desk.seats turn.accepts
    ++ (last_accept turn.accepts
    ++ (all_calls_heard (seats_to_read texts desk turn) turn.heard
    ++ all_calls_told (seats_to_write texts desk turn) turn.told)))

-- the events of a turn, in order: a Hang for each connection that failed in the last turn's writes, a Dial for each new connection
-- that got a console, and console by console what was read
abbrev pub events_of_turn : ℕ → List (List ℕ) → Desk → TurnAnswers → List Timed
events_of_turn tick texts desk turn =
    hangs tick 1 desk.failed
    ++ (dials tick texts desk.seats turn.accepts
    ++ all_events_heard tick 1 (seats_to_read texts desk turn) turn.heard)

abbrev pub desk_after : List (List ℕ) → Desk → TurnAnswers → Desk
desk_after texts desk turn = record { seats = all_seats_told (seats_to_write texts desk turn) turn.told; failed = losses turn.told }

-- a turn stops reading, accepting and writing only where it may; texts are those at its beginning, shown those behind its advance
pub record IsTurn (texts shown : List (List ℕ)) (desk : Desk) (turn : TurnAnswers) : Type 0 where
  pub accepts : length turn.accepts ≤ 32
  pub heard : AreHeard (seats_to_read texts desk turn) turn.heard
  pub told : AreTold shown 0 (seats_to_write texts desk turn) turn.told
