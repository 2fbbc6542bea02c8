-- claim: a link in memory, as contracts see it, and what its calls answer and make of it.
use Rattle.std.specs.Prelude.{◌≡◌, ℕ, zero, suc, ◌+◌, ◌-◌, min, Bool, true, false, ◌&&◌, nat_eq, nat_le, nat_lt, if◌then◌else◌, List, [], ◌∷◌, ◌++◌, length, take, get_or, set, map, Option, None, Some}
use Rattle.std.specs.List.{list_any, flat_map}
use Rattle.faults.specs.Faults.{one_further}
use Rattle.console_link.specs.declared.link.Accepted.{Accepted}
use Rattle.console_link.specs.declared.link.Accepted.TheVariants as accepted
use Rattle.console_link.specs.declared.link.LinkGot.{LinkGot}
use Rattle.console_link.specs.declared.link.LinkGot.TheVariants as got
use Rattle.console_link.specs.declared.link.LinkTook.{LinkTook}
use Rattle.console_link.specs.declared.link.LinkTook.TheVariants as took
use Rattle.console_link.specs.declared.link.CallMade.{CallMade}
use Rattle.console_link.specs.declared.link.CallMade.TheVariants as made
use Rattle.console_link.specs.declared.memory.LinkAt.{LinkAt}
use Rattle.console_link.specs.declared.memory.LinkCall.{LinkCall}
use Rattle.console_link.specs.declared.memory.LinkCall.TheVariants as kind
use Rattle.console_link.specs.declared.memory.Peer.{Peer}
use Rattle.console_link.specs.Links.{Counts, Passed, CallList, LinkSeen, with_call, new_of, got_failed, got_waits, took_failed, took_waits, accept_failed, accept_waits}

-- no calls yet, which are told where there is room for any
abbrev pub no_calls : ℕ → Option CallList
no_calls room = if nat_eq room 0 then None else Some (record { made = []; room = room })

-- the calls made, none where they are not told
abbrev pub calls_told : Option CallList → List CallMade
calls_told None = []
calls_told (Some calls) = calls.made

abbrev pub next_if : Bool → ℕ → ℕ
next_if b n = if b then one_further n else n

-- One connection: all bytes that its peer sends, how many of them were taken, the places where its pieces end, whether the peer
-- ends it, whether it is open, the bytes sent to the peer and the room for them, how often it was read and written, and its counts.
pub record ConnectionState : Type 0 where
  pub bytes : List ℕ
  pub at : ℕ
  pub cuts : List ℕ
  pub ends : Bool
  pub opened : Bool
  pub sent : List ℕ
  pub room : ℕ
  pub reads : ℕ
  pub writes : ℕ
  pub faults : ℕ
  pub read_waits : ℕ
  pub write_waits : ℕ

-- where pieces end that begin at a place
abbrev pub cuts_of : ℕ → List (List ℕ) → List ℕ
cuts_of at [] = []
cuts_of at (piece ∷ pieces) = (at + length piece) ∷ cuts_of (at + length piece) pieces

abbrev pub pieces_of : Peer → List (List ℕ)
pieces_of peer = map (λ piece. piece.items) peer.pieces.items

-- a peer's connection before its first call
abbrev pub connection_of : ℕ → Peer → ConnectionState
connection_of room peer = record {
  bytes = flat_map (λ piece. piece) (pieces_of peer);
  at = 0;
  cuts = cuts_of 0 (pieces_of peer);
  ends = peer.ends;
  opened = false;
  sent = [];
  room = room;
  reads = 0;
  writes = 0;
  faults = 0;
  read_waits = 0;
  write_waits = 0;
}

-- the place up to which the next read may go: the first cut behind the bytes taken
abbrev pub cut_of : ℕ → List ℕ → ℕ
cut_of at [] = at
cut_of at (c ∷ cuts) = if nat_lt at c then c else cut_of at cuts

-- what the next read answers, into so much room, where it is one of those that fail, or that are not ready: bytes of one piece,
-- as many as fit
abbrev pub read_answer : Bool → Bool → ConnectionState → ℕ → LinkGot
read_answer fails waits c room =
    if fails then got.Failed
    else (if waits then got.NotYet
    else (if nat_lt c.at (cut_of c.at c.cuts) then got.Bytes (min room (cut_of c.at c.cuts - c.at))
    else (if c.ends then got.End else got.NotYet)))

abbrev pub count_given : LinkGot → ℕ
count_given (got.Bytes n) = n
count_given got.End = 0
count_given got.NotYet = 0
count_given got.Failed = 0

abbrev pub after_read : LinkGot → ConnectionState → ConnectionState
after_read answer c = record c {
  at = c.at + count_given answer;
  reads = one_further c.reads;
  faults = next_if (got_failed answer) c.faults;
  read_waits = next_if (got_waits answer) c.read_waits;
}

-- what the next write answers: the whole piece is taken, where there is room for it
abbrev pub write_answer : Bool → Bool → ConnectionState → ℕ → LinkTook
write_answer fails waits c size =
    if fails then took.Failed
    else (if waits then took.NotYet
    else (if nat_le size (c.room - length c.sent) then took.Bytes size else took.Failed))

abbrev pub after_write : LinkTook → List ℕ → ConnectionState → ConnectionState
after_write answer bytes c = record c {
  sent = c.sent ++ bytes;
  writes = one_further c.writes;
  faults = next_if (took_failed answer) c.faults;
  write_waits = next_if (took_waits answer) c.write_waits;
}

abbrev pub with_open : Bool → ConnectionState → ConnectionState
with_open opened c = record c { opened = opened }

-- nothing of the peer's bytes is left and it has ended the connection
abbrev pub connection_is_over : ConnectionState → Bool
connection_is_over c = c.ends && nat_le (length c.bytes) c.at

abbrev pub OverAtEnd : LinkGot → ConnectionState → Type 0
OverAtEnd (got.Bytes n) c = Unit {0}
OverAtEnd got.End c = connection_is_over c ≡ true
OverAtEnd got.NotYet c = Unit {0}
OverAtEnd got.Failed c = Unit {0}

-- The link: the peers' connections, of which the first were accepted; the calls that fail and that are not ready; how often it was
-- opened, asked for a connection and waited upon; the listener's counts; and the calls made, where told.
pub record LinkState : Type 0 where
  pub connections : List ConnectionState
  pub accepted : ℕ
  pub fails : List LinkAt
  pub not_ready : List LinkAt
  pub opens : ℕ
  pub accepts : ℕ
  pub rests : ℕ
  pub faults : ℕ
  pub waits : ℕ
  pub calls : Option CallList

abbrev pub link_of : List Peer → List LinkAt → List LinkAt → ℕ → ℕ → LinkState
link_of peers fails not_ready calls bytes = record {
  connections = map (connection_of bytes) peers;
  accepted = 0;
  fails = fails;
  not_ready = not_ready;
  opens = 0;
  accepts = 0;
  rests = 0;
  faults = 0;
  waits = 0;
  calls = no_calls calls;
}

-- what stands at a number of no peer
abbrev pub no_connection : ConnectionState
no_connection = record { bytes = []; at = 0; cuts = []; ends = false; opened = false; sent = []; room = 0; reads = 0; writes = 0; faults = 0; read_waits = 0; write_waits = 0 }

abbrev pub connection_at : LinkState → ℕ → ConnectionState
connection_at s id = get_or s.connections id no_connection

abbrev pub same_call : LinkCall → LinkCall → Bool
same_call kind.Open kind.Open = true
same_call kind.Accept kind.Accept = true
same_call kind.Wait kind.Wait = true
same_call (kind.Read a) (kind.Read b) = nat_eq a b
same_call (kind.Write a) (kind.Write b) = nat_eq a b
same_call _ _ = false

-- whether the call of this kind and number is one of these
abbrev pub is_listed : List LinkAt → LinkCall → ℕ → Bool
is_listed list call number = list_any (λ (a : LinkAt). same_call a.call call && nat_eq a.number number) list

-- a call of the listener alone
abbrev pub open_fails : LinkState → Bool
open_fails s = is_listed s.fails kind.Open (one_further s.opens)

abbrev pub after_open : ℕ → LinkState → LinkState
after_open port s = record s { opens = one_further s.opens; faults = next_if (open_fails s) s.faults; calls = with_call s.calls (made.Open port (open_fails s)) }

abbrev pub wait_fails : LinkState → Bool
wait_fails s = is_listed s.fails kind.Wait (one_further s.rests)

abbrev pub after_wait : ℕ → LinkState → LinkState
after_wait millis s = record s { rests = one_further s.rests; faults = next_if (wait_fails s) s.faults; calls = with_call s.calls (made.Wait millis (wait_fails s)) }

-- what the next accept answers: the peers in order
abbrev pub accept_answer : LinkState → Accepted
accept_answer s =
    if is_listed s.fails kind.Accept (one_further s.accepts) then accepted.Failed
    else (if is_listed s.not_ready kind.Accept (one_further s.accepts) then accepted.NotYet
    else (if nat_lt s.accepted (length s.connections) then accepted.New s.accepted else accepted.NotYet))

abbrev pub opened_new : Option ℕ → List ConnectionState → List ConnectionState
opened_new None cs = cs
opened_new (Some id) cs = set cs id (with_open true (get_or cs id no_connection))

abbrev pub accepted_new : Option ℕ → ℕ → ℕ
accepted_new None n = n
accepted_new (Some id) n = suc n

abbrev pub after_accept : Accepted → LinkState → LinkState
after_accept answer s = record s {
  connections = opened_new (new_of answer) s.connections;
  accepted = accepted_new (new_of answer) s.accepted;
  accepts = one_further s.accepts;
  faults = next_if (accept_failed answer) s.faults;
  waits = next_if (accept_waits answer) s.waits;
  calls = with_call s.calls (made.Accept answer);
}

-- a call of one connection
abbrev pub link_read_answer : ℕ → ℕ → LinkState → LinkGot
link_read_answer id room s =
    read_answer (is_listed s.fails (kind.Read id) (one_further (connection_at s id).reads)) (is_listed s.not_ready (kind.Read id) (one_further (connection_at s id).reads)) (connection_at s id) room

abbrev pub link_after_read : ℕ → LinkGot → LinkState → LinkState
link_after_read id answer s = record s { connections = set s.connections id (after_read answer (connection_at s id)); calls = with_call s.calls (made.Read id answer) }

abbrev pub link_write_answer : ℕ → ℕ → LinkState → LinkTook
link_write_answer id size s =
    write_answer (is_listed s.fails (kind.Write id) (one_further (connection_at s id).writes)) (is_listed s.not_ready (kind.Write id) (one_further (connection_at s id).writes)) (connection_at s id) size

abbrev pub link_after_write : ℕ → LinkTook → List ℕ → LinkState → LinkState
link_after_write id answer bytes s = record s { connections = set s.connections id (after_write answer bytes (connection_at s id)); calls = with_call s.calls (made.Write id answer) }

abbrev pub link_after_close : ℕ → LinkState → LinkState
link_after_close id s = record s { connections = set s.connections id (with_open false (connection_at s id)); calls = with_call s.calls (made.Close id) }

-- what a link tells

abbrev pub counts_of_connection : ConnectionState → Counts
counts_of_connection c = record { faults = c.faults; read_waits = c.read_waits; write_waits = c.write_waits }

abbrev pub passed_of : ConnectionState → Passed
passed_of c = record { taken = take c.at c.bytes; sent = c.sent }

abbrev pub numbers_below : ℕ → List ℕ
numbers_below zero = []
numbers_below (suc n) = numbers_below n ++ n ∷ []

-- all that contracts of any link see of it; it tells its bytes
abbrev pub memory_seen : LinkState → LinkSeen
memory_seen s = record {
  is_open = λ k. (connection_at s k).opened;
  counts = λ k. counts_of_connection (connection_at s k);
  faults = s.faults;
  waits = s.waits;
  calls = s.calls;
  tells = true;
  numbers = numbers_below s.accepted;
  passed = λ k. passed_of (connection_at s k);
  is_over = λ k. connection_is_over (connection_at s k);
}
