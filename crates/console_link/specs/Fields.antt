-- proof: what the fields of a link in memory stand for.
use Rattle.std.specs.Prelude.{◌≡◌, ℕ, ◌^◌, ◌<◌, ◌≤◌, false, List, [], ◌∷◌, length, vec_capacity, true}
use Rattle.console_link.specs.Links.{Done, Counted, open_after, passed_after}
use Rattle.console_link.specs.Memory.{ConnectionState, LinkState, cut_of, connection_at, counts_of_connection, passed_of, connection_is_over}
use Rattle.console_link.specs.declared.connection.Connection.TheInside.{Inside}
use Rattle.console_link.specs.declared.memory.MemoryLink.TheInside as link

abbrev pub connection_state : Inside → ConnectionState
connection_state c = record {
  bytes = c.bytes.items;
  at = c.at;
  cuts = c.cuts.items;
  ends = c.ends;
  opened = c.opened;
  sent = c.sent.items;
  room = c.room;
  reads = c.reads;
  writes = c.writes;
  faults = c.faults;
  read_waits = c.read_waits;
  write_waits = c.write_waits;
}

abbrev pub AreWithin : ℕ → List ℕ → Type 0
AreWithin n [] = Unit {0}
AreWithin n (c ∷ cuts) = (c ≤ n) × AreWithin n cuts

-- the cuts lie within the bytes, there is one behind each byte, and there is memory for the bytes sent
pub record IsConnection (c : Inside) : Type 0 where
  pub within : c.at ≤ length c.bytes.items
  pub cuts : AreWithin (length c.bytes.items) c.cuts.items
  pub behind : (at : ℕ) → at < length c.bytes.items → at < cut_of at c.cuts.items
  pub sent : length c.sent.items ≤ c.room
  pub room : c.room ≤ vec_capacity c.sent

abbrev pub link_state : link.Inside → LinkState
link_state l = record {
  connections = l.connections.items;
  accepted = l.accepted;
  fails = l.fails.items;
  not_ready = l.not_ready.items;
  opens = l.opens;
  accepts = l.accepts;
  rests = l.rests;
  faults = l.faults;
  waits = l.waits;
  calls = l.log;
}

-- nothing was done with it
pub record IsNew (c : ConnectionState) : Type 0 where
  pub at : c.at ≡ 0
  pub sent : c.sent ≡ []
  pub opened : c.opened ≡ false

-- the connections that were not accepted are new, and each has a number
pub record IsLink (l : link.Inside) : Type 0 where
  pub news : (k : ℕ) → l.accepted ≤ k → IsNew (connection_at (link_state l) k)
  pub few : length l.connections.items < 2 ^ 32

-- one connection of a link before and after a call
pub record Changes (d : Done) (k : ℕ) (old new : ConnectionState) : Type 0 where
  pub opens : new.opened ≡ open_after d k old.opened
  pub counts : Counted d k (counts_of_connection old) (counts_of_connection new)
  pub passed : passed_of new ≡ passed_after d k (passed_of old)
  pub over : connection_is_over old ≡ true → connection_is_over new ≡ true

-- its counts are those of a u64
pub record AreCounts (c : ConnectionState) : Type 0 where
  pub faults : c.faults < 2 ^ 64
  pub read_waits : c.read_waits < 2 ^ 64
  pub write_waits : c.write_waits < 2 ^ 64

-- the listener's counts are those of a u64, and the next connection is new
pub record IsListening (s : LinkState) : Type 0 where
  pub faults : s.faults < 2 ^ 64
  pub waits : s.waits < 2 ^ 64
  pub next : IsNew (connection_at s s.accepted)
