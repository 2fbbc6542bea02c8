-- proof: consoles whose connections are open, each another, and what serving them keeps.
use Rattle.std.specs.Prelude.{◌≡◌, ◌≤◌, ℕ, Bool, true, List, length, get_or, Option, None, Err}
use Rattle.std.specs.declared.result.Result.{Result}
use Rattle.faults.specs.Faults.{Rose}
use Rattle.console_link.specs.Links.{LinkSeen}
use Rattle.console_server.specs.declared.seating.SeatingFault.{SeatingFault}
use Rattle.console_server.specs.declared.seating.SeatingFault.TheVariants as seating
use Rattle.console_server.specs.declared.tasks.Task.{Task}
use Rattle.console_server.specs.Seats.{SeatIsOpen, IsNotOf, KeepsSeat, AreSeated}

-- at most 32 consoles, of which those that have a connection each have another one, which is open
pub record AreConsoles (is_open : ℕ → Bool) (seats : List (Option Task)) : Type 0 where
  pub many : length seats ≤ 32
  pub seated : AreSeated is_open seats

-- such consoles, and an open connection that none of them has
pub record MaySeat (is_open : ℕ → Bool) (seats : List (Option Task)) (id : ℕ) : Type 0 where
  pub many : length seats ≤ 32
  pub here : is_open id ≡ true
  pub fresh : (c : ℕ) → IsNotOf (get_or seats c None) id
  pub seated : AreSeated is_open seats

-- such consoles, and for each of them whether its connection failed in the last turn's writes
pub record AreTables (is_open : ℕ → Bool) (seats : List (Option Task)) (failed : List Bool) : Type 0 where
  pub many : length seats ≤ 32
  pub flags : length failed ≡ length seats
  pub seated : AreSeated is_open seats

-- calls of a link that opened and closed no connection, and at which the listener had no fault
pub record KeepsOpen (had has : LinkSeen) : Type 0 where
  pub same : (k : ℕ) → has.is_open k ≡ had.is_open k
  pub listener : has.faults ≡ had.faults

-- One console was served: if it still has a connection, that is the same and open; all others are open or not as
-- they were, and the listener had no fault.
pub record ServesOne (was now : Option Task) (had has : LinkSeen) : Type 0 where
  pub left : SeatIsOpen has.is_open now
  pub others : (k : ℕ) → IsNotOf was k → has.is_open k ≡ had.is_open k
  pub keeps : KeepsSeat was now
  pub listener : has.faults ≡ had.faults

-- consoles were served: there are as many, their connections are open, each another, and the listener had no fault
pub record KeepsSeats (old new : List (Option Task)) (had has : LinkSeen) : Type 0 where
  pub seated : AreSeated has.is_open new
  pub many : length new ≡ length old
  pub listener : has.faults ≡ had.faults

-- there are as many consoles and flags as before, and the consoles' connections are open, each another
pub record KeepsTables (is_open : ℕ → Bool) (old new : List (Option Task)) (failed_had failed_has : List Bool) : Type 0
  where
    pub seated : AreSeated is_open new
    pub many : length new ≡ length old
    pub flags : length failed_has ≡ length failed_had

-- the listener's count of faults hasn't fallen, and has risen where a fault of it ended the accepts
pub record CountsListener (result : Result Unit SeatingFault) (had has : LinkSeen) : Type 0 where
  pub listener : had.faults ≤ has.faults
  pub cause : result ≡ Err seating.Listener → Rose had.faults has.faults
