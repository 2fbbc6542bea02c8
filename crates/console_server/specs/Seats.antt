-- proof: what a console's task stands for, and the parts of a turn.
use Rattle.std.specs.Prelude.{length, ◌<◌, ◌≤◌, ◌≡◌, ◌≢◌, ℕ, Bool, true, List, [], ◌∷◌, ◌++◌, take, drop, get_or, Option, Some, None}
use Rattle.std.specs.List.{AllZip}
use Rattle.ctss_types.specs.declared.script.Timed.{Timed}
use Rattle.console_wire.specs.Items.{half_of}
use Rattle.console_link.specs.declared.link.Accepted.TheVariants as accepted
use Rattle.console_link.specs.Links.{LinkSeen, DidAccept}
use Rattle.console_server.specs.declared.seating.SeatingFault.{SeatingFault}
use Rattle.console_server.specs.declared.seating.SeatingFault.TheVariants as seating
use Rattle.console_server.specs.declared.tasks.Task.{Task}
use Rattle.live_core.specs.Core.{CoreCall}
use Rattle.console_server.specs.Given.{IsGiven, IsGivenPart}
use Rattle.console_server.specs.Readings.{Gave, DidAll}
use Rattle.console_server.specs.Turns.{Talk, HeardOf, calls_heard, events_heard, seat_after, IsHeard, IsHeardPart, all_calls_heard, all_events_heard, all_seats_after, AreHeard, AreHeardUntil, calls_accepted, dials, seated, last_accept, Wrote, IsToldOf, calls_told, seat_told, Told, AreTold, all_calls_told, all_seats_told, losses}
use Rattle.console_server.specs.Turns.{free_from, calls_of_new, seats_with}

pub record StandsFor (task : Task) (talk : Talk) : Type 0 where
  pub id : task.id ≡ talk.id
  pub wire : task.wire ≡ half_of talk.piece
  pub place : task.place ≡ talk.place

-- a seat stands for a console's connection, or for none
abbrev pub Stands : Option Task → Option Talk → Type 0
Stands None None = Unit {0}
Stands None (Some talk) = ⊥
Stands (Some task) None = ⊥
Stands (Some task) (Some talk) = StandsFor task talk

-- its connection is open
abbrev pub SeatIsOpen : (ℕ → Bool) → Option Task → Type 0
SeatIsOpen is_open None = Unit {0}
SeatIsOpen is_open (Some task) = is_open task.id ≡ true

-- a number that is not its connection's
abbrev pub IsNotOf : Option Task → ℕ → Type 0
IsNotOf None k = Unit {0}
IsNotOf (Some task) k = k ≢ task.id

-- it keeps its connection, or has none any more
abbrev pub KeepsTask : Task → Option Task → Type 0
KeepsTask task None = Unit {0}
KeepsTask task (Some now) = now.id ≡ task.id

abbrev pub KeepsSeat : Option Task → Option Task → Type 0
KeepsSeat None now = now ≡ None
KeepsSeat (Some task) now = KeepsTask task now

abbrev pub IsOther : Option Task → Option Task → Type 0
IsOther None t = Unit {0}
IsOther (Some task) t = IsNotOf t task.id

-- all seats' connections are open, and each has another
pub record AreSeated (is_open : ℕ → Bool) (seats : List (Option Task)) : Type 0 where
  pub opens : (c : ℕ) → SeatIsOpen is_open (get_or seats c None)
  pub others : (c d : ℕ) → c ≢ d → IsOther (get_or seats c None) (get_or seats d None)

-- the seats stand for these connections
abbrev pub StandAll : List (Option Task) → List (Option Talk) → Type 0
StandAll seats desk = AllZip Stands seats desk

-- a console was read in a turn
pub record SeatIsHeard {C : Type 0} (goes : C → List CoreCall → C → Type 0) (tick console : ℕ) (talk : Option Talk) (link_had link_has : LinkSeen) (core_had core_has : C) (had has : List Timed) (now : Option Task) : Type 0 where
  pub reads : List Gave
  pub over : Bool
  pub lawful : IsHeard talk reads over
  pub link : DidAll (calls_heard talk reads over) link_had link_has
  pub core : IsGiven goes (events_heard tick console talk reads over) core_had core_has had has
  pub stands : Stands now (seat_after talk reads over)

-- memory lacked on the way; what was given is a beginning
pub record SeatIsHeardPart {C : Type 0} (goes : C → List CoreCall → C → Type 0) (tick console : ℕ) (talk : Option Talk) (link_had link_has : LinkSeen) (core_had core_has : C) (had has : List Timed) : Type 0 where
  pub reads : List Gave
  pub over : Bool
  pub lawful : IsHeardPart talk reads over
  pub link : DidAll (calls_heard talk reads over) link_had link_has
  pub core : IsGivenPart goes (events_heard tick console talk reads over) core_had core_has had has

-- the first consoles were read in a turn, so many of them
pub record SeatsAreHeard {C : Type 0} (goes : C → List CoreCall → C → Type 0) (tick count : ℕ) (desk : List (Option Talk)) (link_had link_has : LinkSeen) (core_had core_has : C) (had has : List Timed) (now : List (Option Task)) : Type 0 where
  pub heard : List HeardOf
  pub lawful : AreHeard (take count desk) heard
  pub link : DidAll (all_calls_heard (take count desk) heard) link_had link_has
  pub core : IsGiven goes (all_events_heard tick 1 (take count desk) heard) core_had core_has had has
  pub stands : StandAll now (all_seats_after (take count desk) heard ++ drop count desk)

-- so many connections were accepted in a turn, of which each got a console or was closed
pub record SeatsAreTaken {C : Type 0} (goes : C → List CoreCall → C → Type 0) (tick : ℕ) (texts : List (List ℕ)) (desk : List (Option Talk)) (ids : List ℕ) (link_had link_has : LinkSeen) (core_had core_has : C) (had has : List Timed) (now : List (Option Task)) : Type 0 where
  pub link : DidAll (calls_accepted texts desk ids) link_had link_has
  pub core : IsGiven goes (dials tick texts desk ids) core_had core_has had has
  pub stands : StandAll now (seated texts desk ids)

-- a new connection got the lowest free console, or was closed
pub record FillsSeat (texts : List (List ℕ)) (id : ℕ) (desk : List (Option Talk)) (link_had link_has : LinkSeen)
    (now : List (Option Task)) : Type 0 where
  pub link : DidAll (calls_of_new (free_from 1 desk) id) link_had link_has
  pub stands : StandAll now (seats_with texts id desk)

-- a turn's accepts
pub record AreAccepted {C : Type 0} (goes : C → List CoreCall → C → Type 0) (tick : ℕ) (texts : List (List ℕ)) (desk : List (Option Talk)) (link_had link_has : LinkSeen) (core_had core_has : C) (had has : List Timed) (now : List (Option Task)) : Type 0 where
  pub ids : List ℕ
  pub few : length ids ≤ 32
  pub link : DidAll (calls_accepted texts desk ids ++ last_accept ids) link_had link_has
  pub core : IsGiven goes (dials tick texts desk ids) core_had core_has had has
  pub stands : StandAll now (seated texts desk ids)

-- a console's text was sent in a turn, as far as it may
pub record SeatIsTold (text : List ℕ) (talk : Option Talk) (lost : Bool) (link_had link_has : LinkSeen) (now : Option Task) : Type 0 where
  pub puts : List Wrote
  pub lawful : IsToldOf text talk puts lost
  pub link : DidAll (calls_told talk puts lost) link_had link_has
  pub stands : Stands now (seat_told talk puts lost)

-- the first consoles were sent their texts in a turn, so many of them
pub record SeatsAreTold (texts : List (List ℕ)) (count : ℕ) (desk : List (Option Talk)) (link_had link_has : LinkSeen) (now : List (Option Task)) (failed : List Bool) : Type 0 where
  pub told : List Told
  pub lawful : AreTold texts 0 (take count desk) told
  pub link : DidAll (all_calls_told (take count desk) told) link_had link_has
  pub stands : StandAll now (all_seats_told (take count desk) told ++ drop count desk)
  pub flags : take count failed ≡ losses told

-- connections were accepted in a turn, which the core heard of, and then the listener failed
pub record AreDialled {C : Type 0} (goes : C → List CoreCall → C → Type 0) (tick : ℕ) (texts : List (List ℕ)) (desk : List (Option Talk)) (link_had link_has : LinkSeen) (core_had core_has : C) (had has : List Timed) : Type 0 where
  pub ids : List ℕ
  pub few : length ids < 32
  pub link : DidAll (calls_accepted texts desk ids ++ DidAccept accepted.Failed ∷ []) link_had link_has
  pub core : IsGiven goes (dials tick texts desk ids) core_had core_has had has

-- connections were accepted in a turn, and memory lacked for the Dial of the last one
pub record AreDialledPart {C : Type 0} (goes : C → List CoreCall → C → Type 0) (tick : ℕ) (texts : List (List ℕ)) (desk : List (Option Talk)) (link_had link_has : LinkSeen) (core_had core_has : C) (had has : List Timed) : Type 0 where
  pub ids : List ℕ
  pub few : length ids ≤ 32
  pub link : DidAll (calls_accepted texts desk ids) link_had link_has
  pub core : IsGivenPart goes (dials tick texts desk ids) core_had core_has had has

-- accepting ended before its end
abbrev pub AcceptsAreCut : {C : Type 0} → (C → List CoreCall → C → Type 0) → ℕ → List (List ℕ) → List (Option Talk) → SeatingFault → (link_had link_has : LinkSeen) → C → C → (had has : List Timed) → Type 0
AcceptsAreCut goes tick texts desk seating.Listener a b old new had has = AreDialled goes tick texts desk a b old new had has
AcceptsAreCut goes tick texts desk seating.NoMemory a b old new had has = AreDialledPart goes tick texts desk a b old new had has

-- consoles were read in a turn, and memory lacked for what the last of them sent
pub record AreHeardPart {C : Type 0} (goes : C → List CoreCall → C → Type 0) (tick : ℕ) (desk : List (Option Talk)) (link_had link_has : LinkSeen) (core_had core_has : C) (had has : List Timed) : Type 0 where
  pub heard : List HeardOf
  pub lawful : AreHeardUntil desk heard
  pub link : DidAll (all_calls_heard desk heard) link_had link_has
  pub core : IsGivenPart goes (all_events_heard tick 1 desk heard) core_had core_has had has
