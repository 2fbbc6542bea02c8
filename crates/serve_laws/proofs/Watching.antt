-- A console's visits while turns go on: those that are over, and the one that isn't.
use Rattle.std.specs.Prelude.{Bool, true, false, nat_eq, if◌then◌else◌, get_or, Option, Some, None}
use Rattle.std.specs.List.{All, flat_map}
use Rattle.std.proofs.Common.{◌≡◌, ℕ, suc, ◌-◌, List, [], ◌∷◌, ◌++◌}
use Rattle.ctss_types.specs.declared.script.Event.{Event}
use Rattle.ctss_types.specs.declared.script.Event.TheVariants.{Dial}
use Rattle.console_wire.specs.Items.{items_from, piece_from}
use Rattle.console_server.specs.Readings.{Gave, bytes_of}
use Rattle.console_server.specs.Turns.{Talk, Desk, HeardOf, Told, TurnAnswers, free_from, end_of, seats_with, seats_to_read, desk_after}
use Rattle.console_server.specs.Conversation.{TurnSeen}
use Rattle.console_server.specs.Visits.{Visit, events_of_visit}

pub record Watch : Type 0 where
  pub past : List Visit
  pub now : Option Visit

abbrev pub hung : Visit → Visit
hung v = record v { hung = true }

-- the core hears of its end
abbrev pub ended : List Visit → Option Visit → Watch
ended past None = record { past = past; now = None }
ended past (Some v) = record { past = past ++ hung v ∷ []; now = None }

abbrev pub ended_if : Bool → Watch → Watch
ended_if true w = ended w.past w.now
ended_if false w = w

abbrev pub new_visit : ℕ → ℕ → List (List ℕ) → ℕ → Visit
new_visit console turn texts id = record { id = id; turn = turn; place = end_of texts (Some console); bytes = []; hung = false }

-- a new connection, which may get the console or another
abbrev pub come : ℕ → ℕ → List (List ℕ) → Option ℕ → ℕ → Watch → Watch
come console turn texts None id w = w
come console turn texts (Some c) id w = if nat_eq c console then record w { now = Some (new_visit console turn texts id) } else w

abbrev pub all_come : ℕ → ℕ → List (List ℕ) → List (Option Talk) → List ℕ → Watch → Watch
all_come console turn texts seats [] w = w
all_come console turn texts seats (id ∷ ids) w = all_come console turn texts (seats_with texts id seats) ids (come console turn texts (free_from 1 seats) id w)

abbrev pub with_bytes : List ℕ → Option Visit → Option Visit
with_bytes bytes None = None
with_bytes bytes (Some v) = Some (record v { bytes = v.bytes ++ bytes })

abbrev pub read : Option Talk → List Gave → Bool → Watch → Watch
read None reads over w = w
read (Some t) reads over w = ended_if over (record w { now = with_bytes (bytes_of reads) w.now })

abbrev pub none_heard : HeardOf
none_heard = record { reads = []; over = false }

abbrev pub none_told : Told
none_told = record { puts = []; lost = false }

abbrev pub heard_at : ℕ → TurnAnswers → HeardOf
heard_at console turn = get_or turn.heard (console - 1) none_heard

abbrev pub read_at : ℕ → List (List ℕ) → Desk → TurnAnswers → Watch → Watch
read_at console texts desk turn w = read (get_or (seats_to_read texts desk turn) (console - 1) None) (heard_at console turn).reads (heard_at console turn).over w

abbrev pub watched : ℕ → ℕ → List (List ℕ) → Desk → TurnAnswers → Watch → Watch
watched console turn texts desk answers w =
    read_at console texts desk answers (all_come console turn texts desk.seats answers.accepts (ended_if (get_or desk.failed (console - 1) false) w))

abbrev pub all_watched : ℕ → ℕ → List (List ℕ) → Desk → List TurnSeen → Watch → Watch
all_watched console turn texts desk [] w = w
all_watched console turn texts desk (t ∷ turns) w = all_watched console (suc turn) t.shown (desk_after texts desk t.answers) turns (watched console turn texts desk t.answers w)

-- what the core heard of the visit that isn't over
abbrev pub said : Option Visit → List Event
said None = []
said (Some v) = Dial ∷ items_from [] v.bytes

pub record IsTalkOf (t : Talk) (v : Visit) : Type 0 where
  pub hung : v.hung ≡ false
  pub id : t.id ≡ v.id
  pub piece : t.piece ≡ piece_from [] v.bytes

-- it has the seat, or it was lost in the last turn's writes
abbrev pub IsNow : Option Talk → Bool → Option Visit → Type 0
IsNow None false None = Unit {0}
IsNow None false (Some v) = ⊥
IsNow None true None = ⊥
IsNow None true (Some v) = v.hung ≡ false
IsNow (Some t) false None = ⊥
IsNow (Some t) false (Some v) = IsTalkOf t v
IsNow (Some t) true now = ⊥

abbrev pub OnNow : (Visit → Type 0) → Option Visit → Type 0
OnNow P None = Unit {0}
OnNow P (Some v) = P v

-- what the core heard at the console so far
pub record Watched (P : Visit → Type 0) (seat : Option Talk) (lost : Bool) (events : List Event) (w : Watch) : Type 0 where
  pub hung : All (λ (v : Visit). v.hung ≡ true) w.past
  pub heard : events ≡ flat_map events_of_visit w.past ++ said w.now
  pub now : IsNow seat lost w.now
  pub places : All P w.past
  pub place : OnNow P w.now
