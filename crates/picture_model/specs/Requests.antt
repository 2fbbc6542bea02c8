-- claim: what a user asks for and waits for, as the entries of a schedule tell it.
use Rattle.std.specs.Prelude.{ℕ, ◌+◌, Bool, true, false, nat_eq, nat_le, if◌then◌else◌, List, [], ◌∷◌, ◌++◌, Option, Some, None}
use Rattle.ctss_types.specs.declared.history.Cause.{Cause}
use Rattle.ctss_types.specs.declared.history.Cause.TheVariants as cause
use Rattle.ctss_types.specs.declared.history.EventKind.{EventKind}
use Rattle.ctss_types.specs.declared.history.EventKind.TheVariants as kind
use Rattle.ctss_types.specs.declared.history.Entry.{Entry}
use Rattle.ctss_types.specs.declared.history.Entry.TheVariants.{Taken, Serve}
use Rattle.picture_model.specs.declared.request.Track.{Track}
use Rattle.picture_model.specs.declared.request.Track.TheVariants.{Fresh, Done, Typed, UnderWay}
use Rattle.picture_model.specs.declared.request.Visit.{Visit}

-- a tick that may be there, or this one
abbrev pub tick_or : Option ℕ → ℕ → ℕ
tick_or (Some a) tick = a
tick_or None tick = tick

-- Since when a user has waited that is served from this tick on: since the last service that did not do what was asked for; else since
-- the first line that came after the last service, if it came before this one began; else since that service ended, as lines were left.
abbrev pub waited_from : Track → ℕ → ℕ
waited_from Fresh tick = tick
waited_from (Done ended) tick = ended
waited_from (Typed ended line) tick = if nat_le line tick then line else tick_or ended tick
waited_from (UnderWay asked since) tick = since

-- since when has been asked for what the service is for
abbrev pub asked_from : Track → ℕ → ℕ
asked_from (UnderWay asked since) tick = asked
asked_from (Typed ended line) tick = waited_from (Typed ended line) tick
asked_from (Done ended) tick = ended
asked_from Fresh tick = tick

-- whether a service is the first for what is asked for
abbrev pub is_first : Track → Bool
is_first (UnderWay asked since) = false
is_first (Typed ended line) = true
is_first (Done ended) = true
is_first Fresh = true

-- a request is over with the service in which the user waits for a line, has done what it was to do, or comes to the end
abbrev pub ends_request : Cause → Bool
ends_request cause.Time = false
ends_request cause.Wait = true
ends_request cause.Stop = true
ends_request cause.Size = false
ends_request cause.Preempt = false
ends_request cause.End = true

-- behind a line that came at this tick: only the first one counts
abbrev pub typed_at : ℕ → Track → Track
typed_at tick Fresh = Typed None tick
typed_at tick (Done ended) = Typed (Some ended) tick
typed_at tick (Typed ended line) = Typed ended line
typed_at tick (UnderWay asked since) = UnderWay asked since

-- behind an event that was taken as this: a quit or a hang-up leaves nothing to do
abbrev pub taken_as : EventKind → ℕ → Track → Track
taken_as kind.Dial tick t = t
taken_as kind.Line tick t = typed_at tick t
taken_as kind.Quit tick t = Fresh
taken_as kind.Hang tick t = Fresh
taken_as kind.Spent tick t = Fresh

-- after a service that ended at this tick
abbrev pub served_until : Bool → (asked until : ℕ) → Track
served_until true asked until = Done until
served_until false asked until = UnderWay asked until

-- behind one entry more
abbrev pub track_after : ℕ → Track → Entry → Track
track_after u t (Taken tick console kind v own) = if nat_eq v u then taken_as kind tick t else t
track_after u t (Serve tick v level ran cause) =
    if nat_eq v u then served_until (ends_request cause) (asked_from t tick) (tick + ran) else t
track_after u t _ = t

-- a service from this tick on, for so many ticks
abbrev pub visit_at : Track → (tick ran : ℕ) → Cause → Visit
visit_at t tick ran cause = record {
  waited = waited_from t tick;
  from = tick;
  until = tick + ran;
  asked = asked_from t tick;
  is_first = is_first t;
  is_last = ends_request cause;
}

-- the visit that an entry is, for this user
abbrev pub visit_of : ℕ → Track → Entry → List Visit
visit_of u t (Serve tick v level ran cause) = if nat_eq v u then visit_at t tick ran cause ∷ [] else []
visit_of u t _ = []

-- all visits of a user, from a place of the schedule on
abbrev pub visits_from : ℕ → Track → List Entry → List Visit
visits_from u t [] = []
visits_from u t (e ∷ es) = visit_of u t e ++ visits_from u (track_after u t e) es

abbrev pub visits : ℕ → List Entry → List Visit
visits u es = visits_from u Fresh es
