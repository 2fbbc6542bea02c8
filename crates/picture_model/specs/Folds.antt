-- claim: places of a picture. A place is a tick, less the idle time that is cut out before it.
use Rattle.std.specs.Prelude.{ℕ, ◌+◌, ◌-◌, ◌*◌, nat_le, if◌then◌else◌, List, [], ◌∷◌}
use Rattle.ctss_types.specs.declared.script.Script.{Script}
use Rattle.ctss_types.specs.declared.history.Record.{Record}
use Rattle.ctss_types.specs.declared.history.Entry.{Entry}
use Rattle.ctss_types.specs.declared.history.Entry.TheVariants.{Idle, Swap, Serve}
use Rattle.system_model.specs.Record.{record_of}
use Rattle.record_laws.specs.Spans.{Span, JoinFrom}

-- how many ticks of one idle time are shown, at most
abbrev pub most_idle : ℕ
most_idle = 52

-- how many ticks are cut out of what an entry covers: what an idle time has beyond those
abbrev pub cut_of : Entry → ℕ
cut_of (Idle from until) = (until - from) - most_idle
cut_of _ = 0

-- an entry, and how many ticks are cut out before it
pub record Placed : Type 0 where
  pub cut : ℕ
  pub entry : Entry

-- the entries, where so many ticks are cut out before the first
abbrev pub placed_from : ℕ → List Entry → List Placed
placed_from cut [] = []
placed_from cut (e ∷ es) = record { cut = cut; entry = e } ∷ placed_from (cut + cut_of e) es

-- the entries of a schedule
abbrev pub placed : List Entry → List Placed
placed es = placed_from 0 es

-- how many ticks are cut out of them all
abbrev pub all_cut : List Entry → ℕ
all_cut [] = 0
all_cut (e ∷ es) = cut_of e + all_cut es

-- how many places a record has
abbrev pub places_in : Record → ℕ
places_in rec = rec.clock - all_cut rec.entries

-- how many ticks are cut out before a place: those of the idle times that end there or before
abbrev pub cut_before : ℕ → ℕ → List Entry → ℕ
cut_before place cut [] = cut
cut_before place cut (Idle from until ∷ es) =
    if nat_le (until - (cut + cut_of (Idle from until))) place
    then cut_before place (cut + cut_of (Idle from until)) es else cut
cut_before place cut (_ ∷ es) = cut_before place cut es

-- the tick at a place
abbrev pub tick_at : ℕ → List Entry → ℕ
tick_at place es = place + cut_before place 0 es

-- the places that services, loads and idle times take
abbrev pub place_spans : (swap cut : ℕ) → List Entry → List Span
place_spans swap cut [] = []
place_spans swap cut (Serve tick user level ran cause ∷ es) =
    record { from = tick - cut; until = (tick - cut) + ran } ∷ place_spans swap cut es
place_spans swap cut (Swap tick user dumped read fresh ∷ es) =
    record { from = tick - cut; until = (tick - cut) + swap * (dumped + read) } ∷ place_spans swap cut es
place_spans swap cut (Idle from until ∷ es) =
    record { from = from - cut; until = (from - cut) + ((until - from) - cut_of (Idle from until)) }
    ∷ place_spans swap (cut + cut_of (Idle from until)) es
place_spans swap cut (_ ∷ es) = place_spans swap cut es

-- In the picture of every script's record these join end to end, from place 0 to its last: none overlaps another, and no place is left out.
-- A tick takes one place, but for those that are cut out of idle times.
abbrev pub PlacesJoin : Type 0
PlacesJoin =
    (script : Script) →
    JoinFrom 0 (place_spans script.params.swap 0 (record_of script).entries) (places_in (record_of script))
