-- claim: where reading a connection within one turn may stop, and what was read of it.
use Rattle.std.specs.Prelude.{◌≡◌, ℕ, ◌-◌, ◌<◌, ◌≤◌, Bool, true, false, List, [], ◌∷◌, length, map}
use Rattle.std.specs.List.{flat_map}
use Rattle.ctss_types.specs.declared.script.Event.{Event}
use Rattle.ctss_types.specs.declared.script.Timed.{Timed}
use Rattle.console_wire.specs.Items.{half_of, items_from, piece_from}
use Rattle.console_link.specs.declared.link.LinkGot.{LinkGot}
use Rattle.console_link.specs.declared.link.LinkGot.TheVariants as got
use Rattle.console_link.specs.Links.{LinkSeen, Done, DidRead, Did}
use Rattle.live_core.specs.Core.{CoreCall}
use Rattle.console_server.specs.Given.{IsGiven, IsGivenPart}

-- a read's answer, with the bytes that it gave
pub record Gave : Type 0 where
  pub answer : LinkGot
  pub bytes : List ℕ

abbrev pub bytes_of : List Gave → List ℕ
bytes_of reads = flat_map (λ (r : Gave). r.bytes) reads

abbrev pub did_read : ℕ → Gave → Done
did_read id r = DidRead id r.answer r.bytes

-- a link after these calls
pub data DidAll : List Done → LinkSeen → LinkSeen → Type 0 where
  Nothing : (s : LinkSeen) → DidAll [] s s
  Then : (d : Done) (ds : List Done) (s t u : LinkSeen) → Did d s t → DidAll ds t u → DidAll (d ∷ ds) s u

-- A read of a connection of which so many bytes may come yet: bytes, and then it goes on; or not ready; or the end of the
-- connection. Reading stops at no other place.
abbrev pub MayStop : LinkGot → ℕ → List ℕ → (ℕ → Type 0) → Type 0 → Bool → Type 0
MayStop (got.Bytes n) left bytes goes_on stops over = (1 ≤ n) × (n ≤ left) × (length bytes ≡ n) × goes_on (left - n)
MayStop got.End left bytes goes_on stops over = (bytes ≡ []) × (over ≡ true) × stops
MayStop got.NotYet left bytes goes_on stops over = (bytes ≡ []) × (over ≡ false) × stops
MayStop got.Failed left bytes goes_on stops over = (bytes ≡ []) × (over ≡ true) × stops

abbrev pub IsReading : Bool → List Gave → ℕ → Type 0
IsReading over [] left = (left ≡ 0) × (over ≡ false)
IsReading over (r ∷ reads) left = (0 < left) × MayStop r.answer left r.bytes (IsReading over reads) (reads ≡ []) over

-- reads that gave bytes, up to where so many may come yet
abbrev pub GoesOn : LinkGot → ℕ → List ℕ → (ℕ → Type 0) → Type 0
GoesOn (got.Bytes n) left bytes goes_on = (1 ≤ n) × (n ≤ left) × (length bytes ≡ n) × goes_on (left - n)
GoesOn got.End left bytes goes_on = true ≡ false
GoesOn got.NotYet left bytes goes_on = true ≡ false
GoesOn got.Failed left bytes goes_on = true ≡ false

abbrev pub ReadsOn : List Gave → ℕ → ℕ → Type 0
ReadsOn [] left rest = left ≡ rest
ReadsOn (r ∷ reads) left rest = (0 < left) × GoesOn r.answer left r.bytes (λ n. ReadsOn reads n rest)

abbrev pub timed : ℕ → ℕ → Event → Timed
timed tick console event = record { tick = tick; console = console; event = event }

abbrev pub all_timed : ℕ → ℕ → List Event → List Timed
all_timed tick console events = map (timed tick console) events

-- A connection was read in a turn. The console's half line was that of a piece; the events of the lines and quits that
-- these bytes completed were given, in order.
pub record Drained {C : Type 0} (goes : C → List CoreCall → C → Type 0) (tick console id : ℕ) (piece : List ℕ) (over : Bool) (link_had link_has : LinkSeen) (core_had core_has : C) (had has : List Timed) (half : List ℕ) : Type 0 where
  pub reads : List Gave
  pub lawful : IsReading over reads 1024
  pub link : DidAll (map (did_read id) reads) link_had link_has
  pub core : IsGiven goes (all_timed tick console (items_from piece (bytes_of reads))) core_had core_has had has
  pub half_is : half ≡ half_of (piece_from piece (bytes_of reads))

-- memory lacked on the way: a beginning of these events was given
pub record DrainedPart {C : Type 0} (goes : C → List CoreCall → C → Type 0) (tick console id : ℕ) (piece : List ℕ) (link_had link_has : LinkSeen) (core_had core_has : C) (had has : List Timed) : Type 0 where
  pub reads : List Gave
  pub goes_on : (left : ℕ) × ReadsOn reads 1024 left
  pub link : DidAll (map (did_read id) reads) link_had link_has
  pub core : IsGivenPart goes (all_timed tick console (items_from piece (bytes_of reads))) core_had core_has had has

-- a connection while it is read, from which so many bytes may come yet
pub record ReadSoFar {C : Type 0} (goes : C → List CoreCall → C → Type 0) (tick console id : ℕ) (piece : List ℕ) (left : ℕ) (link_had link_has : LinkSeen) (core_had core_has : C) (had has : List Timed) (half : List ℕ) : Type 0 where
  pub reads : List Gave
  pub goes_on : ReadsOn reads 1024 left
  pub link : DidAll (map (did_read id) reads) link_had link_has
  pub core : IsGiven goes (all_timed tick console (items_from piece (bytes_of reads))) core_had core_has had has
  pub half_is : half ≡ half_of (piece_from piece (bytes_of reads))
