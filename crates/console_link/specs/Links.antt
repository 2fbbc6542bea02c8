-- claim: what contracts see of a link, and what each of its calls does to that.
use Rattle.std.specs.Prelude.{◌≡◌, ℕ, ◌-◌, ◌≤◌, Bool, true, false, nat_eq, if◌then◌else◌, List, [], ◌∷◌, ◌++◌, take, Option, None, Some}
use Rattle.std.specs.List.{list_any}
use Rattle.faults.specs.Faults.{Rose}
use Rattle.console_link.specs.declared.link.CallMade.{CallMade}
use Rattle.console_link.specs.declared.link.CallMade.TheVariants as made
use Rattle.console_link.specs.declared.link.Accepted.{Accepted}
use Rattle.console_link.specs.declared.link.Accepted.TheVariants as accepted
use Rattle.console_link.specs.declared.link.LinkGot.{LinkGot}
use Rattle.console_link.specs.declared.link.LinkGot.TheVariants as got
use Rattle.console_link.specs.declared.link.LinkTook.{LinkTook}
use Rattle.console_link.specs.declared.link.LinkTook.TheVariants as took

-- the bytes that passed over a connection
pub record Passed : Type 0 where
  pub taken : List ℕ
  pub sent : List ℕ

abbrev pub nothing_passed : Passed
nothing_passed = record { taken = []; sent = [] }

-- how often calls on a connection failed, and how often reads and writes were not ready
pub record Counts : Type 0 where
  pub faults : ℕ
  pub read_waits : ℕ
  pub write_waits : ℕ

-- the calls made, and the room for further ones
pub record CallList : Type 0 where
  pub made : List CallMade
  pub room : ℕ

-- one more call, told where calls are told and there is room
abbrev pub with_call : Option CallList → CallMade → Option CallList
with_call None call = None
with_call (Some calls) call =
    if nat_eq calls.room 0 then None else Some (record { made = calls.made ++ call ∷ []; room = calls.room - 1 })

-- all that contracts see of a link: which numbers are open connections, the counts of each and of the listener, the calls; and
-- where it tells its bytes, the numbers that it gave, and of each of them what passed and whether it is over
pub record LinkSeen : Type 0 where
  pub is_open : ℕ → Bool
  pub counts : ℕ → Counts
  pub faults : ℕ
  pub waits : ℕ
  pub calls : Option CallList
  pub tells : Bool
  pub numbers : List ℕ
  pub passed : ℕ → Passed
  pub is_over : ℕ → Bool

-- a call with its answer and the bytes that passed
pub data Done : Type 0 where
  DidOpen : (port : ℕ) → (failed : Bool) → Done
  DidAccept : (answer : Accepted) → Done
  DidRead : (id : ℕ) → (answer : LinkGot) → (bytes : List ℕ) → Done
  DidWrite : (id : ℕ) → (answer : LinkTook) → (bytes : List ℕ) → Done
  DidClose : (id : ℕ) → Done
  DidWait : (millis : ℕ) → (failed : Bool) → Done

abbrev pub call_of : Done → CallMade
call_of (DidOpen port failed) = made.Open port failed
call_of (DidAccept answer) = made.Accept answer
call_of (DidRead id answer bytes) = made.Read id answer
call_of (DidWrite id answer bytes) = made.Write id answer
call_of (DidClose id) = made.Close id
call_of (DidWait millis failed) = made.Wait millis failed

-- the bytes that a read gave, of its buffer
abbrev pub given : LinkGot → List ℕ → List ℕ
given (got.Bytes n) buffer = take n buffer
given got.End buffer = []
given got.NotYet buffer = []
given got.Failed buffer = []

abbrev pub GotFits : LinkGot → ℕ → Type 0
GotFits (got.Bytes n) room = (1 ≤ n) × (n ≤ room)
GotFits got.End room = Unit {0}
GotFits got.NotYet room = Unit {0}
GotFits got.Failed room = Unit {0}

-- the bytes that a write took, of its piece
abbrev pub bytes_taken : LinkTook → List ℕ → List ℕ
bytes_taken (took.Bytes n) piece = take n piece
bytes_taken took.NotYet piece = []
bytes_taken took.Failed piece = []

abbrev pub TookFits : LinkTook → ℕ → Type 0
TookFits (took.Bytes n) size = (1 ≤ n) × (n ≤ size)
TookFits took.NotYet size = Unit {0}
TookFits took.Failed size = Unit {0}

-- the number of a new connection, if any
abbrev pub new_of : Accepted → Option ℕ
new_of (accepted.New id) = Some id
new_of accepted.NotYet = None
new_of accepted.Failed = None

abbrev pub accepts : Done → Option ℕ
accepts (DidOpen port failed) = None
accepts (DidAccept answer) = new_of answer
accepts (DidRead id answer bytes) = None
accepts (DidWrite id answer bytes) = None
accepts (DidClose id) = None
accepts (DidWait millis failed) = None

abbrev pub if_new : {X : Type 0} → Option ℕ → ℕ → X → X → X
if_new None k x was = was
if_new (Some id) k x was = if nat_eq k id then x else was

-- which connections are open after a call
abbrev pub open_after : Done → ℕ → Bool → Bool
open_after (DidOpen port failed) k was = was
open_after (DidAccept answer) k was = if_new (new_of answer) k true was
open_after (DidRead id answer bytes) k was = was
open_after (DidWrite id answer bytes) k was = was
open_after (DidClose id) k was = if nat_eq k id then false else was
open_after (DidWait millis failed) k was = was

-- what has passed over a connection after a call
abbrev pub passed_after : Done → ℕ → Passed → Passed
passed_after (DidOpen port failed) k was = was
passed_after (DidAccept answer) k was = if_new (new_of answer) k nothing_passed was
passed_after (DidRead id answer bytes) k was = if nat_eq k id then record was { taken = was.taken ++ bytes } else was
passed_after (DidWrite id answer bytes) k was = if nat_eq k id then record was { sent = was.sent ++ bytes } else was
passed_after (DidClose id) k was = was
passed_after (DidWait millis failed) k was = was

abbrev pub numbers_after : Option ℕ → List ℕ → List ℕ
numbers_after None was = was
numbers_after (Some id) was = was ++ id ∷ []

-- the number of a new connection is that of none that is open, and where bytes are told it was never given
abbrev pub IsFresh : Option ℕ → LinkSeen → Type 0
IsFresh None s = Unit {0}
IsFresh (Some id) s = (s.is_open id ≡ false) × (s.tells ≡ true → list_any (λ n. nat_eq n id) s.numbers ≡ false)

-- how calls bear on counts

abbrev pub got_failed : LinkGot → Bool
got_failed (got.Bytes n) = false
got_failed got.End = false
got_failed got.NotYet = false
got_failed got.Failed = true

abbrev pub got_waits : LinkGot → Bool
got_waits (got.Bytes n) = false
got_waits got.End = false
got_waits got.NotYet = true
got_waits got.Failed = false

abbrev pub took_failed : LinkTook → Bool
took_failed (took.Bytes n) = false
took_failed took.NotYet = false
took_failed took.Failed = true

abbrev pub took_waits : LinkTook → Bool
took_waits (took.Bytes n) = false
took_waits took.NotYet = true
took_waits took.Failed = false

abbrev pub accept_failed : Accepted → Bool
accept_failed (accepted.New id) = false
accept_failed accepted.NotYet = false
accept_failed accepted.Failed = true

abbrev pub accept_waits : Accepted → Bool
accept_waits (accepted.New id) = false
accept_waits accepted.NotYet = true
accept_waits accepted.Failed = false

-- the connection that a call names, if any
abbrev pub names : Done → Option ℕ
names (DidOpen port failed) = None
names (DidAccept answer) = None
names (DidRead id answer bytes) = Some id
names (DidWrite id answer bytes) = Some id
names (DidClose id) = Some id
names (DidWait millis failed) = None

abbrev pub is_at : Option ℕ → ℕ → Bool
is_at None k = false
is_at (Some id) k = nat_eq k id

abbrev pub is_none : Option ℕ → Bool
is_none None = true
is_none (Some id) = false

abbrev pub is_failed : Done → Bool
is_failed (DidOpen port failed) = failed
is_failed (DidAccept answer) = accept_failed answer
is_failed (DidRead id answer bytes) = got_failed answer
is_failed (DidWrite id answer bytes) = took_failed answer
is_failed (DidClose id) = false
is_failed (DidWait millis failed) = failed

abbrev pub reads_at : Done → ℕ → Bool
reads_at (DidOpen port failed) k = false
reads_at (DidAccept answer) k = false
reads_at (DidRead id answer bytes) k = nat_eq k id
reads_at (DidWrite id answer bytes) k = false
reads_at (DidClose id) k = false
reads_at (DidWait millis failed) k = false

abbrev pub writes_at : Done → ℕ → Bool
writes_at (DidOpen port failed) k = false
writes_at (DidAccept answer) k = false
writes_at (DidRead id answer bytes) k = false
writes_at (DidWrite id answer bytes) k = nat_eq k id
writes_at (DidClose id) k = false
writes_at (DidWait millis failed) k = false

abbrev pub is_accept : Done → Bool
is_accept (DidOpen port failed) = false
is_accept (DidAccept answer) = true
is_accept (DidRead id answer bytes) = false
is_accept (DidWrite id answer bytes) = false
is_accept (DidClose id) = false
is_accept (DidWait millis failed) = false

abbrev pub not_yet : Done → Bool
not_yet (DidOpen port failed) = false
not_yet (DidAccept answer) = accept_waits answer
not_yet (DidRead id answer bytes) = got_waits answer
not_yet (DidWrite id answer bytes) = took_waits answer
not_yet (DidClose id) = false
not_yet (DidWait millis failed) = false

-- a count that a call may raise or not, and has to have raised or not
abbrev pub Rises : (may must : Bool) → ℕ → ℕ → Type 0
Rises false must old new = new ≡ old
Rises true false old new = old ≤ new
Rises true true old new = (old ≤ new) × Rose old new

pub record Counted (d : Done) (k : ℕ) (old new : Counts) : Type 0 where
  pub faults : Rises (is_at (names d) k) (is_failed d) old.faults new.faults
  pub read_waits : Rises (reads_at d k) (not_yet d) old.read_waits new.read_waits
  pub write_waits : Rises (writes_at d k) (not_yet d) old.write_waits new.write_waits

-- a read that found the end found a connection that is over
abbrev pub IsOver : Done → LinkSeen → Type 0
IsOver (DidOpen port failed) s = Unit {0}
IsOver (DidAccept answer) s = Unit {0}
IsOver (DidRead id (got.Bytes n) bytes) s = Unit {0}
IsOver (DidRead id got.End bytes) s = s.is_over id ≡ true
IsOver (DidRead id got.NotYet bytes) s = Unit {0}
IsOver (DidRead id got.Failed bytes) s = Unit {0}
IsOver (DidWrite id answer bytes) s = Unit {0}
IsOver (DidClose id) s = Unit {0}
IsOver (DidWait millis failed) s = Unit {0}

-- what is told of bytes, before and after a call
pub record Tells (d : Done) (old new : LinkSeen) : Type 0 where
  pub numbers : new.numbers ≡ numbers_after (accepts d) old.numbers
  pub passed : (k : ℕ) → new.passed k ≡ passed_after d k (old.passed k)
  pub over : (k : ℕ) → old.is_over k ≡ true → new.is_over k ≡ true
  pub ended : IsOver d new

-- a link before and after a call
pub record Did (d : Done) (old new : LinkSeen) : Type 0 where
  pub opens : (k : ℕ) → new.is_open k ≡ open_after d k (old.is_open k)
  pub fresh : IsFresh (accepts d) old
  pub counts : (k : ℕ) → Counted d k (old.counts k) (new.counts k)
  pub faults : Rises (is_none (names d)) (is_failed d) old.faults new.faults
  pub waits : Rises (is_accept d) (not_yet d) old.waits new.waits
  pub calls : new.calls ≡ with_call old.calls (call_of d)
  pub tells : new.tells ≡ old.tells
  pub bytes : old.tells ≡ true → Tells d old new
