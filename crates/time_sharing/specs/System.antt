-- claim: the machine of all users: one private state per user, a list of common files, and a plan that says whom to serve.
use Rattle.std.specs.Prelude.{ℕ, zero, suc, ◌+◌, min, Bool, true, false, if◌then◌else◌, nat_eq, nat_lt, nat_le, List, [], ◌∷◌, ◌++◌, map, Option, Some, None, get_or, set}
use Rattle.time_sharing.specs.Machine.{Machine, CutKind, Quit, Hang, Spent, End, Ending, Went, Stopped, Resized, Replaced, LoggedOut, Line, CommonOp, Reply, Done}
pub use Rattle.ctss_types.specs.declared.history.Cause.{Cause}
pub use Rattle.ctss_types.specs.declared.history.Cause.TheVariants.{Time, Wait, Stop, Size, Preempt, End as AtEnd}
pub use Rattle.ctss_types.specs.declared.history.EventKind.{EventKind}
pub use Rattle.ctss_types.specs.declared.history.EventKind.TheVariants.{Dial as DialTaken, Line as LineTaken, Quit as QuitTaken, Hang as HangTaken, Spent as SpentTaken}
pub use Rattle.ctss_types.specs.declared.history.Entry.{Entry}
pub use Rattle.ctss_types.specs.declared.history.Entry.TheVariants.{Taken, Login, Refused, Idle, Swap, Rise, Serve, Clock, Common}
pub use Rattle.ctss_types.specs.declared.script.Event.{Event}
pub use Rattle.ctss_types.specs.declared.script.Event.TheVariants.{Dial as Dials, Line as Types, Quit as Quits, Hang as Hangs}
pub use Rattle.ctss_types.specs.declared.session.Console.{Console}
pub use Rattle.ctss_types.specs.declared.session.Console.TheVariants.{Off, On, Password, Session}
pub use Rattle.ctss_types.specs.declared.script.Timed.{Timed}
pub use Rattle.ctss_types.specs.declared.session.Service.{Service}

pub record Move : Type 0 where
  pub ticks : ℕ
  pub dumped : ℕ
  pub read : ℕ
  pub fresh : ℕ

-- What is round the private machines: whom to serve and when, which loads, which logins, which common files.
-- Of the plan nothing is asked for isolation. What changes it gets the clock.
pub record World (State Plan Files : Type 0) : Type 0 where
  -- whom to serve, at which level, and whether the user has time left after one more tick
  pub choose : Plan → Option ℕ
  pub level : Plan → ℕ → ℕ
  pub time_left : Plan → ℕ → Bool
  -- who rises, and to which level, if anyone does: of those that have waited long enough, but never the user whose service is open
  pub rises : Plan → (served : Option ℕ) → (now : ℕ) → Option (ℕ × ℕ)
  -- whether a user has to be loaded, what the load does, and what is moved by it
  pub must_load : Plan → ℕ → State → Bool
  pub load : Plan → ℕ → State → (now : ℕ) → Plan
  pub move : Plan → ℕ → State → Move
  -- the levels of all users, summed
  pub sum_of_levels : Plan → ℕ
  -- a user that rises to a level; a tick of a user; a preempted user; a service that ended by a cause
  pub risen : Plan → ℕ → (level : ℕ) → (now : ℕ) → Plan
  pub charged : Plan → ℕ → (now : ℕ) → Plan
  pub preempted : Plan → ℕ → (now : ℕ) → Plan
  pub leaves : Plan → ℕ → Cause → State → (now : ℕ) → Plan
  -- after a step, what the user no longer needs is given up
  pub gave_up : Plan → ℕ → State → Ending → (now : ℕ) → Plan
  -- a line came, or a cut; the states are the user's before, and for a line also after
  pub line_came : Plan → ℕ → State → State → (now : ℕ) → Plan
  pub cut_came : Plan → ℕ → CutKind → State → (now : ℕ) → Plan
  -- the common files
  pub files_after : Files → CommonOp → Files
  pub reply_to : Files → CommonOp → Reply
  -- the name that a line asks to log in, and the user of a name and a line with a password
  pub asked : Line → Option ℕ
  pub check : ℕ → Line → Option ℕ
  -- what stands for a number that is no user's
  pub nobody : State

pub record SystemState (State Plan Files : Type 0) : Type 0 where
  pub users : List State
  pub files : Files
  pub plan : Plan
  pub consoles : List Console
  pub clock : ℕ
  pub events : List Timed
  pub service : Option Service
  pub idling : Option ℕ
  pub entries : List Entry

-- the n-th, from 1 on
abbrev pub at : {A : Type 0} → A → List A → ℕ → A
at d xs zero = d
at d xs (suc n) = get_or xs n d

abbrev pub put : {A : Type 0} → List A → ℕ → A → List A
put xs zero a = xs
put xs (suc n) a = set xs n a

-- as what a cut is taken; the end of a record is no event
abbrev pub kind_of : CutKind → EventKind
kind_of Quit = QuitTaken
kind_of Hang = HangTaken
kind_of Spent = SpentTaken
kind_of End = SpentTaken

-- u's session is over
abbrev pub out_of : ℕ → Console → Console
out_of u Off = Off
out_of u On = On
out_of u (Password name) = Password name
out_of u (Session v) = if nat_eq v u then On else Session v

abbrev pub without : ℕ → List Console → List Console
without u consoles = map (out_of u) consoles

-- the most lines that a session keeps
abbrev pub max_lines : ℕ
max_lines = 2048

abbrev pub consoles_cut : CutKind → ℕ → ℕ → List Console → List Console
consoles_cut Quit c u cs = cs
consoles_cut Hang c u cs = put (without u cs) c Off
consoles_cut Spent c u cs = without u cs
consoles_cut End c u cs = cs

abbrev pub next_tick : ℕ → List Timed → ℕ
next_tick limit [] = limit
next_tick limit (e ∷ es) = min e.tick limit

abbrev pub cause_of : Ending → Bool → Option Cause
cause_of Went true = None
cause_of Went false = Some Time
cause_of Stopped left = Some Stop
cause_of Resized left = Some Size
cause_of Replaced left = Some Size
cause_of LoggedOut left = Some Stop

-- the user whose service is open
abbrev pub served_of : Option Service → Option ℕ
served_of None = None
served_of (Some v) = Some v.user

abbrev pub service_after : Service → Option Cause → Option Service
service_after v None = Some (record v { ran = suc v.ran })
service_after v (Some cause) = None

abbrev pub service_entry : Service → Option Cause → List Entry
service_entry v None = []
service_entry v (Some cause) = Serve v.tick v.user v.level (suc v.ran) cause ∷ []

abbrev pub clock_entry : Bool → ℕ → ℕ → List Entry
clock_entry false t u = []
clock_entry true t u = Clock t u ∷ []

abbrev pub common_entry : Option CommonOp → ℕ → Reply → List Entry
common_entry None u r = []
common_entry (Some op) u r = Common u op r ∷ []

abbrev pub consoles_after : Ending → ℕ → List Console → List Console
consoles_after LoggedOut u cs = without u cs
consoles_after Went u cs = cs
consoles_after Stopped u cs = cs
consoles_after Resized u cs = cs
consoles_after Replaced u cs = cs

-- the clock answer where the step asks for one, else 0
abbrev pub clock_for : Bool → ℕ → ℕ
clock_for false t = 0
clock_for true t = t

module _ {S P F : Type 0} (m : Machine S) (w : World S P F) where
  abbrev pub state_of : SystemState S P F → ℕ → S
  state_of s u = at w.nobody s.users u

  abbrev pub noted : List Entry → SystemState S P F → SystemState S P F
  noted es s = record s { entries = s.entries ++ es }

  abbrev pub end_service : Cause → Service → SystemState S P F → SystemState S P F
  end_service cause v s = record s { service = None; entries = s.entries ++ Serve v.tick v.user v.level v.ran cause ∷ [] }

  -- B. a preemption
  abbrev pub preempt : Service → SystemState S P F → SystemState S P F
  preempt v s = record (end_service Preempt v s) { plan = w.preempted s.plan v.user s.clock }

  abbrev pub end_idling_of : Option ℕ → SystemState S P F → SystemState S P F
  end_idling_of None s = s
  end_idling_of (Some from) s = record s { idling = None; entries = s.entries ++ Idle from s.clock ∷ [] }

  -- A. events

  abbrev pub stop_served_of : Option Service → ℕ → SystemState S P F → SystemState S P F
  stop_served_of None u s = s
  stop_served_of (Some v) u s = if nat_eq v.user u then end_service Stop v s else s

  abbrev pub stop_served : ℕ → SystemState S P F → SystemState S P F
  stop_served u s = stop_served_of s.service u s

  -- a quit, a hang or a spent session of u
  abbrev pub cut_at : CutKind → ℕ → ℕ → SystemState S P F → SystemState S P F
  cut_at kind c u s =
      record s {
        users = put s.users u (m.cut kind (state_of s u));
        plan = w.cut_came s.plan u kind (state_of s u) s.clock;
        consoles = consoles_cut kind c u s.consoles;
        entries = s.entries ++ Taken s.clock c (kind_of kind) u (m.own (state_of s u)) ∷ [];
      }

  abbrev pub line_at : ℕ → ℕ → Line → SystemState S P F → SystemState S P F
  line_at c u l s =
      record s {
        users = put s.users u (m.typed (state_of s u) l);
        plan = w.line_came s.plan u (state_of s u) (m.typed (state_of s u) l) s.clock;
        entries = s.entries ++ Taken s.clock c LineTaken u (m.own (state_of s u)) ∷ [];
      }

  -- an event that no session hears
  abbrev pub heard : ℕ → EventKind → Console → List Entry → SystemState S P F → SystemState S P F
  heard c kind now more s = record s { consoles = put s.consoles c now; entries = s.entries ++ Taken s.clock c kind 0 0 ∷ more }

  abbrev pub asks_in : ℕ → Option ℕ → SystemState S P F → SystemState S P F
  asks_in c None s = heard c LineTaken On (Refused s.clock c 1 ∷ []) s
  asks_in c (Some name) s = heard c LineTaken (Password name) [] s

  abbrev pub opens : ℕ → ℕ → SystemState S P F → SystemState S P F
  opens c u s = record (heard c LineTaken (Session u) (Login s.clock c u ∷ []) s) { users = put s.users u (m.opened (state_of s u)) }

  abbrev pub logs_in : ℕ → Option ℕ → SystemState S P F → SystemState S P F
  logs_in c None s = heard c LineTaken On (Refused s.clock c 1 ∷ []) s
  logs_in c (Some u) s = if m.is_open (state_of s u) then heard c LineTaken On (Refused s.clock c 2 ∷ []) s else opens c u s

  abbrev pub at_console : ℕ → Console → Event → SystemState S P F → SystemState S P F
  at_console c Off Dials s = heard c DialTaken On [] s
  at_console c Off (Types l) s = heard c LineTaken Off [] s
  at_console c Off Quits s = heard c QuitTaken Off [] s
  at_console c Off Hangs s = heard c HangTaken Off [] s
  at_console c On Dials s = heard c DialTaken On [] s
  at_console c On (Types l) s = asks_in c (w.asked l) s
  at_console c On Quits s = heard c QuitTaken On [] s
  at_console c On Hangs s = heard c HangTaken Off [] s
  at_console c (Password name) Dials s = heard c DialTaken (Password name) [] s
  at_console c (Password name) (Types l) s = logs_in c (w.check name l) s
  at_console c (Password name) Quits s = heard c QuitTaken On [] s
  at_console c (Password name) Hangs s = heard c HangTaken Off [] s
  at_console c (Session u) Dials s = noted (Taken s.clock c DialTaken u (m.own (state_of s u)) ∷ []) s
  at_console c (Session u) (Types l) s = if nat_lt (m.lines (state_of s u)) max_lines then line_at c u l s else cut_at Spent c u (stop_served u s)
  at_console c (Session u) Quits s = cut_at Quit c u (stop_served u s)
  at_console c (Session u) Hangs s = cut_at Hang c u (stop_served u s)

  abbrev pub taken : Timed → List Timed → SystemState S P F → SystemState S P F
  taken e rest s =
      let t = end_idling_of s.idling (record s { events = rest }) in
      at_console e.console (at Off t.consoles e.console) e.event t

  -- from where idling began, if it has, or from now on
  abbrev pub idle_from : Option ℕ → ℕ → ℕ
  idle_from None now = now
  idle_from (Some from) now = from

  abbrev pub idled : ℕ → SystemState S P F → SystemState S P F
  idled limit s = record s { clock = next_tick limit s.events; idling = Some (idle_from s.idling s.clock) }

  -- D. a load
  abbrev pub swapped : ℕ → SystemState S P F → SystemState S P F
  swapped u s =
      let o = w.move s.plan u (state_of s u) in
      record s {
        plan = w.load s.plan u (state_of s u) s.clock;
        clock = s.clock + o.ticks;
        entries = s.entries ++ Swap s.clock u o.dumped o.read o.fresh ∷ [];
      }

  abbrev pub plan_after : P → ℕ → Option Cause → S → ℕ → P
  plan_after plan u None p now = plan
  plan_after plan u (Some cause) p now = w.leaves plan u cause p now

  abbrev pub reply_for : F → Option CommonOp → Reply
  reply_for files None = Done
  reply_for files (Some op) = w.reply_to files op

  abbrev pub files_for : F → Option CommonOp → F
  files_for files None = files
  files_for files (Some op) = w.files_after files op

  -- a step with these answers, after which the service goes on or ends by a cause
  abbrev pub goes_with : Service → S → ℕ → Reply → Option Cause → SystemState S P F → SystemState S P F
  goes_with v p t r cause s =
      record s {
        users = put s.users v.user (m.step p t r);
        files = files_for s.files (m.asks_common p);
        plan = w.gave_up (plan_after (w.charged s.plan v.user (suc s.clock)) v.user cause (m.step p t r) (suc s.clock)) v.user (m.step p t r) (m.ending p t r) (suc s.clock);
        consoles = consoles_after (m.ending p t r) v.user s.consoles;
        clock = suc s.clock;
        service = service_after v cause;
        entries = s.entries ++ (clock_entry (m.asks_clock p) s.clock v.user ++ (common_entry (m.asks_common p) v.user r ++ service_entry v cause));
      }

  abbrev pub goes : Service → S → SystemState S P F → SystemState S P F
  goes v p s =
      let t = clock_for (m.asks_clock p) s.clock in
      let r = reply_for s.files (m.asks_common p) in
      goes_with v p t r (cause_of (m.ending p t r) (w.time_left s.plan v.user)) s

  -- a read that found no line
  abbrev pub waits : Service → S → SystemState S P F → SystemState S P F
  waits v p s =
      record s {
        plan = w.leaves (w.charged s.plan v.user (suc s.clock)) v.user Wait p (suc s.clock);
        clock = suc s.clock;
        service = None;
        entries = s.entries ++ Serve v.tick v.user v.level (suc v.ran) Wait ∷ [];
      }

  abbrev pub stepped : Service → SystemState S P F → SystemState S P F
  stepped v s = if m.can_step (state_of s v.user) then goes v (state_of s v.user) s else waits v (state_of s v.user) s

  abbrev pub attended : Service → SystemState S P F → SystemState S P F
  attended v s = if w.must_load s.plan v.user (state_of s v.user) then swapped v.user s else stepped v s

  -- B to E
  abbrev pub otherwise : ℕ → Option ℕ → Option Service → SystemState S P F → SystemState S P F
  otherwise limit None None s = idled limit s
  otherwise limit None (Some v) s = preempt v s
  otherwise limit (Some u) None s = attended (record { tick = s.clock; user = u; level = w.level s.plan u; ran = 0 }) s
  otherwise limit (Some u) (Some v) s = if nat_eq v.user u then attended v s else preempt v s

  -- F. a user rises
  abbrev pub rise : ℕ → ℕ → SystemState S P F → SystemState S P F
  rise u l s = record s { plan = w.risen s.plan u l s.clock; entries = s.entries ++ Rise s.clock u l ∷ [] }

  -- F, or else B to E
  abbrev pub quiet_by : ℕ → Option (ℕ × ℕ) → SystemState S P F → SystemState S P F
  quiet_by limit None s = otherwise limit (w.choose s.plan) s.service s
  quiet_by limit (Some x) s = rise x.0 x.1 s

  -- no event is due
  abbrev pub quiet : ℕ → SystemState S P F → SystemState S P F
  quiet limit s = quiet_by limit (w.rises s.plan (served_of s.service) s.clock) s

  -- A, or else F and B to E
  abbrev pub next_by : ℕ → List Timed → SystemState S P F → SystemState S P F
  next_by limit [] s = quiet limit s
  next_by limit (e ∷ rest) s = if nat_le e.tick s.clock then taken e rest s else quiet limit s

  abbrev pub next : ℕ → SystemState S P F → SystemState S P F
  next limit s = next_by limit s.events s

  -- the end of a record
  abbrev pub end_open : Option Service → SystemState S P F → SystemState S P F
  end_open None s = s
  end_open (Some v) s = end_service AtEnd v s

  abbrev pub ended : SystemState S P F → SystemState S P F
  ended s = let t = end_open s.service s in end_idling_of t.idling t
