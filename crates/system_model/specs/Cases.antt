-- claim: each case of a step, field by field.
use Rattle.std.specs.Prelude.{ℕ, suc, ◌+◌, ◌-◌, if◌then◌else◌, nat_eq, List, [], ◌∷◌, ◌++◌, Option, Some, None, drop, set, get_or}
use Rattle.time_sharing.specs.Machine.{Line, CutKind, Quit, Hang, Spent, CommonOp, Reply}
use Rattle.time_sharing.specs.Rows.{machine}
use Rattle.time_sharing.specs.System.{SystemState, Timed, Service, Console, Session, Entry, Taken, Login, Idle, Swap, Serve, EventKind, LineTaken, DialTaken, kind_of, Cause, Stop, Wait, Preempt, AtEnd, without, Off, consoles_after, cause_of, service_after, service_entry, clock_entry, common_entry, next_tick}
use Rattle.user_model.specs.Session.{user_rows, nobody}
use Rattle.user_model.specs.Inner.{blocks_of}
use Rattle.user_model.specs.User.{User, typed, opened, cut, step, ending, asks_clock, asks_common}
use Rattle.plan_model.specs.Levels.{Levels, has_time, charged, dropped, woken, preempted}
use Rattle.plan_model.specs.Plan.{with_load, move_of, places_after, places_cut}
use Rattle.time_sharing.specs.System as theory
use Rattle.ctss_types.specs.declared.file.FileBody.{FileBody}
use Rattle.system_model.specs.World.{leaves, line_blocks}
use Rattle.system_model.specs.Run.{world, Run}

abbrev pub user_at : ℕ → List User → User
user_at u users = get_or users (u - 1) nobody

abbrev pub with_user : ℕ → User → List User → List User
with_user u p users = set users (u - 1) p

abbrev pub idle_notes : Option ℕ → ℕ → List Entry
idle_notes None now = []
idle_notes (Some from) now = Idle from now ∷ []

-- from where idling began
abbrev pub idle_start : Option ℕ → ℕ → ℕ
idle_start None now = now
idle_start (Some from) now = from

abbrev pub stop_notes : Option Service → ℕ → List Entry
stop_notes None u = []
stop_notes (Some v) u = if nat_eq v.user u then Serve v.tick v.user v.level v.ran Stop ∷ [] else []

abbrev pub not_served : Option Service → ℕ → Option Service
not_served None u = None
not_served (Some v) u = if nat_eq v.user u then None else Some v

-- an event that no session hears
unfoldable pub heard : ℕ → EventKind → Console → List Entry → Run → Run
heard c kind now more r =
    record r {
      system = record r.system {
        events = drop 1 r.system.events;
        idling = None;
        consoles = set r.system.consoles (c - 1) now;
        entries = r.system.entries ++ (idle_notes r.system.idling r.system.clock ++ Taken r.system.clock c kind 0 0 ∷ more);
      };
    }

-- a line in a session
unfoldable pub line_taken : ℕ → ℕ → Line → Run → Run
line_taken c u l r =
    record r {
      system = record r.system {
        users = with_user u (typed l (user_at u r.system.users)) r.system.users;
        plan = record r.system.plan { levels = woken (line_blocks (user_at u r.system.users)) u r.system.clock r.system.plan.levels };
        events = drop 1 r.system.events;
        idling = None;
        entries = r.system.entries ++ (idle_notes r.system.idling r.system.clock ++ Taken r.system.clock c LineTaken u (user_at u r.system.users).own ∷ []);
      };
    }

-- a hang, or a line too much
abbrev pub cut_taken : CutKind → ℕ → ℕ → List Console → Run → Run
cut_taken kind c u consoles r =
    record r {
      system = record r.system {
        users = with_user u (cut kind (user_at u r.system.users)) r.system.users;
        plan = record r.system.plan { levels = dropped u r.system.plan.levels; places = places_cut kind u r.system.plan.places };
        consoles = consoles;
        events = drop 1 r.system.events;
        idling = None;
        service = not_served r.system.service u;
        entries = r.system.entries ++ (idle_notes r.system.idling r.system.clock ++ (stop_notes r.system.service u ++ Taken r.system.clock c (kind_of kind) u (user_at u r.system.users).own ∷ []));
      };
    }

unfoldable pub hang_taken : ℕ → ℕ → Run → Run
hang_taken c u r = cut_taken Hang c u (set (without u r.system.consoles) (c - 1) Off) r

unfoldable pub spent_taken : ℕ → ℕ → Run → Run
spent_taken c u r = cut_taken Spent c u (without u r.system.consoles) r

-- a quit in a session
unfoldable pub quit_taken : ℕ → ℕ → Run → Run
quit_taken c u r = cut_taken Quit c u r.system.consoles r

-- a session begins
unfoldable pub login_taken : ℕ → ℕ → Run → Run
login_taken c u r =
    record r {
      system = record r.system {
        users = with_user u (opened (user_at u r.system.users)) r.system.users;
        events = drop 1 r.system.events;
        idling = None;
        consoles = set r.system.consoles (c - 1) (Session u);
        entries = r.system.entries ++ (idle_notes r.system.idling r.system.clock ++ Taken r.system.clock c LineTaken 0 0 ∷ Login r.system.clock c u ∷ []);
      };
    }

-- a dial from a session
unfoldable pub dial_taken : ℕ → ℕ → Run → Run
dial_taken c u r =
    record r {
      system = record r.system {
        events = drop 1 r.system.events;
        idling = None;
        entries = r.system.entries ++ (idle_notes r.system.idling r.system.clock ++ Taken r.system.clock c DialTaken u (user_at u r.system.users).own ∷ []);
      };
    }

unfoldable pub idled : ℕ → Run → Run
idled limit r = record r { system = record r.system { clock = next_tick limit r.system.events; idling = Some (idle_start r.system.idling r.system.clock) } }

-- a service ends, since its user isn't the head of the lowest level
unfoldable pub broken_off : Service → Run → Run
broken_off v r =
    record r {
      system = record r.system {
        plan = record r.system.plan { levels = preempted v.user r.system.clock r.system.plan.levels };
        service = None;
        entries = r.system.entries ++ Serve v.tick v.user v.level v.ran Preempt ∷ [];
      };
    }

-- the queues after a step that ends a service by this cause, if any
abbrev pub levels_after : Option Cause → ℕ → User → (now : ℕ) → Levels → Levels
levels_after None u p now q = q
levels_after (Some cause) u p now q = leaves q u cause p now

-- a user's blocks are brought into core
unfoldable pub brought : ℕ → Run → Run
brought u r =
    let n = blocks_of (user_at u r.system.users).inner in
    let o = move_of r.swap r.system.plan.places u n in
    record r {
      system = record r.system {
        plan = with_load r.system.plan u n;
        clock = r.system.clock + o.ticks;
        entries = r.system.entries ++ Swap r.system.clock u o.dumped o.read o.fresh ∷ [];
      };
    }

-- what the common files reply to an operation, if one is made, and what they are after it
abbrev pub reply_for : Run → Option CommonOp → Reply
reply_for r made = theory.reply_for (machine user_rows) (world r) r.system.files made

abbrev pub commons_for : Run → Option CommonOp → List FileBody
commons_for r made = theory.files_for (machine user_rows) (world r) r.system.files made

-- a user step that ends a service by this cause, if any
abbrev pub stepped_by : Option Cause → Service → Run → Run
stepped_by cause v r =
    let p = user_at v.user r.system.users in
    let q = step r.system.clock (reply_for r (asks_common p)) p in
    record r {
      system = record r.system {
        users = with_user v.user q r.system.users;
        files = commons_for r (asks_common p);
        plan = record {
          levels = levels_after cause v.user q (suc r.system.clock) (charged v.user (suc r.system.clock) r.system.plan.levels);
          places = places_after (ending r.system.clock (reply_for r (asks_common p)) p) v.user (blocks_of q.inner) r.system.plan.places;
        };
        consoles = consoles_after (ending r.system.clock (reply_for r (asks_common p)) p) v.user r.system.consoles;
        clock = suc r.system.clock;
        service = service_after v cause;
        entries = r.system.entries ++ (clock_entry (asks_clock p) r.system.clock v.user ++ (common_entry (asks_common p) v.user (reply_for r (asks_common p)) ++ service_entry v cause));
      };
    }

unfoldable pub stepped : Service → Run → Run
stepped v r =
    let p = user_at v.user r.system.users in
    stepped_by (cause_of (ending r.system.clock (reply_for r (asks_common p)) p) (has_time r.system.plan.levels)) v r

-- a chosen user that can't step
unfoldable pub waited : Service → Run → Run
waited v r =
    record r {
      system = record r.system {
        plan = record r.system.plan { levels = dropped v.user (charged v.user (suc r.system.clock) r.system.plan.levels) };
        clock = suc r.system.clock;
        service = None;
        entries = r.system.entries ++ Serve v.tick v.user v.level (suc v.ran) Wait ∷ [];
      };
    }

abbrev pub end_notes : Option Service → List Entry
end_notes None = []
end_notes (Some v) = Serve v.tick v.user v.level v.ran AtEnd ∷ []

-- the end of a record
unfoldable pub closed : Run → Run
closed r = record r { system = record r.system { service = None; idling = None; entries = r.system.entries ++ (end_notes r.system.service ++ idle_notes r.system.idling r.system.clock) } }
