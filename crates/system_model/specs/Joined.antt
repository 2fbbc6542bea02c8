-- proof: what lies outside users' sessions, the words of their programs and their files, and the common files, apart from the rest, and both
-- joined.
use Rattle.std.specs.Prelude.{ℕ, zero, suc, ◌+◌, ◌*◌, Bool, if◌then◌else◌, nat_eq, nat_lt, List, [], ◌∷◌, ◌++◌}
use Rattle.time_sharing.specs.Machine.{Ending}
use Rattle.time_sharing.specs.System.{Service, Console, Off, On, Password, Session, Event, Entry, Dials, Types, Quits, Hangs, Swap, max_lines, cause_of, consoles_after, service_after, service_entry, clock_entry}
use Rattle.user_model.specs.Inner.{Stored, blocks_of}
use Rattle.user_model.specs.User.{User, in_store, hung}
use Rattle.plan_model.specs.Levels.{charged, has_time}
use Rattle.plan_model.specs.Plan.{places_after}
use Rattle.plan_model.specs.Loads.{Places}
use Rattle.system_model.specs.Run.{Run}
use Rattle.system_model.specs.Cases.{user_at, with_user, levels_after}

-- users from number k on, each with its store
abbrev pub with_stores : ℕ → (ℕ → Stored) → List User → List User
with_stores k stores [] = []
with_stores k stores (p ∷ ps) = in_store (stores k) p ∷ with_stores (suc k) stores ps

-- a run whose users have these stores, and in which the common files are those of the store of number 0
unfoldable pub joined : (ℕ → Stored) → Run → Run
joined stores r = record r { system = record r.system { users = with_stores 1 stores r.system.users; files = (stores 0).files } }

-- another store for one user
abbrev pub with_store : ℕ → Stored → (ℕ → Stored) → ℕ → Stored
with_store u store stores v = if nat_eq v u then store else stores v

-- the stores where the session of this user is over, 0 for nobody
abbrev pub hung_up : ℕ → (ℕ → Stored) → ℕ → Stored
hung_up zero stores = stores
hung_up (suc u) stores = with_store (suc u) (hung (stores (suc u))) stores

-- the user whose session an event ends, by a hang or by a line too much; 0 for nobody
abbrev pub cut_user : Console → Event → List User → ℕ
cut_user (Session u) Hangs users = u
cut_user (Session u) (Types l) users = if nat_lt (user_at u users).lines max_lines then 0 else u
cut_user (Session u) Dials users = 0
cut_user (Session u) Quits users = 0
cut_user Off e users = 0
cut_user On e users = 0
cut_user (Password name) e users = 0

-- a step of a service's user that leaves this state, ends so, took the clock or not, and has these notes of its common operation
unfoldable pub stepped_to : Service → User → Ending → Bool → List Entry → Run → Run
stepped_to v p t asked notes r =
    let cause = cause_of t (has_time r.system.plan.levels) in
    record r {
      system = record r.system {
        users = with_user v.user p r.system.users;
        plan = record {
          levels = levels_after cause v.user p (suc r.system.clock) (charged v.user (suc r.system.clock) r.system.plan.levels);
          places = places_after t v.user (blocks_of p.inner) r.system.plan.places;
        };
        consoles = consoles_after t v.user r.system.consoles;
        clock = suc r.system.clock;
        service = service_after v cause;
        entries = r.system.entries ++ (clock_entry asked r.system.clock v.user ++ (notes ++ service_entry v cause));
      };
    }

-- what a step of a service's user does besides: to the queues, the consoles, the clock and the service; the user has stepped
-- already, its blocks lie as before, and these are the notes of its common operation
unfoldable pub counted : Service → Ending → Bool → List Entry → Run → Run
counted v t asked notes r =
    let cause = cause_of t (has_time r.system.plan.levels) in
    record r {
      system = record r.system {
        plan = record r.system.plan { levels = levels_after cause v.user (user_at v.user r.system.users) (suc r.system.clock) (charged v.user (suc r.system.clock) r.system.plan.levels) };
        consoles = consoles_after t v.user r.system.consoles;
        clock = suc r.system.clock;
        service = service_after v cause;
        entries = r.system.entries ++ (clock_entry asked r.system.clock v.user ++ (notes ++ service_entry v cause));
      };
    }

-- what a load does besides: it costs ticks for each block that it moved, and is noted
unfoldable pub moved : ℕ → ℕ → ℕ → ℕ → Run → Run
moved u dumped read fresh r =
    record r {
      system = record r.system {
        clock = r.system.clock + r.swap * (dumped + read);
        entries = r.system.entries ++ Swap r.system.clock u dumped read fresh ∷ [];
      };
    }

-- the same run with users' blocks in other places
abbrev pub at_places : Places → Run → Run
at_places places r = record r { system = record r.system { plan = record r.system.plan { places = places } } }
