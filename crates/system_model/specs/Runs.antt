-- proof: many steps of the user that is served, which go on.
use Rattle.std.specs.Prelude.{◌≡◌, ℕ, zero, suc, ◌+◌, ◌<◌, length, Some, None}
use Rattle.time_sharing.specs.System.{Service}
use Rattle.user_model.specs.User.{User}
use Rattle.plan_model.specs.Spent.{spent}
use Rattle.system_model.specs.Run.{Run, next, due_of}
use Rattle.system_model.specs.Cases.{with_user}

-- new is old after so many steps below the limit, at each of which no event was due, and which write no entry
abbrev pub Passes : ℕ → ℕ → Run → Run → Type 0
Passes limit zero old new = new ≡ old
Passes limit (suc n) old new =
    (mid : Run) × Passes limit n old mid × (mid.system.clock < limit) × (due_of mid.system.events mid.system.clock ≡ None) × (new ≡ next limit mid) × (length new.system.entries ≡ length mid.system.entries)

-- so many steps of a service's user, which is this one then
unfoldable pub passed : ℕ → Service → User → Run → Run
passed n v p r =
    record r {
      system = record r.system {
        users = with_user v.user p r.system.users;
        plan = record r.system.plan { levels = spent n v.user r.system.plan.levels };
        clock = r.system.clock + n;
        service = Some (record v { ran = v.ran + n });
      };
    }

-- what so many steps of a service's user do besides: to the queues, the clock and the service; the user has stepped already
unfoldable pub elapsed : ℕ → Service → Run → Run
elapsed n v r =
    record r {
      system = record r.system {
        plan = record r.system.plan { levels = spent n v.user r.system.plan.levels };
        clock = r.system.clock + n;
        service = Some (record v { ran = v.ran + n });
      };
    }
