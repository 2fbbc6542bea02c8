-- proof: what is true of each state of a run: users, consoles and ticks are in range.
use Rattle.std.specs.Prelude.{◌≡◌, ℕ, ◌<◌, ◌≤◌, true, length, get_or, Some}
use Rattle.std.specs.List.{All}
use Rattle.time_sharing.specs.System.{Timed, Service, Off, Session}
use Rattle.plan_model.specs.Levels.{waits}
use Rattle.system_model.specs.Run.{Run}
use Rattle.user_model.specs.Session.{nobody}

pub record IsUser (u : ℕ) (r : Run) : Type 0 where
  pub some : 0 < u
  pub within : u ≤ length r.system.users

pub record HasSeat (e : Timed) (r : Run) : Type 0 where
  pub some : 0 < e.console
  pub within : e.console ≤ length r.system.consoles

pub record Sound (r : Run) : Type 0 where
  pub few : length r.system.users ≤ 30
  pub accounts : length r.accounts ≤ length r.system.users
  pub seats : All (λ (x : Timed). HasSeat x r) r.system.events
  pub sits : (k u : ℕ) → get_or r.system.consoles k Off ≡ Session u → IsUser u r
  pub served : (v : Service) → r.system.service ≡ Some v → IsUser v.user r
  pub ran : (v : Service) → r.system.service ≡ Some v → v.ran ≤ r.system.clock
  pub queued : (u : ℕ) → waits u r.system.plan.levels ≡ true → IsUser u r
  pub owns : (k : ℕ) → (get_or r.system.users k nobody).own ≤ r.system.clock
