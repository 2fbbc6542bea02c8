-- claim: a user that waits at a level, who is before it, and how its wait ends.
use Rattle.std.specs.Prelude.{◌≡◌, ℕ, suc, ◌<◌, ◌≤◌, Bool, true, false, not, ◌&&◌, ◌||◌, cond, if◌then◌else◌, nat_eq, List, [], ◌∷◌, get_or}
use Rattle.std.specs.List.{All, list_any}
use Rattle.ctss_types.specs.declared.script.Script.{Script}
use Rattle.ctss_types.specs.declared.script.Account.{Account}
use Rattle.ctss_types.specs.declared.session.Waiting.{Waiting}
use Rattle.time_sharing.specs.System.{served_of}
use Rattle.plan_model.specs.Levels.{Levels, is_user, is_served}
use Rattle.system_model.specs.Run.{Run, AfterSteps}
use Rattle.fair_laws.specs.Served.{ticks_of, cuts_in}

-- the users at a level, from the head to the tail
abbrev pub level_row : ℕ → Levels → List Waiting
level_row l q = get_or q.rows l []

-- how many users are before a user in a list
abbrev pub before : ℕ → List Waiting → ℕ
before u [] = 0
before u (x ∷ xs) = cond (nat_eq x.user u) 0 (suc (before u xs))

-- whether v is before u in a list
abbrev pub is_before : (v u : ℕ) → List Waiting → Bool
is_before v u [] = false
is_before v u (x ∷ xs) = not (is_user u x) && (is_user v x || is_before v u xs)

-- the tick since which a user of a list waits
abbrev pub since_of : ℕ → List Waiting → ℕ
since_of u [] = 0
since_of u (x ∷ xs) = if nat_eq x.user u then x.since else since_of u xs

-- a quantum is a tick at least, and no account has more blocks than core
pub record IsUsual (script : Script) : Type 0 where
  pub quantum : 0 < script.params.quantum
  pub blocks : All (λ (a : Account). a.blocks ≤ 128) script.accounts

-- a user is at a level, and its service isn't open
pub record WaitsAt (level u : ℕ) (r : Run) : Type 0 where
  pub stands : list_any (is_user u) (level_row level r.system.plan.levels) ≡ true
  pub unserved : is_served (served_of r.system.service) u ≡ false

-- a user is at a level, and has waited there since a tick
pub record WaitsSince (since level u : ℕ) (r : Run) : Type 0 where
  pub stands : list_any (is_user u) (level_row level r.system.plan.levels) ≡ true
  pub since_is : since_of u (level_row level r.system.plan.levels) ≡ since

-- a user is the first of the lowest level that has users
pub record IsFirst (u : ℕ) (q : Levels) : Type 0 where
  pub level : ℕ
  pub entry : Waiting
  pub others : List Waiting
  pub head : level_row level q ≡ entry ∷ others
  pub user : entry.user ≡ u
  pub lowest : (l : ℕ) → l < level → level_row l q ≡ []

-- how a wait ends: the user has been served a tick, or it was cut off by its own console, or the run is over
pub data WaitIsOver (limit u : ℕ) (r later : Run) : Type 0 where
  Served : ticks_of u r.system < ticks_of u later.system → WaitIsOver limit u r later
  CutOff : cuts_in u r.system.entries < cuts_in u later.system.entries → WaitIsOver limit u r later
  RunIsOver : limit ≤ later.system.clock → WaitIsOver limit u r later

-- after some steps, at a tick no later than the given one, the wait of a user has ended
pub record WaitEndsBy (limit by u : ℕ) (r : Run) : Type 0 where
  pub later : Run
  pub steps : AfterSteps limit r later
  pub soon : later.system.clock ≤ by
  pub over : WaitIsOver limit u r later
