-- proof: many ticks of a user's time; and that nobody rises before a tick.
use Rattle.std.specs.Prelude.{◌≡◌, ℕ, ◌-◌, ◌<◌, if◌then◌else◌, nat_eq, map, Option, None}
use Rattle.ctss_types.specs.declared.session.Waiting.{Waiting}
use Rattle.plan_model.specs.Levels.{Levels, riser}

abbrev pub less : ℕ → ℕ → Waiting → Waiting
less n u x = if nat_eq x.user u then record x { left = x.left - n } else x

-- so many ticks of a user's time; it keeps its place
unfoldable pub spent : ℕ → ℕ → Levels → Levels
spent n u q = record q { rows = map (map (less n u)) q.rows }

-- before a tick nobody rises, where this user is served
unfoldable pub NobodyRises : (served : Option ℕ) → (until : ℕ) → Levels → Type 0
NobodyRises served until q = (t : ℕ) → t < until → riser served t q ≡ None
