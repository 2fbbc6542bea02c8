-- claim: the figures of a schedule, by user and by level.
use Rattle.std.specs.Prelude.{ℕ, ◌-◌, nat_eq, max, if◌then◌else◌, List, map, filter, sum, fold}
use Rattle.ctss_types.specs.declared.history.Cause.{Cause}
use Rattle.ctss_types.specs.declared.history.Cause.TheVariants as cause
use Rattle.ctss_types.specs.declared.history.EventKind.TheVariants as kind
use Rattle.ctss_types.specs.declared.history.Entry.{Entry}
use Rattle.ctss_types.specs.declared.history.Entry.TheVariants.{Taken, Swap, Serve}
use Rattle.picture_model.specs.declared.request.Visit.{Visit}

-- what counts where two numbers are the same
abbrev pub if_same : ℕ → ℕ → ℕ → ℕ
if_same a b n = if nat_eq a b then n else 0

-- what an entry adds to a user's figures: a line that was typed, a service and its ticks, a load and what it moved

abbrev pub line_of : ℕ → Entry → ℕ
line_of u (Taken tick console kind.Line v own) = if_same v u 1
line_of u _ = 0

abbrev pub service_of : ℕ → Entry → ℕ
service_of u (Serve tick v level ran cause) = if_same v u 1
service_of u _ = 0

abbrev pub served_of : ℕ → Entry → ℕ
served_of u (Serve tick v level ran cause) = if_same v u ran
served_of u _ = 0

abbrev pub load_of : ℕ → Entry → ℕ
load_of u (Swap tick v dumped read fresh) = if_same v u 1
load_of u _ = 0

abbrev pub dumped_of : ℕ → Entry → ℕ
dumped_of u (Swap tick v dumped read fresh) = if_same v u dumped
dumped_of u _ = 0

abbrev pub read_of : ℕ → Entry → ℕ
read_of u (Swap tick v dumped read fresh) = if_same v u read
read_of u _ = 0

-- the level of a service
abbrev pub level_of : ℕ → Entry → ℕ
level_of u (Serve tick v level ran cause) = if_same v u level
level_of u _ = 0

-- the sum of what all entries add
abbrev pub total : (Entry → ℕ) → List Entry → ℕ
total f es = sum (map f es)

-- the greatest of some numbers, 0 of none
abbrev pub greatest : List ℕ → ℕ
greatest ns = fold max 0 ns

abbrev pub highest_level : ℕ → List Entry → ℕ
highest_level u es = greatest (map (level_of u) es)

-- how long it was waited for a service
abbrev pub wait_of : Visit → ℕ
wait_of v = v.from - v.waited

-- the ticks from each request to its first service, and to the end of its last

abbrev pub responses : List Visit → List ℕ
responses vs = map (λ (v : Visit). v.from - v.asked) (filter (λ (v : Visit). v.is_first) vs)

abbrev pub turnarounds : List Visit → List ℕ
turnarounds vs = map (λ (v : Visit). v.until - v.asked) (filter (λ (v : Visit). v.is_last) vs)

-- the six causes, numbered
abbrev pub cause_number : Cause → ℕ
cause_number cause.Time = 0
cause_number cause.Wait = 1
cause_number cause.Stop = 2
cause_number cause.Size = 3
cause_number cause.Preempt = 4
cause_number cause.End = 5

-- a service at a level that ended for a cause, and its ticks

abbrev pub service_at : ℕ → Cause → Entry → ℕ
service_at level cause (Serve tick u l ran c) = if_same l level (if_same (cause_number c) (cause_number cause) 1)
service_at level cause _ = 0

abbrev pub ticks_at : ℕ → Cause → Entry → ℕ
ticks_at level cause (Serve tick u l ran c) = if_same l level (if_same (cause_number c) (cause_number cause) ran)
ticks_at level cause _ = 0
