-- claim: how long a user waits, and in which order users are served, in the run of every script.
use Rattle.std.specs.Prelude.{◌≡◌, ℕ, ◌+◌, ◌*◌, ◌<◌, true, false, length, List, Ok}
use Rattle.ctss_types.specs.declared.script.Script.{Script}
use Rattle.time_sharing.specs.System.{at, served_of}
use Rattle.plan_model.specs.Levels.{is_served, waits}
use Rattle.user_model.specs.Session.{nobody}
use Rattle.user_model.specs.User.{can_step}
use Rattle.system_model.specs.Run.{Run, AfterSteps, next}
use Rattle.system_model.specs.Record.{start_of}
use Rattle.text_model.specs.Reading.{script_of}
use Rattle.fair_laws.specs.Bound.{longest_load, longest_wait}
use Rattle.fair_laws.specs.Served.{ticks_of}
use Rattle.fair_laws.specs.Waits.{IsUsual, WaitsAt, WaitsSince, IsFirst, WaitEndsBy, before, is_before, level_row}

-- Every script that can be read is usual.
abbrev pub ReadScriptsAreUsual : Type 0
ReadScriptsAreUsual = (bytes : List ℕ) (script : Script) → script_of bytes ≡ Ok script → IsUsual script

-- With an age nobody starves: at each moment of the run of every script, the wait of a user at a level ends within the longest
-- wait at that level.
abbrev pub NobodyStarves : Type 0
NobodyStarves =
    (script : Script) (u level : ℕ) (r : Run) → IsUsual script → 0 < script.params.age → AfterSteps script.end (start_of script) r → WaitsAt level u r →
    let p = script.params in
    WaitEndsBy script.end (r.system.clock + longest_wait p.age p.quantum (longest_load p.swap) (length script.accounts) level) u r

-- So every wait ends within the longest wait at level 8.
abbrev pub WaitsAreBounded : Type 0
WaitsAreBounded =
    (script : Script) (u : ℕ) (r : Run) → IsUsual script → 0 < script.params.age → AfterSteps script.end (start_of script) r →
    waits u r.system.plan.levels ≡ true → is_served (served_of r.system.service) u ≡ false →
    let p = script.params in
    WaitEndsBy script.end (r.system.clock + longest_wait p.age p.quantum (longest_load p.swap) (length script.accounts) 8) u r

-- With an age or without one, the wait of a user at level 0 ends within a quantum and a load for each user before it, and a load
-- and a tick for itself.
abbrev pub LevelZeroIsServed : Type 0
LevelZeroIsServed =
    (script : Script) (u : ℕ) (r : Run) → IsUsual script → AfterSteps script.end (start_of script) r → WaitsAt 0 u r →
    let p = script.params in
    let load = longest_load p.swap in
    WaitEndsBy script.end (r.system.clock + (before u (level_row 0 r.system.plan.levels) * (p.quantum + load) + load + 1)) u r

-- A user that is ready, because its program is working or a line has come for it, is at a level at each moment, whatever the age.
abbrev pub ReadyStand : Type 0
ReadyStand =
    (script : Script) (u : ℕ) (r : Run) → IsUsual script → AfterSteps script.end (start_of script) r → can_step (at nobody r.system.users u) ≡ true →
    waits u r.system.plan.levels ≡ true

-- So with an age every user that is ready is served within the longest wait at level 8.
abbrev pub ReadyAreServed : Type 0
ReadyAreServed =
    (script : Script) (u : ℕ) (r : Run) → IsUsual script → 0 < script.params.age → AfterSteps script.end (start_of script) r →
    can_step (at nobody r.system.users u) ≡ true → is_served (served_of r.system.service) u ≡ false →
    let p = script.params in
    WaitEndsBy script.end (r.system.clock + longest_wait p.age p.quantum (longest_load p.swap) (length script.accounts) 8) u r

-- A tick is always that of the first user of the lowest level that has users.
abbrev pub TheFirstIsServed : Type 0
TheFirstIsServed =
    (limit u : ℕ) (r : Run) → ticks_of u r.system < ticks_of u (next limit r).system → IsFirst u r.system.plan.levels

-- First come, first served within a level: where a user waits on, since the same tick, no step of the run puts another before it.
abbrev pub FirstComeFirstServed : Type 0
FirstComeFirstServed =
    (script : Script) (u v since level : ℕ) (r : Run) → IsUsual script → AfterSteps script.end (start_of script) r →
    WaitsSince since level u r → WaitsSince since level u (next script.end r) →
    is_before v u (level_row level (next script.end r).system.plan.levels) ≡ true → is_before v u (level_row level r.system.plan.levels) ≡ true
