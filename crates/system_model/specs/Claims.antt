-- claim: what the public functions of this crate claim.
use Rattle.std.specs.Prelude.{◌≡◌, ℕ, ◌+◌, ◌-◌, ◌≤◌, ◌<◌, List, [], ◌∷◌, ◌++◌, length, get_or}
use Rattle.ctss_types.specs.declared.script.Script.{Script}
use Rattle.ctss_types.specs.declared.script.Timed.{Timed}
use Rattle.time_sharing.specs.Machine.{End}
use Rattle.time_sharing.specs.Rows.{machine}
use Rattle.time_sharing.specs.System.{at}
use Rattle.time_sharing.specs.Private.{Cut}
use Rattle.time_sharing.specs.Reach.{LeadsTo}
use Rattle.time_sharing.specs.Feeds.{feed_of, observed, ran_of}
use Rattle.time_sharing.specs.Record.{AreLate}
use Rattle.user_model.specs.Session.{user_rows, nobody}
use Rattle.system_model.specs.Run.{Run, AfterSteps, next, run_to, measure, with_all_events}
use Rattle.system_model.specs.Record.{start_of, record_of, first_of_user, EachIsAlone, IsOneList}

-- in the record of every script each user is alone
abbrev pub UsersAreAlone : Type 0
UsersAreAlone = (script : Script) → EachIsAlone script (record_of script)

-- in the record of every script the common files are one list
abbrev pub CommonsAreOne : Type 0
CommonsAreOne = (script : Script) → IsOneList script (record_of script)

-- at each moment of a script's run the feed so far, cut after the user's own steps, leads the user's machine alone just to
-- the user's state: each login and cut is reached after just its number of own steps, and each answer is taken
abbrev pub EachMomentIsAlone : Type 0
EachMomentIsAlone =
    (script : Script) (u : ℕ) (r : Run) → 0 < u → u ≤ length script.accounts → AfterSteps script.end (start_of script) r →
    let o = observed u script.events r.system.entries in
    let p = at nobody r.system.users u in
    LeadsTo (machine user_rows) (o.items ++ Cut p.own End ∷ []) (record { state = first_of_user script u; clocks = o.clocks; replies = o.replies }) (record { state = p; clocks = []; replies = [] })
    × (p.own ≡ o.own + ran_of u r.system.service)

-- two scripts that agree in a user's account, first files and feed agree in the user's transcript and files
abbrev pub FeedsDecide : Type 0
FeedsDecide =
    (script other : Script) (u v : ℕ) → 0 < u → u ≤ length script.accounts → 0 < v → v ≤ length other.accounts →
    first_of_user script u ≡ first_of_user other v →
    feed_of u script.events (record_of script).entries ≡ feed_of v other.events (record_of other).entries →
    (get_or (record_of script).transcripts (u - 1) [] ≡ get_or (record_of other).transcripts (v - 1) [])
    × (get_or (record_of script).files (u - 1) [] ≡ get_or (record_of other).files (v - 1) [])

-- a step below the limit comes nearer to it
abbrev pub StepsEnd : Type 0
StepsEnd = (limit : ℕ) (r : Run) → r.system.clock < limit → measure limit (next limit r) < measure limit r

-- a run to one limit and then to a greater one is the run to the greater one
abbrev pub RunsInParts : Type 0
RunsInParts = (j k : ℕ) (r : Run) → j ≤ k → run_to k (run_to j r) ≡ run_to k r

-- Events at a limit or later may be given after the run to that limit. To give events puts them behind those left.
abbrev pub LateEventsWait : Type 0
LateEventsWait =
    (events : List Timed) (j k : ℕ) (r : Run) → j ≤ k → AreLate j events →
    (run_to k (with_all_events events (run_to j r)) ≡ run_to k (with_all_events events r)) × ((with_all_events events r).system.events ≡ r.system.events ++ events)
