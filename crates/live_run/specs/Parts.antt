-- claim: runs to which events are given while they go on, and what they have in common with a script's run.
use Rattle.std.specs.Prelude.{◌≡◌, ℕ, ◌≤◌, true, List, [], ◌∷◌, ◌++◌, map, None}
use Rattle.std.specs.List.{flat_map}
use Rattle.ctss_types.specs.declared.script.Script.{Script}
use Rattle.ctss_types.specs.declared.script.Timed.{Timed}
use Rattle.time_sharing.specs.Record.{AreLate}
use Rattle.system_model.specs.Run.{Run, run_to, with_all_events, ended}
use Rattle.system_model.specs.Record.{start_of, record_of, record_from}
use Rattle.live_core.specs.Core.{CoreCall, Took, Went}
use Rattle.supervisor.specs.Whole.{Whole}
use Rattle.live_run.specs.Calls.{Follows, run_over}

-- events that are given, and the limit to which the run then goes
pub record Part : Type 0 where
  pub events : List Timed
  pub limit : ℕ

abbrev pub all_events : List Part → List Timed
all_events parts = flat_map (λ (p : Part). p.events) parts

-- the limits don't fall, from one to another, and no event comes before the limit that was reached
abbrev pub AreInOrder : ℕ → ℕ → List Part → Type 0
AreInOrder start last [] = start ≡ last
AreInOrder start last (p ∷ parts) = (start ≤ p.limit) × (AreLate start p.events × AreInOrder p.limit last parts)

-- the run in these parts
abbrev pub run_in : List Part → Run → Run
run_in [] r = r
run_in (p ∷ parts) r = run_in parts (run_to p.limit (with_all_events p.events r))

-- the script with these events, which ends at this limit
abbrev pub live_script : Script → List Timed → ℕ → Script
live_script base events last = record base { events = events; end = last }

-- The record of a run in parts is that of the script with all their events.
abbrev pub LiveRunsAreReplays : Type 0
LiveRunsAreReplays =
    (base : Script) (parts : List Part) (last : ℕ) → AreInOrder 0 last parts →
    record_from (ended (run_in parts (start_of (record base { events = [] })))) ≡ record_of (live_script base (all_events parts) last)

-- what a core is asked for such a run
abbrev pub calls_of : List Part → List CoreCall
calls_of [] = []
calls_of (p ∷ parts) = map Took p.events ++ Went p.limit None ∷ calls_of parts

-- After these calls, none of which met a fault, the supervisor's run is the run in these parts; where drum and disk tell their records.
abbrev pub CallsAreRuns : Type 0
CallsAreRuns =
    (parts : List Part) (old new : Whole) → old.back.held.tells ≡ true → Follows (calls_of parts) old new →
    (run_over new ≡ run_in parts (run_over old)) × (new.back.held.tells ≡ true)
