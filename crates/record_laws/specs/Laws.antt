-- claim: the services, loads and idle times of a record join end to end, and add up to its clock.
use Rattle.std.specs.Prelude.{◌≡◌, ℕ, ◌+◌, List}
use Rattle.ctss_types.specs.declared.script.Script.{Script}
use Rattle.time_sharing.specs.Machine.{Machine}
use Rattle.time_sharing.specs.System.{World, Timed, ended}
use Rattle.time_sharing.specs.Record.{start, iterate}
use Rattle.system_model.specs.Record.{record_of}
use Rattle.record_laws.specs.Spans.{spans, JoinFrom, served_in, swapping_in, idle_in}
use Rattle.record_laws.specs.Worlds.{StaysLoaded, Costs}

-- The services, loads and idle times in the record of every script, in its order, join end to end from tick 0 to its
-- clock: none overlaps another, and no tick is left out. So the clock is what the users were served, what the loads
-- took, and what was idle.
abbrev pub TicksJoin : Type 0
TicksJoin =
    (script : Script) →
    let rec = record_of script in
    JoinFrom 0 (spans script.params.swap rec.entries) rec.clock
    × (rec.clock ≡ served_in rec.entries + (swapping_in script.params.swap rec.entries + idle_in rec.entries))

-- The same after any number of steps and the end of the record, of every machine and world: where the world's loads
-- cost so many ticks for each block that they move, and no load falls into a service.
abbrev pub AllTicksJoin : (S P F : Type 0) → Type 0
AllTicksJoin S P F =
    (m : Machine S) (w : World S P F) (swap : ℕ) → StaysLoaded m w → Costs swap w
    → (firsts : List S) (files : F) (plan : P) (consoles limit n : ℕ) (events : List Timed) →
    let e = ended m w (iterate m w limit n (start m w firsts files plan consoles events)) in
    JoinFrom 0 (spans swap e.entries) e.clock
    × (e.clock ≡ served_in e.entries + (swapping_in swap e.entries + idle_in e.entries))
