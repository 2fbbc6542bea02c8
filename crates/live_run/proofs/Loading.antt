-- A load that is next is one of the whole run's.
use Rattle.std.specs.List.{All}
use Rattle.std.proofs.lemmas.List.{append_assoc, append-nil}
use Rattle.std.proofs.Common.{◌≡◌, ℕ, ◌+◌, ◌<◌, ◌≤◌, true, List, [], ◌∷◌, ◌++◌, Option, Some, None, refl, sym, ◌∙◌, ap, subst, arith}
use Rattle.ctss_types.specs.declared.script.Timed.{Timed}
use Rattle.ctss_types.specs.declared.history.Entry.{Entry}
use Rattle.ctss_types.specs.declared.history.Entry.TheVariants.{Swap, Common}
use Rattle.time_sharing.specs.System.{Service}
use Rattle.user_model.specs.Inner.{blocks_of}
use Rattle.plan_model.specs.Levels.{chosen, user_of, level_in}
use Rattle.plan_model.specs.Loads.{dumps, reads, clears}
use Rattle.plan_model.specs.Plan.{must_load}
use Rattle.time_sharing.specs.Sums.{dumped_in, read_in}
use Rattle.system_model.specs.Run.{Run, AfterSteps, with_all_events, next, otherwise, attended, rising, by_rising, by_due, due_of}
use Rattle.system_model.specs.Record.{start_of, record_of}
use Rattle.system_model.specs.Cases.{user_at, brought}
use Rattle.system_model.proofs.CaseLaws.{next_due, attended_loads, begins, goes_on}
use Rattle.system_model.proofs.RunLaws.{after_next}
use Rattle.system_model.proofs.SoundLaws.{first_chosen}
use Rattle.system_model.specs.Sound.{Sound}
use Rattle.supervisor.specs.Counts.{calls_to_load}
use Rattle.supervisor.specs.Steps.{LoadIsNext}
use Rattle.live_run.specs.Parts.{Part, all_events, run_in, live_script}
use Rattle.live_run.specs.Beginnings.{IsBeginning, StoppedLoadsAreFew, StoppedPartLoadsAreFew}
use Rattle.live_run.proofs.Beginnings.{stopped_runs_are_beginnings, stopped_parts_are_beginnings}
use Rattle.live_run.proofs.Sounding.{IsSeated, all_split, sound_at, sound_in_part}

-- the step that brings a user's blocks in
brings : (u : ℕ) (v : Service) (r : Run) → v.user ≡ u → 0 < u → must_load r.system.plan u (blocks_of (user_at u r.system.users).inner) ≡ true → attended v r ≡ brought u r
brings u v r is some must =
    subst (λ (w : ℕ). 0 < w → must_load r.system.plan w (blocks_of (user_at w r.system.users).inner) ≡ true → attended v r ≡ brought w r) is (attended_loads v r) some must

served : (limit u : ℕ) (r : Run) (o : Option Service) → r.system.service ≡ o → ((v : Service) → r.system.service ≡ Some v → v.user ≡ u) → 0 < u
    → must_load r.system.plan u (blocks_of (user_at u r.system.users).inner) ≡ true → otherwise limit (Some u) o r ≡ brought u r
served limit u r None is mine some must =
    begins limit u r ∙ brings u (record { tick = r.system.clock; user = u; level = level_in (chosen r.system.plan.levels); ran = 0 }) r refl some must
served limit u r (Some v) is mine some must = goes_on limit u v r (mine v is) ∙ brings u v r (mine v is) some must

load_is_next : (limit u : ℕ) (r : Run) → due_of r.system.events r.system.clock ≡ None → rising r ≡ None → user_of (chosen r.system.plan.levels) ≡ Some u
    → ((v : Service) → r.system.service ≡ Some v → v.user ≡ u) → 0 < u → must_load r.system.plan u (blocks_of (user_at u r.system.users).inner) ≡ true
    → next limit r ≡ brought u r
load_is_next limit u r quiet low first mine some must =
    next_due limit r
    ∙ ap (λ (o : Option Timed). by_due limit o r) quiet
    ∙ ap (λ (o : Option (ℕ × ℕ)). by_rising limit o r) low
    ∙ ap (λ (o : Option ℕ). otherwise limit o r.system.service r) first
    ∙ served limit u r r.system.service refl mine some must

-- sums of more entries
more_dumped : (xs ys : List Entry) → dumped_in (xs ++ ys) ≡ dumped_in xs + dumped_in ys
more_dumped [] ys = omega arith
more_dumped (Swap t u d r f ∷ xs) ys = omega (arith, more_dumped xs ys)
more_dumped (Common a b c ∷ xs) ys = more_dumped xs ys
more_dumped (_ ∷ xs) ys = more_dumped xs ys

more_read : (xs ys : List Entry) → read_in (xs ++ ys) ≡ read_in xs + read_in ys
more_read [] ys = omega arith
more_read (Swap t u d r f ∷ xs) ys = omega (arith, more_read xs ys)
more_read (Common a b c ∷ xs) ys = more_read xs ys
more_read (_ ∷ xs) ys = more_read xs ys

-- what moved when the load is done
moved_then : (u : ℕ) (r : Run) → let n = blocks_of (user_at u r.system.users).inner in
    dumped_in (brought u r).system.entries + read_in (brought u r).system.entries
    ≡ dumped_in r.system.entries + read_in r.system.entries + (dumps r.system.plan.places u n + reads r.system.plan.places u n)
unfolding brought
moved_then u r =
    let n = blocks_of (user_at u r.system.users).inner in
    let load : List Entry = Swap r.system.clock u (dumps r.system.plan.places u n) (reads r.system.plan.places u n) (clears r.system.plan.places u n) ∷ [] in
    let a = more_dumped r.system.entries load in
    let b = more_read r.system.entries load in
    omega (arith, a, b)

-- a beginning moves no more
fewer : (xs all : List Entry) → IsBeginning xs all → dumped_in xs + read_in xs ≤ dumped_in all + read_in all
fewer xs all h =
    let a = more_dumped xs h.0 in
    let b = more_read xs h.0 in
    subst (λ (es : List Entry). dumped_in xs + read_in xs ≤ dumped_in es + read_in es) (sym h.1) (omega (arith, a, b))

-- what moved so far and what the next load would move is what was moved behind that load
few_at : (limit : ℕ) (start at : Run) (all : List Entry) → Sound at → AfterSteps limit start at → ((r : Run) → AfterSteps limit start r → IsBeginning r.system.entries all)
    → at.system.clock < limit → (load : LoadIsNext at)
    → dumped_in at.system.entries + read_in at.system.entries + calls_to_load load.due.user at ≤ dumped_in all + read_in all
few_at limit start at all sound part begins early load =
    let u : ℕ = load.due.user in
    let who = first_chosen at u sound load.due.chosen_is in
    let is : next limit at ≡ brought u at = load_is_next limit u at load.quiet load.low load.due.chosen_is load.due.served who.some load.due.absent in
    let then : AfterSteps limit start (brought u at) = subst (AfterSteps limit start) is (after_next limit start at part early) in
    let few = fewer (brought u at).system.entries all (begins (brought u at) then) in
    let moved = moved_then u at in
    omega (arith, few, moved)

pub stopped_loads_are_few : StoppedLoadsAreFew
stopped_loads_are_few script range at part early load =
    few_at script.end (start_of script) at (record_of script).entries (sound_at script at range part) part (λ r h. (stopped_runs_are_beginnings script r h).entries) early load

last_events : (parts : List Part) (p : Part) → all_events (parts ++ p ∷ []) ≡ all_events parts ++ p.events
last_events [] p = append-nil p.events
last_events (q ∷ parts) p = ap (λ (es : List Timed). q.events ++ es) (last_events parts p) ∙ sym (append_assoc q.events (all_events parts) p.events)

pub stopped_part_loads_are_few : StoppedPartLoadsAreFew
stopped_part_loads_are_few base parts p last at range order seated part early load =
    let start = with_all_events p.events (run_in parts (start_of (record base { events = [] }))) in
    let both = all_split IsSeated (all_events parts) p.events (subst (All IsSeated) (last_events parts p) seated) in
    few_at p.limit start at (record_of (live_script base (all_events (parts ++ p ∷ [])) last)).entries (sound_in_part base parts p at range both.0 both.1 part) part
    (λ r h. (stopped_parts_are_beginnings base parts p last r order h).entries) early load
