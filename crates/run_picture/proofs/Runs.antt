-- A run step by step, and the owners of core after the steps that tell of loads.
use Rattle.std.proofs.Common.{◌≡◌, ℕ, ◌<◌, ◌≤◌, true, List, [], ◌++◌, map, length, drop, Ok, Err, refl, sym, ap, ◌∙◌, arith, append-nil, append_assoc}
use Rattle.std.specs.Prelude.{OnOk}
use Rattle.std.specs.declared.result.Result.{Result}
use Rattle.ctss_types.specs.declared.fault.RunFault.{RunFault}
use Rattle.ctss_types.specs.declared.history.Entry.{Entry}
use Rattle.ctss_types.specs.declared.script.Script.{Script}
use Rattle.plan_model.specs.Loads.{Places}
use Rattle.system_model.specs.Run.{next, measure}
use Rattle.system_model.specs.Record.{start_of}
use Rattle.system_model.specs.Joined.{joined}
use Rattle.system_model.proofs.PassLaws.{passes_keep}
use Rattle.system_model.proofs.RunLaws.{measure_next}
use Rattle.supervisor.specs.Steps.{Lasts}
use Rattle.supervisor.specs.Whole.{Whole, AdvancesOnce, Agrees}
use Rattle.live_run.specs.Calls.{run_over}
use Rattle.picture_model.specs.Cores.{load_ticks, owners_shown, owners_of}
use Rattle.picture_model.proofs.Owners.{owners_left, left_next, left_none, passes_still}
use Rattle.run_picture.specs.Watching.{Steps}

-- words and files of users change nothing of the clock, the schedule, and whose core is

clock_over : (s : Whole) → (run_over s).system.clock ≡ s.bare.clock
unfolding joined
clock_over s = refl

entries_over : (s : Whole) → (run_over s).system.entries ≡ s.bare.entries
unfolding joined
entries_over s = refl

places_over : (s : Whole) → (run_over s).system.plan.places ≡ s.back.held.places
unfolding joined
places_over s = refl

-- a step that met no fault
pub went : (limit : ℕ) (result : Result Unit RunFault) (old new : Whole) → old.back.held.tells ≡ true → OnOk result (AdvancesOnce limit old new)
    → OnOk result (Steps limit old new)
went limit (Ok x) old new told h =
    let run = h.goes.run told in
    record { more = run.0; passes = run.1; agrees = h.tied; tells = h.tells ∙ told }
went limit (Err f) old new told h = tt

pub lasts : {T : Type 0} (r : Result T RunFault) (P : Type 0) → Lasts r P → OnOk r P
lasts (Ok x) P h = h
lasts (Err f) P h = tt

-- it is the run of a script, on which these owners were noted so far
pub record IsOnTheWay (script : Script) (done : List (ℕ → ℕ)) (s : Whole) : Type 0 where
  pub left : done ++ owners_left script.end (run_over s) ≡ owners_of script
  pub agrees : Agrees s
  pub tells : s.back.held.tells ≡ true

pub begins : (script : Script) (s : Whole) → run_over s ≡ start_of script → Agrees s → s.back.held.tells ≡ true → IsOnTheWay script [] s
unfolding owners_of
begins script s is agrees tells = record { left = ap (owners_left script.end) is; agrees = agrees; tells = tells }

pub falls : (limit : ℕ) (old new : Whole) → old.bare.clock < limit → Steps limit old new → measure limit (run_over new) < measure limit (run_over old)
falls limit old new up h =
    let first = measure_next limit (run_over old) (let c = clock_over old in omega (arith, c, up)) in
    let rest : measure limit (run_over new) ≤ measure limit (next limit (run_over old)) =
    passes_keep (λ r. measure limit r ≤ measure limit (next limit (run_over old))) limit h.more (next limit (run_over old)) (run_over new)
    (λ r below quiet same was. let k = measure_next limit r below in omega (arith, was, k)) h.passes (omega arith) in
    omega (arith, first, rest)

-- the owners that a step shows, as the schedule and the core behind it say
shown_is : (limit : ℕ) (old new : Whole) → Steps limit old new
    → owners_shown (run_over old) (next limit (run_over old)) ≡ map (λ tick. new.back.held.places.owner) (load_ticks (drop (length old.bare.entries) new.bare.entries))
shown_is limit old new h =
    let still = passes_still limit h.more (next limit (run_over old)) (run_over new) h.passes in
    let entries : (next limit (run_over old)).system.entries ≡ new.bare.entries = sym still.entries ∙ entries_over new in
    let places : (next limit (run_over old)).system.plan.places ≡ new.back.held.places = sym still.places ∙ places_over new in
    ap (λ (p : Places). map (λ tick. p.owner) (load_ticks (drop (length (run_over old).system.entries) (next limit (run_over old)).system.entries))) places
    ∙ ap (λ (es : List Entry). map (λ tick. new.back.held.places.owner) (load_ticks (drop (length (run_over old).system.entries) es))) entries
    ∙ ap (λ (es : List Entry). map (λ tick. new.back.held.places.owner) (load_ticks (drop (length es) new.bare.entries))) (entries_over old)

-- behind a step, whose loads were noted with the owners behind it
pub goes_on : (script : Script) (done now : List (ℕ → ℕ)) (before : ℕ) (old new : Whole) → old.bare.clock < script.end → IsOnTheWay script done old
    → Steps script.end old new → before ≡ length old.bare.entries
    → now ≡ done ++ map (λ tick. new.back.held.places.owner) (load_ticks (drop before new.bare.entries)) → IsOnTheWay script now new
goes_on script done now before old new up was h count noted =
    let shown = owners_shown (run_over old) (next script.end (run_over old)) in
    let still = passes_still script.end h.more (next script.end (run_over old)) (run_over new) h.passes in
    let is : now ≡ done ++ shown =
    noted
    ∙ ap (λ (n : ℕ). done ++ map (λ tick. new.back.held.places.owner) (load_ticks (drop n new.bare.entries))) count
    ∙ ap (λ (l : List (ℕ → ℕ)). done ++ l) (sym (shown_is script.end old new h)) in
    record {
      left =
          ap (λ (l : List (ℕ → ℕ)). l ++ owners_left script.end (run_over new)) is
          ∙ append_assoc done shown (owners_left script.end (run_over new))
          ∙ ap (λ (l : List (ℕ → ℕ)). done ++ (shown ++ l)) still.left
          ∙ ap (λ (l : List (ℕ → ℕ)). done ++ l) (sym (left_next script.end (run_over old) (let c = clock_over old in omega (arith, c, up))))
          ∙ was.left;
      agrees = h.agrees;
      tells = h.tells;
    }

-- at the end they are all
pub ends : (script : Script) (done : List (ℕ → ℕ)) (s : Whole) → script.end ≤ s.bare.clock → IsOnTheWay script done s → done ≡ owners_of script
ends script done s over was =
    sym (append-nil done)
    ∙ ap (λ (l : List (ℕ → ℕ)). done ++ l) (sym (left_none script.end (run_over s) (let c = clock_over s in omega (arith, c, over))))
    ∙ was.left
