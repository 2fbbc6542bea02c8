-- Without an age no wait has a bound: at tick 3 of the run of hogging, BETA's program is at level 1, and waits there to the end.
use Rattle.std.proofs.Common.{◌≡◌, ℕ, ◌+◌, ◌<◌, ◌≤◌, Bool, true, nat_lt, [], ◌∷◌, refl, sym, ap, ◌∙◌, arith}
use Rattle.std.proofs.lemmas.Bool.{lt-ltb}
use Rattle.std.proofs.lemmas.List.Elements.{All-nil, All-cons}
use Rattle.std.specs.List.{All}
use Rattle.ctss_types.specs.declared.script.Account.{Account}
use Rattle.ctss_types.specs.Words.{name_of}
use Rattle.time_sharing.specs.System as system
use Rattle.time_sharing.specs.System.{at}
use Rattle.time_sharing.specs.Record.{clock_is_below, iterate}
use Rattle.time_sharing.specs.Rows.{machine}
use Rattle.plan_model.specs.Levels.{greatest, level_of_words, chosen, waits, entered, dropped, sunk, charged, woken, riser}
use Rattle.plan_model.specs.Loads.{core_places, base_for, based, loaded, dumps, reads}
use Rattle.program_model.specs.CommandLines.{command_lines}
use Rattle.program_model.specs.Decks.{filled}
use Rattle.user_model.specs.Session.{user_rows, nobody}
use Rattle.user_model.specs.Requests.{command_of}
use Rattle.user_model.specs.User.{can_step}
use Rattle.system_model.specs.World.{asked, check}
use Rattle.system_model.specs.Run.{Run, State, AfterSteps, world}
use Rattle.system_model.specs.Record.{start_of}
use Rattle.fair_laws.specs.Served.{ticks_of, cuts_in}
use Rattle.fair_laws.specs.Waits.{IsUsual, WaitsAt, WaitEndsBy, WaitIsOver, Served, CutOff, RunIsOver}
use Rattle.fair_laws.specs.Unbounded.{NoBoundWithoutAge, hogging, IsStarved}
use Rattle.fair_laws.proofs.Repeated.{plain, RunsOn, repeat-plain, repeat-keeps}
use Rattle.fair_laws.proofs.Hog.{HogParts, IsHog, hog-first, hog-keeps, hog-ticks, hog-cuts}

-- a step of a run, and whether its clock is below the end
abbrev step : (limit : ℕ) → Run → State → State
step limit r = system.next (machine user_rows) (world r) limit

abbrev runs : (limit : ℕ) → Run → State → Bool
runs limit r = clock_is_below (machine user_rows) (world r) limit

abbrev start : ℕ → Run
start bound = start_of (hogging bound)

-- after twelve steps: eight events, the steps of BETA's LOADGO and of ALFA's first RUNCOM, the load of BETA's program and its first step
abbrev moment : ℕ → Run
moment bound =
    let r = start bound in
    record r { system = plain (runs (bound + 5) r) (step (bound + 5) r) 12 r.system }

-- what holds then, by computing
record AtMoment (bound : ℕ) : Type 0 where
  runs_on : RunsOn (runs (bound + 5) (start bound)) (step (bound + 5) (start bound)) 12 (start bound).system
  clock : (moment bound).system.clock ≡ 3
  parts : HogParts (moment bound).system
  ready : can_step (at nobody (moment bound).system.users 2) ≡ true
  waits : WaitsAt 1 2 (moment bound)

below : (bound k : ℕ) → k < 5 → nat_lt k (bound + 5) ≡ true
below bound k h = lt-ltb k (bound + 5) (omega arith)

at_moment : (bound : ℕ) → AtMoment bound
unfolding start_of name_of greatest level_of_words chosen waits entered dropped sunk charged woken riser asked check command_of command_lines filled loaded based core_places base_for dumps reads can_step
at_moment bound =
    let at_zero = below bound 0 (omega arith) in
    let at_one = below bound 1 (omega arith) in
    let at_two = below bound 2 (omega arith) in
    record {
      runs_on = (at_zero, (at_zero, (at_zero, (at_zero, (at_zero, (at_zero, (at_zero, (at_zero, (at_zero, (at_one, (at_two, (at_two, tt))))))))))));
      clock = refl;
      parts = record {
        users = refl;
        files = refl;
        program = refl;
        blocks = refl;
        input = refl;
        debugger = refl;
        on = refl;
        unread = refl;
        lines = refl;
        fed = refl;
        levels = refl;
        events = refl;
        service = refl;
      };
      ready = refl;
      waits = record { stands = refl; unserved = refl };
    }

reached : (bound : ℕ) → AfterSteps (bound + 5) (start bound) (moment bound)
unfolding AfterSteps
reached bound =
    let limit = bound + 5 in
    let r = start bound in
    (12, ap (λ (x : State). record r { system = x }) (sym (repeat-plain (runs limit r) (step limit r) 12 r.system (at_moment bound).runs_on)))

-- so each later state is such a moment, with the ticks and the cuts that BETA has then
stays : (bound n : ℕ) → let r = moment bound in
    IsHog (ticks_of 2 r.system) (cuts_in 2 r.system.entries) (iterate (machine user_rows) (world r) (bound + 5) n r.system)
stays bound n =
    let r = moment bound in
    let limit = bound + 5 in
    let ticks = ticks_of 2 r.system in
    let cuts = cuts_in 2 r.system.entries in
    let keeps = hog-keeps r.swap r.common limit r.accounts ticks cuts in
    repeat-keeps (runs limit r) (step limit r) (IsHog ticks cuts) keeps n r.system (hog-first r.system (at_moment bound).parts)

waits_on : (bound : ℕ) → WaitEndsBy (bound + 5) ((moment bound).system.clock + bound) 2 (moment bound) → ⊥
unfolding AfterSteps
waits_on bound e = by_end e.over
  where
    same : e.later.system ≡ iterate (machine user_rows) (world (moment bound)) (bound + 5) e.steps.0 (moment bound).system
    same = ap (λ (x : Run). x.system) e.steps.1

    by_end : WaitIsOver (bound + 5) 2 (moment bound) e.later → ⊥
    by_end (Served more) = let k = ap (ticks_of 2) same ∙ hog-ticks _ _ _ (stays bound e.steps.0) in omega (arith, more, k)
    by_end (CutOff more) = let k = ap (λ (x : State). cuts_in 2 x.entries) same ∙ hog-cuts _ _ _ (stays bound e.steps.0) in omega (arith, more, k)
    by_end (RunIsOver late) = let soon = e.soon in let clock = (at_moment bound).clock in omega (arith, soon, late, clock)

two_small : (a b : Account) → a.blocks ≤ 128 → b.blocks ≤ 128 → All (λ (x : Account). x.blocks ≤ 128) (a ∷ b ∷ [])
two_small a b h k = let P = λ (x : Account). x.blocks ≤ 128 in All-cons P a (b ∷ []) h (All-cons P b [] k (All-nil P))

is_usual : (bound : ℕ) → IsUsual (hogging bound)
is_usual bound = record { quantum = omega arith; blocks = two_small _ _ small small }
  where
    small : 8 ≤ 128
    small = omega arith

pub no_bound_without_age : NoBoundWithoutAge
no_bound_without_age bound =
    let then = at_moment bound in
    let starved : IsStarved bound (hogging bound) =
    record {
      user = 2;
      level = 1;
      moment = moment bound;
      steps = reached bound;
      ready = then.ready;
      waits = then.waits;
      longer = waits_on bound;
    } in
    (is_usual bound, refl, starved)
