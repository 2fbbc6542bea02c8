use Rattle.std.specs.Prelude.{slice_index_or}
use Rattle.std.proofs.Common.{◌+◌, Bool, false, not, arith, ◌≡◌, ℕ, suc, ◌<◌, ◌≤◌, List, ap, refl, sym, ◌∙◌, lt-ltb, le-ltb}
use Rattle.ctss_types.specs.declared.script.Account.{Account}
use Rattle.time_sharing.specs.Rows.{machine}
use Rattle.time_sharing.specs.System as theory
use Rattle.time_sharing.specs.System.{Timed, Service, Serve, Idle, Cause, Time, Wait, Stop, Size, Preempt, AtEnd}
use Rattle.time_sharing.specs.Rows.{some_line}
use Rattle.time_sharing.specs.Record as whole
use Rattle.time_sharing.proofs.RepeatLaws as laws
use Rattle.time_sharing.proofs.Ending as ending
use Rattle.user_model.specs.Session.{user_rows}
use Rattle.user_model.specs.Inner.{blocks_of}
use Rattle.plan_model.proofs.LoadLaws.{loaded_is}
use Rattle.user_model.specs.User.{User}
use Rattle.plan_model.specs.Levels.{Levels, dropped, sum_of_levels}
use Rattle.plan_model.proofs.RiseLaws.{none-rises, sum-risen, sum-charged, sum-preempted, sum-dropped, sum-entered, sum-again, sum-woken}
use Rattle.plan_model.specs.Plan.{Plan, must_load, with_load}
use Rattle.system_model.specs.World.{world_with, leaves, line_blocks}
use Rattle.system_model.specs.Run.{world, Run, State, next, run_to, measure, AfterSteps}

-- a load is done once
load_is_done : (q : Plan) (u n : ℕ) → must_load (with_load q u n) u n ≡ false
load_is_done q u n = ap not (loaded_is q.places u n)

sum-leaves : (q : Levels) (u : ℕ) (cause : Cause) (p : User) (now : ℕ) → sum_of_levels (leaves q u cause p now) ≤ sum_of_levels q + 8
sum-leaves q u Time p now = omega arith
sum-leaves q u Wait p now = omega (arith, sum-dropped u q)
sum-leaves q u Stop p now = omega (arith, sum-again (some_line p.unread) u now (dropped u q), sum-dropped u q)
sum-leaves q u Size p now = omega (arith, sum-entered (blocks_of p.inner) u now (dropped u q), sum-dropped u q)
sum-leaves q u Preempt p now = omega arith
sum-leaves q u AtEnd p now = omega arith

pub ends : (swap common : ℕ) (accounts : List Account) → whole.Ends (world_with swap common accounts)
ends swap common accounts =
    record {
      loaded = λ q u p now. load_is_done q u (blocks_of p.inner);
      same_choice = λ q u p now. refl;
      none_rises = λ q served now none. none-rises served now q.levels none;
      risen = λ q served now u l is. sum-risen served now u l q.levels is;
      load = λ q u p now. omega arith;
      charged = λ q u now. sum-charged u now q.levels;
      preempted = λ q u now. sum-preempted u now q.levels;
      leaves = λ q u cause p now. sum-leaves q.levels u cause p now;
      gave_up = λ q u p ending now. omega arith;
      line_came = λ q u was p now. sum-woken (line_blocks was) u now q.levels;
      cut_came = λ q u kind p now. sum-dropped u q.levels;
    }

before : Run → ℕ → State → Rattle.std.specs.Prelude.Bool
before r limit s = whole.clock_is_below (machine user_rows) (world r) limit s

pub measure_next : (limit : ℕ) (r : Run) → r.system.clock < limit → measure limit (next limit r) < measure limit r
unfolding next measure
measure_next limit r h = ending.falls (machine user_rows) (world r) (ends r.swap r.common r.accounts) limit r.system (lt-ltb r.system.clock limit h)

pub run_to_next : (limit : ℕ) (r : Run) → r.system.clock < limit → run_to limit (next limit r) ≡ run_to limit r
unfolding next run_to measure
run_to_next limit r h = λ i. record r {
  system =
      laws.whole-step (whole.clock_is_below (machine user_rows) (world r) limit) (theory.next (machine user_rows) (world r) limit) (whole.measure (machine user_rows) (world r) limit) (ending.falls (machine user_rows) (world r) (ends r.swap r.common r.accounts) limit) r.system (lt-ltb r.system.clock limit h) i;
}

pub run_to_done : (limit : ℕ) (r : Run) → limit ≤ r.system.clock → run_to limit r ≡ r
unfolding run_to measure
run_to_done limit r h = λ i. record r {
  system =
      laws.whole-done (whole.clock_is_below (machine user_rows) (world r) limit) (theory.next (machine user_rows) (world r) limit) (whole.measure (machine user_rows) (world r) limit) (ending.falls (machine user_rows) (world r) (ends r.swap r.common r.accounts) limit) r.system (le-ltb r.system.clock limit h) i;
}

pub after_next : (limit : ℕ) (old r : Run) → AfterSteps limit old r → r.system.clock < limit → AfterSteps limit old (next limit r)
unfolding next AfterSteps
after_next limit old r h up = (
  suc h.0,
  ap (next limit) h.1 ∙ (λ i. record old {
    system = sym (laws.repeat-last (whole.clock_is_below (machine user_rows) (world old) limit) (theory.next (machine user_rows) (world old) limit) (whole.measure (machine user_rows) (world old) limit) (ending.falls (machine user_rows) (world old) (ends old.swap old.common old.accounts) limit) h.0 old.system
        (ap (λ (q : Run). whole.clock_is_below (machine user_rows) (world old) limit q.system) (sym h.1) ∙ lt-ltb r.system.clock limit up)) i;
  }),
)

pub after_none : (limit : ℕ) (r : Run) → AfterSteps limit r r
unfolding AfterSteps
after_none limit r = (0, refl)

-- what the loop of a run wants
pub ruleset run_laws = (measure_next, run_to_next, run_to_done, after_next, after_none)
