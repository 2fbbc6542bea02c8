-- A step of a user alone is a step of the run in which that user is the only one, or two where a load comes first.
use Rattle.std.proofs.Common.{◌≡◌, ℕ, suc, ◌+◌, ◌*◌, ◌<◌, Bool, true, false, not, List, [], Option, Some, None}
use Rattle.std.proofs.Common.{refl, sym, ap, subst, ◌∙◌, arith}
use Rattle.ctss_types.specs.declared.file.FileBody.{FileBody}
use Rattle.file_model.specs.Commons.{reply_to, files_after}
use Rattle.time_sharing.specs.Machine.{CommonOp, Reply}
use Rattle.time_sharing.specs.System.{Timed, Service, Cause, service_after, at}
use Rattle.user_model.specs.Inner.{blocks_of}
use Rattle.user_model.specs.Session.{nobody}
use Rattle.user_model.specs.User.{User, can_step, asks_common, step}
use Rattle.plan_model.specs.Levels.{chosen, user_of, level_in}
use Rattle.plan_model.specs.Loads.{dumps, reads}
use Rattle.plan_model.specs.Plan.{must_load}
use Rattle.plan_model.proofs.LoadLaws.{loaded_is}
use Rattle.system_model.specs.Run.{Run, next, run_to, AfterSteps, attended, otherwise, rising}
use Rattle.system_model.specs.Run.{by_due, by_rising, due_of}
use Rattle.system_model.specs.Cases.{brought, user_at, with_user, reply_for, commons_for}
use Rattle.system_model.specs.Cases.{stepped as served_step}
use Rattle.system_model.proofs.RunLaws.{after_next, run_to_next}
use Rattle.system_model.proofs.CaseLaws.{next_due, begins, goes_on, attended_loads, attended_steps}
use Rattle.program_trace.specs.Lone.{TracedUser, track_quota, stepped, common_reply, common_after}
use Rattle.program_trace.proofs.Sessions.{own_rises}
use Rattle.trace_laws.specs.Laws.{IsStateAt}

-- says that a run to a limit comes to this moment, from which on it is the rest of the whole run
pub record Reaches (limit : ℕ) (start r : Run) : Type 0 where
  pub after : AfterSteps limit start r
  pub rest : run_to limit start ≡ run_to limit r

pub reaches_next : (limit : ℕ) (start r s : Run) → Reaches limit start r → r.system.clock < limit → next limit r ≡ s
    → Reaches limit start s
reaches_next limit start r s h up is =
    record {
      after = subst (AfterSteps limit start) is (after_next limit start r h.after up);
      rest = h.rest ∙ sym (run_to_next limit r up) ∙ ap (run_to limit) is;
    }

-- Says that a run comes to a moment of this state, at which no event is left and nobody else is served. Loads take no
-- tick, and the common files have as many tracks as in a trace.
pub record Follows (limit : ℕ) (start : Run) (a : TracedUser) (r : Run) : Type 0 where
  pub reached : Reaches limit start r
  pub swap : r.swap ≡ 0
  pub quota : r.common ≡ track_quota
  pub events : r.system.events ≡ []
  pub served : (v : Service) → r.system.service ≡ Some v → v.user ≡ 1
  pub state : IsStateAt a r

-- says that at each moment of a run the first user is chosen if it can step, and nobody rises
pub record HasOne (limit : ℕ) (start : Run) : Type 0 where
  pub stands :
      (r : Run) → AfterSteps limit start r → can_step (at nobody r.system.users 1) ≡ true
      → user_of (chosen r.system.plan.levels) ≡ Some 1
  pub stay : (r : Run) → AfterSteps limit start r → rising r ≡ None

-- what the common files reply and are is as in a trace

reply_same : (r : Run) (files : List FileBody) → r.common ≡ track_quota → r.system.files ≡ files
    → (made : Option CommonOp) → reply_for r made ≡ common_reply made files
reply_same r files quota is None = refl
reply_same r files quota is (Some op) = λ j. reply_to (quota j) (is j) op

commons_same : (r : Run) (files : List FileBody) → r.common ≡ track_quota → r.system.files ≡ files
    → (made : Option CommonOp) → commons_for r made ≡ common_after made files
commons_same r files quota is None = is
commons_same r files quota is (Some op) = λ j. files_after (quota j) (is j) op

-- a step of a user of these users, with such replies, leaves these users and such common files
users_by : (u now : ℕ) → List User → (Option CommonOp → Reply) → List User
users_by u now users reply =
    let p = user_at u users in
    with_user u (step now (reply (asks_common p)) p) users

commons_by : (u : ℕ) → List User → (Option CommonOp → List FileBody) → List FileBody
commons_by u users commons = commons (asks_common (user_at u users))

step_is_alone : (a : TracedUser) (v : Service) (r : Run) → v.user ≡ 1 → r.common ≡ track_quota → IsStateAt a r
    → IsStateAt (stepped a) (served_step v r)
unfolding served_step stepped users_by commons_by
step_is_alone a v r mine quota s =
    record {
      users = λ j. users_by (mine j) (s.clock j) (s.users j) (λ made. reply_same r a.common quota s.common made j);
      common = λ j. commons_by (mine j) (s.users j) (λ made. commons_same r a.common quota s.common made j);
      clock = ap suc s.clock ∙ sym (own_rises a);
    }

served_on : (v w : Service) (cause : Option Cause) → v.user ≡ 1 → service_after v cause ≡ Some w → w.user ≡ 1
served_on v w None mine is =
    let same : record v { ran = suc v.ran } ≡ w = cc in
    ap (λ (x : Service). x.user) (sym same) ∙ mine
served_on v w (Some cause) mine is = cc

-- whether some of a user's blocks are not in core
abbrev lacks_core : ℕ → Run → Bool
lacks_core u r = must_load r.system.plan u (blocks_of (user_at u r.system.users).inner)

-- a load brings them all
brought_lacks_none : (r : Run) → lacks_core 1 (brought 1 r) ≡ false
unfolding brought
brought_lacks_none r = ap not (loaded_is r.system.plan.places 1 (blocks_of (user_at 1 r.system.users).inner))

-- the user alone can step where the one of the run can
can_at : (a : TracedUser) (r : Run) → IsStateAt a r → can_step a.user ≡ true
    → can_step (at nobody r.system.users 1) ≡ true
can_at a r s can = ap (λ (us : List User). can_step (at nobody us 1)) s.users ∙ can

some_user : (v : Service) → v.user ≡ 1 → 0 < v.user
some_user v mine = omega (arith, mine)

module _ (limit : ℕ) (start : Run) (one : HasOne limit start) where
  -- the user that can step is attended to
  attends : (a : TracedUser) (r : Run) → Follows limit start a r → can_step a.user ≡ true
      → (v : Service) × (v.user ≡ 1) × (next limit r ≡ attended v r)
  attends a r f can = by_service r.system.service refl
    where
      chosen_first : next limit r ≡ otherwise limit (Some 1) r.system.service r
      chosen_first =
          let is = one.stands r f.reached.after (can_at a r f.state can) in
          next_due limit r
          ∙ ap (λ (es : List Timed). by_due limit (due_of es r.system.clock) r) f.events
          ∙ ap (λ (o : Option (ℕ × ℕ)). by_rising limit o r) (one.stay r f.reached.after)
          ∙ ap (λ (o : Option ℕ). otherwise limit o r.system.service r) is

      with_service : (o : Option Service) → r.system.service ≡ o → next limit r ≡ otherwise limit (Some 1) o r
      with_service o is = chosen_first ∙ ap (λ (x : Option Service). otherwise limit (Some 1) x r) is

      by_service : (o : Option Service) → r.system.service ≡ o
          → (v : Service) × (v.user ≡ 1) × (next limit r ≡ attended v r)
      by_service None is =
          let level = level_in (chosen r.system.plan.levels) in
          let v : Service = record { tick = r.system.clock; user = 1; level = level; ran = 0 } in
          (v, refl, with_service None is ∙ begins limit 1 r)
      by_service (Some v) is =
          let mine = f.served v is in
          (v, mine, with_service (Some v) is ∙ goes_on limit 1 v r mine)

  early : (a : TracedUser) (r : Run) → Follows limit start a r → a.user.own < limit → r.system.clock < limit
  early a r f left = subst (λ (t : ℕ). t < limit) (sym f.state.clock) left

  -- where its blocks are in core, its step is done
  steps_in_core : (a : TracedUser) (v : Service) (r : Run) → Follows limit start a r → can_step a.user ≡ true
      → a.user.own < limit → v.user ≡ 1 → next limit r ≡ attended v r → lacks_core 1 r ≡ false
      → Follows limit start (stepped a) (served_step v r)
  unfolding served_step
  steps_in_core a v r f can left mine is lacks =
      let none = subst (λ (u : ℕ). lacks_core u r ≡ false) (sym mine) lacks in
      let first = can_at a r f.state can in
      let able = subst (λ (u : ℕ). can_step (user_at u r.system.users) ≡ true) (sym mine) first in
      let done = is ∙ attended_steps v r (some_user v mine) none able in
      record {
        reached = reaches_next limit start r (served_step v r) f.reached (early a r f left) done;
        swap = f.swap;
        quota = f.quota;
        events = f.events;
        served = λ w. served_on v w _ mine;
        state = step_is_alone a v r mine f.quota f.state;
      }

  -- a load takes no tick
  loads : (a : TracedUser) (v : Service) (r : Run) → Follows limit start a r → a.user.own < limit → v.user ≡ 1
      → next limit r ≡ attended v r → lacks_core 1 r ≡ true → Follows limit start a (brought 1 r)
  unfolding brought
  loads a v r f left mine is lacks =
      let some = subst (λ (u : ℕ). lacks_core u r ≡ true) (sym mine) lacks in
      let done = is ∙ attended_loads v r (some_user v mine) some ∙ ap (λ (u : ℕ). brought u r) mine in
      let n = blocks_of (user_at 1 r.system.users).inner in
      let moved = dumps r.system.plan.places 1 n + reads r.system.plan.places 1 n in
      let free : r.system.clock + 0 * moved ≡ r.system.clock = omega arith in
      record {
        reached = reaches_next limit start r (brought 1 r) f.reached (early a r f left) done;
        swap = f.swap;
        quota = f.quota;
        events = f.events;
        served = f.served;
        state =
            record {
              users = f.state.users;
              common = f.state.common;
              clock = ap (λ (k : ℕ). r.system.clock + k * moved) f.swap ∙ free ∙ f.state.clock;
            };
      }

  -- so the run comes to the state after the step
  pub moves_on : (a : TracedUser) (r : Run) → Follows limit start a r → can_step a.user ≡ true → a.user.own < limit
      → (s : Run) × Follows limit start (stepped a) s
  moves_on a r f can left = by_core (lacks_core 1 r) refl
    where
      by_core : (b : Bool) → lacks_core 1 r ≡ b → (s : Run) × Follows limit start (stepped a) s
      by_core false lacks =
          let v = attends a r f can in
          (served_step v.0 r, steps_in_core a v.0 r f can left v.1 v.2 lacks)
      by_core true lacks =
          let v = attends a r f can in
          let g = loads a v.0 r f left v.1 v.2 lacks in
          let w = attends a (brought 1 r) g can in
          (served_step w.0 (brought 1 r), steps_in_core a w.0 (brought 1 r) g can left w.1 w.2 (brought_lacks_none r))
