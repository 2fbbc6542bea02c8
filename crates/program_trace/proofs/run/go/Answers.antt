use Rattle.std.proofs.Common.{◌≡◌, ◌-◌, ◌<◌, ◌++◌, true, false, List, rules, refl, sym, ap, ◌∙◌, arith}
use Rattle.user_model.specs.Session.{works_in}
use Rattle.program_trace.specs.Lone.{TracedUser}
use Rattle.program_trace.specs.Traces.{TracedStep, step_between, steps_from}
use Rattle.program_trace.proofs.Sessions.{own_rises}
use Rattle.program_trace.proofs.States.{gone_still, cannot_go, works_not, steps_more, gone_more, steps_end, steps_all, gone_all, waits_told, went_told}
use Rattle.program_trace.proofs.run.go.Goals as goal

pub returns-in-Waits-clause-steps : goal.returns-in-Waits-clause-steps
returns-in-Waits-clause-steps c =
    let l = c.steps in
    sym (steps_end l.steps l.left l.alone (cannot_go l.alone (waits_told l.alone _ _ c.in_ok-same.ensures c.in-Waits.is).0)) ∙ l.invariant.0

pub returns-in-Waits-clause-gone : goal.returns-in-Waits-clause-gone
returns-in-Waits-clause-gone c =
    let l = c.steps in
    let told = waits_told l.alone _ _ c.in_ok-same.ensures c.in-Waits.is in
    told.1 ∙ sym (gone_still l.left l.alone (cannot_go l.alone told.0)) ∙ l.invariant.1

pub steps-preserved : goal.steps-preserved
steps-preserved c =
    let l = c.steps in
    let next = c.in-Went.next in
    let told = went_told l.alone _ _ c.in_ok-same.ensures c.in-Went.is in
    let works : works_in l.alone.user.inner.state ≡ true = search rules in
    let some : 0 < l.left = c.steps-test.true in (
      ap (λ (ss : List TracedStep). ss ++ steps_from (l.left - 1) next) (c.in-Ok.ensures l.alone c.found_by-found.ensures)
          ∙ sym (steps_more l.steps l.left l.alone next (step_between l.alone next) some works told.0 told.1 refl) ∙ l.invariant.0,
      sym (gone_more l.left l.alone next some works told.0 told.1) ∙ l.invariant.1,
      omega (arith, some, l.invariant.2, ap (λ (a : TracedUser). a.user.own) told.1, own_rises l.alone),
    )

pub returns-clause-steps : goal.returns-clause-steps
returns-clause-steps c =
    let l = c.steps in
    sym (steps_all l.steps l.left l.alone (omega (arith, c.steps-test.false))) ∙ l.invariant.0

pub returns-clause-gone : goal.returns-clause-gone
returns-clause-gone c =
    let l = c.steps in
    sym (gone_all l.left l.alone (omega (arith, c.steps-test.false))) ∙ l.invariant.1

pub returns-then-not-works-clause-steps : goal.returns-then-not-works-clause-steps
returns-then-not-works-clause-steps c =
    let l = c.steps in
    let still : works_in l.alone.user.inner.state ≡ false = search rules in
    sym (steps_end l.steps l.left l.alone (works_not l.alone still)) ∙ l.invariant.0

pub returns-then-not-works-clause-gone : goal.returns-then-not-works-clause-gone
returns-then-not-works-clause-gone c =
    let l = c.steps in
    let still : works_in l.alone.user.inner.state ≡ false = search rules in
    sym (gone_still l.left l.alone (works_not l.alone still)) ∙ l.invariant.1
