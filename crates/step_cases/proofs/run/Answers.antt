use Rattle.std.proofs.Common.{◌+◌, sym, ◌∙◌, arith}
use Rattle.machine_model.proofs.Runs.{many_none, many_more, many_sum}
use Rattle.step_cases.proofs.Runs.{stops}
use Rattle.step_cases.proofs.run.Goals as goal

pub steps-init : goal.steps-init
steps-init c = record { most = omega arith; steps = many_none c.args.regs.now c.args.core.now; ic = c.requires }

pub steps-preserved : goal.steps-preserved
steps-preserved c =
    let before = c.steps.invariant in
    let up = c.steps-test.true in
    let most = c.run-done.ensures.most in
    let many = many_sum c.steps.done c.run-done.result c.args.regs.now c.steps.regs c.args.core.now c.steps.core before.steps ∙ c.run-done.ensures.steps in
    record {
      most = omega (arith, up, most, before.most);
      steps = many_more (c.steps.done + c.run-done.result) c.args.regs.now c.run-done.new.regs c.step.new.regs c.args.core.now c.run-done.new.core c.step.new.core many (sym c.in-Went.ensures.step_of);
      ic = c.step.ensures.ic;
    }

pub returns-in_default : goal.returns-in_default
returns-in_default c =
    let up = c.steps-test.true in
    let most = c.run-done.ensures.most in
    let many = many_sum c.steps.done c.run-done.result c.args.regs.now c.steps.regs c.args.core.now c.steps.core c.steps.invariant.steps ∙ c.run-done.ensures.steps in
    stops (c.steps.done + c.run-done.result) c.args.steps c.step.result c.args.regs.now c.run-done.new.regs c.step.new.regs c.args.core.now c.run-done.new.core c.step.new.core (omega (arith, up, most)) c.in_default.not-Went many c.step.ensures.step_of
