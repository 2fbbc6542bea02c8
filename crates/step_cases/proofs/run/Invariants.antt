use Rattle.std.proofs.Common.{◌≡◌, ◌<◌, ◌≤◌, ◌^◌, ◌-◌}
use Rattle.machine_model.specs.Step.{went}
use Rattle.machine_model.specs.Runs.{many}
use Rattle.step_cases.proofs.run.Given as goal

abbrev pub invariant-steps : goal.invariant-steps
invariant-steps l = record {
  most : l.done ≤ l.steps;
  steps : many l.done l.fn.regs l.fn.core ≡ went l.regs l.core;
  ic : l.regs.ic < 2 ^ 15;
}

abbrev pub decreases-steps : goal.decreases-steps
decreases-steps l = l.steps - l.done
