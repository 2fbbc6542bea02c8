use Rattle.std.proofs.Common.{◌≡◌, ◌-◌, ◌<◌, ◌≤◌, ◌^◌}
use Rattle.machine_model.specs.Step.{went}
use Rattle.machine_model.specs.Runs.{many}
use Rattle.cpu_step.proofs.run.Given as goal

abbrev pub invariant-steps : goal.invariant-steps
invariant-steps g l = record {
  most : l.done ≤ l.most;
  steps : many l.done l.fn.regs (g.M.MemoryPort.words l.fn.core) ≡ went l.regs (g.M.MemoryPort.words l.core);
  keeps : g.M.MemoryPort.Keeps l.fn.core l.core;
  ic : l.regs.ic < 2 ^ 15;
}

abbrev pub decreases-steps : goal.decreases-steps
decreases-steps g l = l.most - l.done
