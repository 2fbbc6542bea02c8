use Rattle.std.proofs.Common.{arith}
use Rattle.machine_model.proofs.Runs.{many_more}
use Rattle.cpu_step.proofs.run.Goals as goal

pub steps-preserved : goal.steps-preserved
steps-preserved g c =
    let inv = c.steps.invariant in
    let up = c.steps-test.true in
    record {
      most = omega (arith, up);
      steps = many_more c.steps.done c.args.regs.now c.steps.regs c.go.new.regs _ _ _ inv.steps (c.go.ensures.goes c.if-not-go.false);
      keeps = g.met.M.MemoryPort.goes_on _ _ _ inv.keeps c.go.ensures.keeps;
      ic = c.go.ensures.ic;
    }
