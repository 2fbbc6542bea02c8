use Rattle.std.proofs.Common.{sym}
use Rattle.cpu_step.proofs.Xec.{fetched}
use Rattle.cpu_step.proofs.step.Goals as goal

pub returns-then-prefix-ne0-clause-step_of : goal.returns-then-prefix-ne0-clause-step_of
returns-then-prefix-ne0-clause-step_of g c =
    sym (fetched c.args.regs.now (g.M.MemoryPort.words c.args.core.now) c.in-Ok.word _ (sym c.in-Ok.ensures) (sym c.do_prefixed.ensures.does))

pub returns-else-prefix-ne0-clause-step_of : goal.returns-else-prefix-ne0-clause-step_of
returns-else-prefix-ne0-clause-step_of g c =
    sym (fetched c.args.regs.now (g.M.MemoryPort.words c.args.core.now) c.in-Ok.word _ (sym c.in-Ok.ensures) (sym c.do_coded.ensures.does))
