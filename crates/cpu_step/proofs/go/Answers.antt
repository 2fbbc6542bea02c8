use Rattle.std.proofs.Common.{sym}
use Rattle.cpu_step.proofs.Xec.{fetched}
use Rattle.cpu_step.proofs.go.Goals as goal

pub returns-then-prefix-eq-TIX-clause-goes : goal.returns-then-prefix-eq-TIX-clause-goes
returns-then-prefix-eq-TIX-clause-goes g c =
    λ goes. fetched c.args.regs.now (g.M.MemoryPort.words c.args.core.now) c.in-Ok.fetched _ (sym c.in-Ok.ensures) (c.go_prefixed.ensures.goes goes)

pub returns-then-prefix-ne0-clause-goes : goal.returns-then-prefix-ne0-clause-goes
returns-then-prefix-ne0-clause-goes g c =
    λ goes. fetched c.args.regs.now (g.M.MemoryPort.words c.args.core.now) c.in-Ok.fetched _ (sym c.in-Ok.ensures) (c.go_prefixed-then-prefix-ne0.ensures.goes goes)

pub returns-clause-goes : goal.returns-clause-goes
returns-clause-goes g c =
    λ goes. fetched c.args.regs.now (g.M.MemoryPort.words c.args.core.now) c.in-Ok.fetched _ (sym c.in-Ok.ensures) (c.go_coded.ensures.goes goes)
