-- proof: many steps of the machine.
use Rattle.std.specs.Prelude.{ℕ, zero, suc, List}
use Rattle.cpu_regs.specs.declared.regs.Regs.{Regs}
use Rattle.machine_model.specs.Step.{Step, went, halt, entry, illegal, outside}
use Rattle.machine_model.specs.Machine.{step_of}

-- the next step, where one went on
abbrev pub behind : Step → Step
behind (went r core) = step_of r core
behind (halt r core) = halt r core
behind (entry w) = entry w
behind illegal = illegal
behind (outside a) = outside a

-- so many steps, each behind one that went on
unfoldable pub many : ℕ → Regs → List ℕ → Step
many zero r core = went r core
many (suc n) r core = behind (many n r core)
