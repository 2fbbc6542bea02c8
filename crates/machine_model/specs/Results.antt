-- proof: what the answers of the code mean.
use Rattle.std.specs.Prelude.{ℕ, List, ◌≡◌}
use Rattle.cpu_regs.specs.declared.regs.Regs.{Regs}
use Rattle.cpu_regs.specs.declared.regs.OpEnd.{OpEnd}
use Rattle.cpu_regs.specs.declared.regs.OpEnd.TheVariants.{Went, Halt, Outside}
use Rattle.machine_model.specs.Step.{Step, went, halt, outside}

-- how an operation ended, with the registers and the core behind it
abbrev pub ended : OpEnd → Regs → List ℕ → Step
ended Went r core = went r core
ended Halt r core = halt r core
ended (Outside a) r core = outside a

-- an address outside leaves everything as it was, and what halts stores nothing
abbrev pub Keeps : OpEnd → Regs → Regs → List ℕ → List ℕ → Type 0
Keeps (Outside a) r s core d = (s ≡ r) × (d ≡ core)
Keeps Went r s core d = Unit {0}
Keeps Halt r s core d = d ≡ core

-- an operation that doesn't halt
abbrev pub DoesNotHalt : OpEnd → Type 0
DoesNotHalt Went = Unit {0}
DoesNotHalt Halt = ⊥
DoesNotHalt (Outside a) = Unit {0}
