-- proof: what the answers of a step mean.
use Rattle.std.specs.Prelude.{ℕ, Bool, true, false, List, ◌≡◌}
use Rattle.cpu_regs.specs.declared.regs.Regs.{Regs}
use Rattle.cpu_regs.specs.declared.regs.OpEnd.{OpEnd}
use Rattle.cpu_regs.specs.declared.regs.OpEnd.TheVariants as op_end
use Rattle.opcode_table.specs.declared.op.Class.{Class}
use Rattle.opcode_table.specs.declared.op.Class.TheVariants as class
use Rattle.machine_model.specs.Step.{Step}
use Rattle.machine_model.specs.Step as step
use Rattle.cpu_step.specs.declared.Stepped.{Stepped}
use Rattle.cpu_step.specs.declared.Stepped.TheVariants as stepped

-- how a step ended, with the registers and the core behind it
abbrev pub outcome : Stepped → Regs → List ℕ → Step
outcome stepped.Went r core = step.went r core
outcome stepped.Halt r core = step.halt r core
outcome (stepped.Entry w) r core = step.entry w
outcome stepped.Illegal r core = step.illegal
outcome (stepped.Outside a) r core = step.outside a

-- as what a step ends that an operation ended
abbrev pub stepped_by : OpEnd → Stepped
stepped_by op_end.Went = stepped.Went
stepped_by op_end.Halt = stepped.Halt
stepped_by (op_end.Outside a) = stepped.Outside a

-- what neither goes on nor halts leaves everything as it was, and what halts stores nothing
abbrev pub Stays : Stepped → Regs → Regs → List ℕ → List ℕ → Type 0
Stays stepped.Went r s core d = Unit {0}
Stays stepped.Halt r s core d = d ≡ core
Stays (stepped.Entry w) r s core d = (s ≡ r) × (d ≡ core)
Stays stepped.Illegal r s core d = (s ≡ r) × (d ≡ core)
Stays (stepped.Outside a) r s core d = (s ≡ r) × (d ≡ core)

-- whether the flag of an operation of the class counts
abbrev pub is_addressed : Class → Bool
is_addressed class.Addressed = true
is_addressed _ = false

-- what doesn't go on leaves everything as it was
abbrev pub Stands : OpEnd → Regs → Regs → List ℕ → List ℕ → Type 0
Stands op_end.Went r s core d = Unit {0}
Stands op_end.Halt r s core d = (s ≡ r) × (d ≡ core)
Stands (op_end.Outside a) r s core d = (s ≡ r) × (d ≡ core)
