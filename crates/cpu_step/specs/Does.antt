-- proof: what an operation asks of its instruction, place and registers, and what it does by its row of the table.
use Rattle.std.specs.Prelude.{ℕ, List, ◌≡◌, ◌<◌, ◌^◌}
use Rattle.cpu_regs.specs.declared.regs.Regs.{Regs}
use Rattle.cpu_regs.specs.declared.regs.OpEnd.{OpEnd}
use Rattle.opcode_table.specs.declared.op.Op.{Op}
use Rattle.opcode_table.specs.declared.op.Instr.{Instr}
use Rattle.opcode_table.specs.Words.{HasFields}
use Rattle.machine_model.specs.Step.{Step}
use Rattle.machine_model.specs.Results.{ended, Keeps}

-- an instruction whose fields fit, at a place of 15 bits; the instruction counter has 15 bits too
pub record IsAtPlace (i : Instr) (y : ℕ) (r : Regs) : Type 0 where
  pub fields : HasFields i
  pub place : y < 2 ^ 15
  pub ic : r.ic < 2 ^ 15

-- an operation at the place y that ended so, and led from r and core to s and d, as its row says
pub record DoesRow (rows : Op → Instr → Regs → List ℕ → ℕ → Step) (i : Instr) (y : ℕ) (end : OpEnd) (r s : Regs)
    (core d : List ℕ) : Type 0 where
  pub row : ended end s d ≡ rows i.op i r core y
  pub outside : Keeps end r s core d
  pub ic : s.ic < 2 ^ 15
