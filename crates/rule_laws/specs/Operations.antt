-- claim: the machine by its operations: what a step does at each word of each operation, said without the decoder.
use Rattle.std.specs.Prelude.{◌≡◌, ℕ, Bool, true, false, ◌<◌, ◌≤◌, ◌^◌, List, length, slice_index}
use Rattle.cpu_regs.specs.declared.regs.Regs.{Regs}
use Rattle.cpu_regs.specs.Registers.{xr}
use Rattle.opcode_table.specs.Table.{class_of, kind_of}
use Rattle.opcode_table.specs.Words.{encoded, HasFields, IsClean}
use Rattle.opcode_table.specs.declared.op.Class.{Class}
use Rattle.opcode_table.specs.declared.op.Class.TheVariants as class
use Rattle.opcode_table.specs.declared.op.Instr.{Instr}
use Rattle.machine_model.specs.Step.{illegal, outside}
use Rattle.machine_model.specs.Machine.{step_of, row, is_xec, indexed, place_in}
use Rattle.rule_laws.specs.Words.{cleared}

-- a word is one of an operation with these fields, whatever stands in the positions that its class doesn't use
pub record IsWordOf (i : Instr) (w : ℕ) : Type 0 where
  pub below : w < 2 ^ 36
  pub fields : HasFields i
  pub clean : IsClean i
  pub word : encoded i ≡ cleared (class_of i.op) w

-- the address less the index number
abbrev pub direct : Instr → Regs → ℕ
direct i r = indexed i.address (xr r i.tag)

-- The place that an operation works at: by its class the address as it stands, or less the index number; and with the flag the place that the
-- word there names.
abbrev pub WorksAt : Class → Bool → Instr → Regs → List ℕ → ℕ → Type 0
WorksAt class.Addressed true i r core y = (direct i r < length core) × (y ≡ place_in r (slice_index core (direct i r)))
WorksAt class.Addressed false i r core y = y ≡ direct i r
WorksAt class.Direct flag i r core y = y ≡ direct i r
WorksAt class.Tagged flag i r core y = y ≡ i.address
WorksAt class.Prefixed flag i r core y = y ≡ i.address
WorksAt class.Group flag i r core y = y ≡ i.address

-- the word at an address is the instruction's
pub record IsAt (i : Instr) (y : ℕ) (core : List ℕ) : Type 0 where
  pub within : y < length core
  pub word : IsWordOf i (slice_index core y)

-- an indirect address outside the core is needed
pub record IsBeyond (i : Instr) (r : Regs) (core : List ℕ) : Type 0 where
  pub addressed : class_of i.op ≡ class.Addressed
  pub flag : i.flag ≡ true
  pub beyond : length core ≤ direct i r

-- an XEC is the next instruction, with the address that it works at
pub record Executes (i : Instr) (r : Regs) (core : List ℕ) (y : ℕ) : Type 0 where
  pub next : IsAt i r.ic core
  pub xec : is_xec (kind_of i.op) ≡ true
  pub works : WorksAt (class_of i.op) i.flag i r core y

-- What a step does, by the instruction that is the next one: what its operation does at the address that it works at. An XEC does
-- what the instruction at its address would do in its own place, unless that is an XEC. Words of no operation are illegal, and
-- addresses beyond the core are outside.
pub record OperationsDo : Type 0 where
  pub does : (i : Instr) (r : Regs) (core : List ℕ) (y : ℕ) → IsAt i r.ic core → is_xec (kind_of i.op) ≡ false
      → WorksAt (class_of i.op) i.flag i r core y → step_of r core ≡ row (kind_of i.op) i r core y
  pub beyond : (i : Instr) (r : Regs) (core : List ℕ) → IsAt i r.ic core → IsBeyond i r core → step_of r core ≡ outside (direct i r)
  pub unknown : (r : Regs) (core : List ℕ) → r.ic < length core → ((i : Instr) → IsWordOf i (slice_index core r.ic) → ⊥)
      → slice_index core r.ic < 2 ^ 36 → step_of r core ≡ illegal
  pub past : (r : Regs) (core : List ℕ) → length core ≤ r.ic → step_of r core ≡ outside r.ic
  pub executes : (i j : Instr) (r : Regs) (core : List ℕ) (y z : ℕ) → Executes i r core y → IsAt j y core → is_xec (kind_of j.op) ≡ false
      → WorksAt (class_of j.op) j.flag j r core z → step_of r core ≡ row (kind_of j.op) j r core z
  pub executes_beyond : (i j : Instr) (r : Regs) (core : List ℕ) (y : ℕ) → Executes i r core y → IsAt j y core → is_xec (kind_of j.op) ≡ false
      → IsBeyond j r core → step_of r core ≡ outside (direct j r)
  pub executes_itself : (i j : Instr) (r : Regs) (core : List ℕ) (y : ℕ) → Executes i r core y → IsAt j y core → is_xec (kind_of j.op) ≡ true
      → step_of r core ≡ illegal
  pub executes_unknown : (i : Instr) (r : Regs) (core : List ℕ) (y : ℕ) → Executes i r core y → y < length core
      → ((j : Instr) → IsWordOf j (slice_index core y) → ⊥) → slice_index core y < 2 ^ 36 → step_of r core ≡ illegal
  pub executes_past : (i : Instr) (r : Regs) (core : List ℕ) (y : ℕ) → Executes i r core y → length core ≤ y → step_of r core ≡ outside y
