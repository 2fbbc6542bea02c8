-- claim: one step of the machine: fetch, decode, do.
use Rattle.std.specs.Prelude.{ℕ, Bool, true, false, ◌+◌, ◌-◌, ◌%◌, ◌^◌, List, length, slice_index, if◌then◌else◌, nat_lt, Some, None, Ok, Err}
use Rattle.std.specs.declared.result.Result.{Result}
use Rattle.std.specs.declared.option.Option.{Option}
use Rattle.word36.specs.Bits.{address_of, tag_of}
use Rattle.cpu_regs.specs.declared.regs.Regs.{Regs}
use Rattle.cpu_regs.specs.Registers.{xr}
use Rattle.opcode_table.specs.Table.{class_of, kind_of}
use Rattle.opcode_table.specs.Words.{decoded}
use Rattle.opcode_table.specs.declared.op.Instr.{Instr}
use Rattle.opcode_table.specs.declared.op.Class.{Class}
use Rattle.opcode_table.specs.declared.op.Class.TheVariants as class
use Rattle.opcode_table.specs.declared.op.Kind.{Kind}
use Rattle.opcode_table.specs.declared.op.Kind.TheVariants as kind
use Rattle.machine_model.specs.Step.{Step, entry, illegal, outside, at}
use Rattle.machine_model.specs.Fixed.{fixed_row}
use Rattle.machine_model.specs.Logic.{logic_row}
use Rattle.machine_model.specs.Index.{index_row}

-- the address less an index number
abbrev pub indexed : ℕ → ℕ → ℕ
indexed a x = (a + 2 ^ 15 - x) % 2 ^ 15

-- the place that a word's address and tag name; the word's own flag isn't looked at
abbrev pub place_in : Regs → ℕ → ℕ
place_in r w = indexed (address_of w) (xr r (tag_of w))

-- the place that the instruction works at, or the address outside
abbrev pub place_of : Class → Instr → Regs → List ℕ → Result ℕ ℕ
place_of class.Addressed i r core =
    let y = indexed i.address (xr r i.tag) in
    if i.flag then (if nat_lt y (length core) then Ok (place_in r (slice_index core y)) else Err y) else Ok y
place_of class.Direct i r core = Ok (indexed i.address (xr r i.tag))
place_of class.Tagged i r core = Ok i.address
place_of class.Prefixed i r core = Ok i.address
place_of class.Group i r core = Ok i.address

-- goes on with the place
abbrev pub there : Result ℕ ℕ → (ℕ → Step) → Step
there (Ok y) f = f y
there (Err a) f = outside a

-- the row of an instruction that is no XEC; a supervisor entry gives the word at its place
abbrev pub row : Kind → Instr → Regs → List ℕ → ℕ → Step
row kind.Fixed i r core y = fixed_row i.op i r core y
row kind.Logic i r core y = logic_row i.op i r core y
row kind.Index i r core y = index_row i.op i r core y
row kind.Tia i r core y = at core y (λ w. entry w)
row kind.Xec i r core y = illegal

abbrev pub done : Instr → Regs → List ℕ → Step
done i r core = there (place_of (class_of i.op) i r core) (λ y. row (kind_of i.op) i r core y)

-- goes on with the instruction that a word is
abbrev pub instruction : Option Instr → (Instr → Step) → Step
instruction None f = illegal
instruction (Some i) f = f i

abbrev pub is_xec : Kind → Bool
is_xec kind.Xec = true
is_xec _ = false

-- the instruction that an XEC names, as if it stood in its place; an XEC there is illegal
abbrev pub once : ℕ → Regs → List ℕ → Step
once w r core = instruction (decoded w) (λ j. if is_xec (kind_of j.op) then illegal else done j r core)

abbrev pub executed : Instr → Regs → List ℕ → Step
executed i r core =
    if is_xec (kind_of i.op) then there (place_of (class_of i.op) i r core) (λ y. at core y (λ w. once w r core))
    else done i r core

-- one step
abbrev pub step_of : Regs → List ℕ → Step
step_of r core = at core r.ic (λ w. instruction (decoded w) (λ i. executed i r core))
