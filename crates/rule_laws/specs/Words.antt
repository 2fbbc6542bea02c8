-- claim: a word of the table is the word of the instruction that it is, but for positions that its class doesn't use.
use Rattle.std.specs.Prelude.{◌≡◌, ℕ, ◌+◌, ◌-◌, ◌*◌, ◌/◌, ◌%◌, ◌^◌, ◌<◌, ◌↔◌, Bool, if◌then◌else◌, nat_eq, Some}
use Rattle.opcode_table.specs.Table.{class_of}
use Rattle.opcode_table.specs.Words.{decoded, encoded, HasFields, IsClean}
use Rattle.opcode_table.specs.declared.op.Class.{Class}
use Rattle.opcode_table.specs.declared.op.Class.TheVariants.{Addressed, Direct, Tagged, Prefixed, Group}
use Rattle.opcode_table.specs.declared.op.Instr.{Instr}

-- A word with zeros in the positions from one to another. Positions are numbered from the left, from 0, which is the
-- sign, to 35.
abbrev pub zeros_in : (first last : ℕ) → ℕ → ℕ
zeros_in first last w = w / 2 ^ (36 - first) * 2 ^ (36 - first) + w % 2 ^ (35 - last)

-- ones in both positions of the flag, 12 and 13
abbrev pub has_flag : ℕ → Bool
has_flag w = nat_eq (w / 2 ^ 22 % 4) 3

-- A word with zeros in the positions that its class doesn't use. Those are 12 to 17; but an address that can be
-- indirect has its flag in 12 and 13 where both are one, and an operation of a prefix uses all.
abbrev pub cleared : Class → ℕ → ℕ
cleared Addressed w = if has_flag w then zeros_in 14 17 w else zeros_in 12 17 w
cleared Direct w = zeros_in 12 17 w
cleared Tagged w = zeros_in 12 17 w
cleared Prefixed w = w
cleared Group w = zeros_in 12 17 w

-- A word is an instruction just where the instruction's fields fit, those that its class doesn't use are zero, and its
-- own word is that word with zeros in the positions that the class doesn't use.
abbrev pub CodeIsBack : Type 0
CodeIsBack =
    (w : ℕ) (i : Instr) → w < 2 ^ 36
    → (decoded w ≡ Some i) ↔ (HasFields i × IsClean i × (encoded i ≡ cleared (class_of i.op) w))
