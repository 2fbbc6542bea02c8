-- claim: the words of instructions.
use Rattle.std.specs.Prelude.{◌≡◌, ℕ, Bool, false, ◌+◌, ◌-◌, ◌*◌, ◌/◌, ◌%◌, ◌^◌, ◌<◌, if◌then◌else◌, nat_eq, nat_lt, nat_le, not, ◌&&◌}
use Rattle.std.specs.Option.{option_map}
use Rattle.std.specs.declared.option.Option.{Option}
use Rattle.word36.specs.Bits.{address_of, tag_of, decrement_of, prefix_of}
use Rattle.opcode_table.specs.Table.{row_of, row_with_number, number_of, class_of}
use Rattle.opcode_table.specs.declared.op.Class.{Class}
use Rattle.opcode_table.specs.declared.op.Class.TheVariants.{Addressed, Direct, Tagged, Prefixed, Group}
use Rattle.opcode_table.specs.declared.op.Row.{Row}
use Rattle.opcode_table.specs.declared.op.Instr.{Instr}

-- The number of the operation that a word names: by its prefix where positions 1 and 2 are not both zero, by sign and
-- address where the code is 0760, and else by positions S and 1 to 11.
abbrev pub number_in : ℕ → ℕ
number_in w =
    if nat_eq (prefix_of w % 4) 0 then (if nat_eq (w / 2 ^ 24 % 2 ^ 11) 0o760 then 0o20000 + w / 2 ^ 35 * 0o100000 + address_of w else w / 2 ^ 24)
    else 0o10000 + prefix_of w

-- the instruction of a row whose fields stand in a word; fields that the class doesn't use are zero
abbrev pub fields_for : Class → ℕ → Row → Instr
fields_for Addressed w r = record { op = r.0; flag = nat_eq (w / 2 ^ 22 % 4) 3; tag = tag_of w; address = address_of w; decrement = 0 }
fields_for Direct w r = record { op = r.0; flag = false; tag = tag_of w; address = address_of w; decrement = 0 }
fields_for Tagged w r = record { op = r.0; flag = false; tag = tag_of w; address = address_of w; decrement = 0 }
fields_for Prefixed w r = record { op = r.0; flag = false; tag = tag_of w; address = address_of w; decrement = decrement_of w }
fields_for Group w r = record { op = r.0; flag = false; tag = tag_of w; address = 0; decrement = 0 }

-- the instruction that a word is
abbrev pub decoded : ℕ → Option Instr
decoded w = option_map (λ (r : Row). fields_for r.3 w r) (row_with_number (number_in w))

abbrev pub word_for : Class → ℕ → Instr → ℕ
word_for Addressed k i = k * 2 ^ 24 + (if i.flag then 3 * 2 ^ 22 else 0) + i.tag * 2 ^ 15 + i.address
word_for Direct k i = k * 2 ^ 24 + i.tag * 2 ^ 15 + i.address
word_for Tagged k i = k * 2 ^ 24 + i.tag * 2 ^ 15 + i.address
word_for Prefixed k i = (k - 0o10000) * 2 ^ 33 + i.decrement * 2 ^ 18 + i.tag * 2 ^ 15 + i.address
word_for Group k i = (k - 0o20000) / 2 ^ 15 * 2 ^ 35 + 0o760 * 2 ^ 24 + i.tag * 2 ^ 15 + (k - 0o20000) % 2 ^ 15

-- the word of an instruction
abbrev pub encoded : Instr → ℕ
encoded i = word_for (class_of i.op) (number_of (row_of i.op)) i

-- whether a number is one of the class
abbrev pub number_fits : Class → ℕ → Bool
number_fits Prefixed k = nat_lt 0o10000 k && nat_lt k 0o10010 && not (nat_eq (k % 4) 0)
number_fits Group k = nat_le 0o20000 k && nat_lt k 0o220000
number_fits _ k = nat_lt k 0o10000 && nat_eq (k / 2 ^ 9 % 4) 0 && not (nat_eq (k % 2 ^ 11) 0o760)

-- the fields fit their places
pub record HasFields (i : Instr) : Type 0 where
  pub tag : i.tag < 2 ^ 3
  pub address : i.address < 2 ^ 15
  pub decrement : i.decrement < 2 ^ 15

-- the fields that the class doesn't use are zero
abbrev pub IsCleanFor : Class → Instr → Type 0
IsCleanFor Addressed i = i.decrement ≡ 0
IsCleanFor Direct i = (i.flag ≡ false) × (i.decrement ≡ 0)
IsCleanFor Tagged i = (i.flag ≡ false) × (i.decrement ≡ 0)
IsCleanFor Prefixed i = i.flag ≡ false
IsCleanFor Group i = (i.flag ≡ false) × (i.address ≡ 0) × (i.decrement ≡ 0)

abbrev pub IsClean : Instr → Type 0
IsClean i = IsCleanFor (class_of i.op) i
