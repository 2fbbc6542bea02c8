-- claim: what a step of the machine gives, and the words that the rows of the instruction table are written in.
use Rattle.std.specs.Prelude.{ℕ, Bool, true, false, ◌+◌, ◌-◌, ◌*◌, ◌/◌, ◌%◌, ◌^◌, List, length, slice_index, slice_set, if◌then◌else◌, nat_lt, nat_eq, bit_and, ◌||◌}
use Rattle.word36.specs.Bits.{Acc37, is_minus, magnitude_of}
use Rattle.cpu_regs.specs.declared.regs.Regs.{Regs}
use Rattle.cpu_regs.specs.Registers.{skip}
use Rattle.arith36.specs.declared.Sum.{Sum}
use Rattle.arith36.specs.declared.Pair.{Pair}
use Rattle.arith36.specs.declared.Side.{Side}
use Rattle.arith36.specs.declared.Side.TheVariants.{Greater, Equal, Less}
use Rattle.arith36.specs.declared.shift.Shifted.{Shifted}
use Rattle.opcode_table.specs.declared.op.Instr.{Instr}

-- the next registers and core, or why there are none: a supervisor entry with its word, a word that is no instruction,
-- an address outside
pub data Step : Type 0 where
  went : Regs → List ℕ → Step
  halt : Regs → List ℕ → Step
  entry : ℕ → Step
  illegal : Step
  outside : ℕ → Step

-- goes on with the word at y; an address is legal where it lies within the core
abbrev pub at : List ℕ → ℕ → (ℕ → Step) → Step
at core y f = if nat_lt y (length core) then f (slice_index core y) else outside y

-- to the next instruction
abbrev pub to_next : Regs → List ℕ → Step
to_next r core = went (skip 1 r) core

-- another word at y, and to the next instruction
abbrev pub put : List ℕ → ℕ → Regs → ℕ → Step
put core y r w = went (skip 1 r) (slice_set core y w)

-- the two's complement of 15 bits
abbrev pub complement : ℕ → ℕ
complement v = (2 ^ 15 - v) % 2 ^ 15

-- the accumulator with sign and magnitude of a word, Q and P zero
abbrev pub acc_of : ℕ → Acc37
acc_of w = record { negative = is_minus w; magnitude = magnitude_of w }

-- the accumulator with 36 bits in P and 1 to 35, S and Q zero
abbrev pub logic_acc : ℕ → Acc37
logic_acc l = record { negative = false; magnitude = l }

-- other 36 bits in P and 1 to 35, S and Q as they were
abbrev pub with_logic : Acc37 → ℕ → Acc37
with_logic a l = record a { magnitude = a.magnitude / 2 ^ 36 * 2 ^ 36 + l }

-- positions 21 to 35, and 3 to 17, of the accumulator
abbrev pub acc_address : Acc37 → ℕ
acc_address a = a.magnitude % 2 ^ 15

abbrev pub acc_decrement : Acc37 → ℕ
acc_decrement a = a.magnitude / 2 ^ 18 % 2 ^ 15

abbrev pub with_ac : Regs → Acc37 → Regs
with_ac r a = record r { ac = a }

-- a sum or a left shift; the overflow indicator goes on where it overflows
abbrev pub with_sum : Regs → Sum → Regs
with_sum r s = record r { ac = s.acc; overflow = r.overflow || s.overflow }

abbrev pub with_pair : Regs → Pair → Regs
with_pair r p = record r { ac = p.acc; mq = p.mq }

abbrev pub with_shifted : Regs → Shifted → Regs
with_shifted r s = record r { ac = s.acc; mq = s.mq; overflow = r.overflow || s.overflow }

-- how far a comparison goes on
abbrev pub past : Side → ℕ
past Greater = 1
past Equal = 2
past Less = 3

abbrev pub is_greater : Side → Bool
is_greater Greater = true
is_greater Equal = false
is_greater Less = false

-- positions 18 to 35 of an instruction
abbrev pub half_of : Instr → ℕ
half_of i = i.tag * 2 ^ 15 + i.address

-- 36 bits without the ones of others
abbrev pub without : ℕ → ℕ → ℕ
without x ones = bit_and x (2 ^ 36 - 1 - ones)

-- whether all ones of the second number are ones, or zeros, of the first
abbrev pub has_ones : ℕ → ℕ → Bool
has_ones x ones = nat_eq (bit_and x ones) ones

abbrev pub has_zeros : ℕ → ℕ → Bool
has_zeros x ones = nat_eq (bit_and x ones) 0
