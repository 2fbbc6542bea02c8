-- claim: the rows of loads, stores, fixed-point arithmetic and the accumulator's signs. W is the word at y.
use Rattle.std.specs.Prelude.{ℕ, Bool, true, false, not, ◌+◌, ◌-◌, ◌*◌, ◌/◌, ◌%◌, ◌^◌, List, nat_eq, ◌||◌}
use Rattle.word36.specs.Bits.{is_minus, magnitude_of, with_address, with_decrement, acc_word}
use Rattle.arith36.specs.Arith.{sum_of, product_of, rounded, round_overflows, divided, compared}
use Rattle.arith36.specs.declared.Divide.{Divide}
use Rattle.arith36.specs.declared.Divide.TheVariants.{Divided, Check}
use Rattle.cpu_regs.specs.declared.regs.Regs.{Regs}
use Rattle.cpu_regs.specs.Registers.{skip, skip_if}
use Rattle.opcode_table.specs.declared.op.Op.{Op}
use Rattle.opcode_table.specs.declared.op.Op.TheVariants as op
use Rattle.opcode_table.specs.declared.op.Instr.{Instr}
use Rattle.machine_model.specs.Step.{Step, went, halt, illegal, at, to_next, put, acc_of, acc_address, acc_decrement, with_ac, with_sum, with_pair, past}

-- the word with positions S and 1 to 17 of another
abbrev pub with_left : ℕ → ℕ → ℕ
with_left w v = v / 2 ^ 18 * 2 ^ 18 + w % 2 ^ 18

abbrev pub with_tag : ℕ → ℕ → ℕ
with_tag w v = w / 2 ^ 18 * 2 ^ 18 + v * 2 ^ 15 + w % 2 ^ 15

abbrev pub with_prefix : ℕ → ℕ → ℕ
with_prefix w v = v * 2 ^ 33 + w % 2 ^ 33

-- rounded by the multiplier-quotient
abbrev pub round : Regs → Regs
round r = record r { ac = rounded r.ac r.mq; overflow = r.overflow || round_overflows r.ac r.mq }

-- a division, or a divide check and then whatever follows on it
abbrev pub divide : Divide → (Regs → List ℕ → Step) → Regs → List ℕ → Step
divide (Divided p) checked r core = to_next (with_pair r p) core
divide Check checked r core = checked (skip 1 (record r { divide_check = true })) core

abbrev pub with_sign : Bool → Regs → Regs
with_sign negative r = record r { ac = record r.ac { negative = negative } }

abbrev pub with_magnitude : ℕ → Regs → Regs
with_magnitude m r = record r { ac = record r.ac { magnitude = m } }

abbrev pub fixed_row : Op → Instr → Regs → List ℕ → ℕ → Step
fixed_row op.Cla i r core y = at core y (λ w. to_next (with_ac r (acc_of w)) core)
fixed_row op.Cls i r core y = at core y (λ w. to_next (with_ac r (record { negative = not (is_minus w); magnitude = magnitude_of w })) core)
fixed_row op.Ldq i r core y = at core y (λ w. to_next (record r { mq = w }) core)
fixed_row op.Stz i r core y = at core y (λ w. put core y r 0)
fixed_row op.Sto i r core y = at core y (λ w. put core y r (acc_word r.ac))
fixed_row op.Stq i r core y = at core y (λ w. put core y r r.mq)
fixed_row op.Slq i r core y = at core y (λ w. put core y r (with_left w r.mq))
fixed_row op.Sta i r core y = at core y (λ w. put core y r (with_address w (acc_address r.ac)))
fixed_row op.Std i r core y = at core y (λ w. put core y r (with_decrement w (acc_decrement r.ac)))
fixed_row op.Stt i r core y = at core y (λ w. put core y r (with_tag w (r.ac.magnitude / 2 ^ 15 % 2 ^ 3)))
fixed_row op.Stl i r core y = at core y (λ w. put core y r (with_address w ((r.ic + 1) % 2 ^ 15)))
fixed_row op.Stp i r core y = at core y (λ w. put core y r (with_prefix w (r.ac.magnitude / 2 ^ 33 % 2 ^ 3)))
fixed_row op.Add i r core y = at core y (λ w. to_next (with_sum r (sum_of r.ac (is_minus w) (magnitude_of w))) core)
fixed_row op.Sub i r core y = at core y (λ w. to_next (with_sum r (sum_of r.ac (not (is_minus w)) (magnitude_of w))) core)
fixed_row op.Adm i r core y = at core y (λ w. to_next (with_sum r (sum_of r.ac false (magnitude_of w))) core)
fixed_row op.Sbm i r core y = at core y (λ w. to_next (with_sum r (sum_of r.ac true (magnitude_of w))) core)
fixed_row op.Mpy i r core y = at core y (λ w. to_next (with_pair r (product_of r.mq w)) core)
fixed_row op.Mpr i r core y = at core y (λ w. to_next (round (with_pair r (product_of r.mq w))) core)
fixed_row op.Dvp i r core y = at core y (λ w. divide (divided r.ac r.mq w) went r core)
fixed_row op.Dvh i r core y = at core y (λ w. divide (divided r.ac r.mq w) halt r core)
fixed_row op.Cas i r core y = at core y (λ w. went (skip (past (compared r.ac w)) r) core)
fixed_row op.Zet i r core y = at core y (λ w. went (skip_if (nat_eq (magnitude_of w) 0) r) core)
fixed_row op.Nzt i r core y = at core y (λ w. went (skip_if (not (nat_eq (magnitude_of w) 0)) r) core)
fixed_row op.Xca i r core y = to_next (record r { ac = acc_of r.mq; mq = acc_word r.ac }) core
fixed_row op.Clm i r core y = to_next (with_magnitude 0 r) core
fixed_row op.Lbt i r core y = went (skip_if (nat_eq (r.ac.magnitude % 2) 1) r) core
fixed_row op.Pbt i r core y = went (skip_if (nat_eq (r.ac.magnitude / 2 ^ 35 % 2) 1) r) core
fixed_row op.Chs i r core y = to_next (with_sign (not r.ac.negative) r) core
fixed_row op.Ssp i r core y = to_next (with_sign false r) core
fixed_row op.Ssm i r core y = to_next (with_sign true r) core
fixed_row op.Com i r core y = to_next (with_magnitude (2 ^ 37 - 1 - r.ac.magnitude) r) core
fixed_row op.Rnd i r core y = to_next (round r) core
fixed_row op.Dct i r core y = went (skip_if (not r.divide_check) (record r { divide_check = false })) core
fixed_row _ i r core y = illegal
