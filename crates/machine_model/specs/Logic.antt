-- claim: the rows of logic, shifts and sense indicators. L is positions P and 1 to 35 of the accumulator, W the word at y.
use Rattle.std.specs.Prelude.{ℕ, ◌*◌, ◌%◌, ◌^◌, List, bit_and, bit_or, bit_xor}
use Rattle.word36.specs.Bits.{logical_of}
use Rattle.arith36.specs.Arith.{logical_sum, compared_logical}
use Rattle.arith36.specs.Shift.{acc_left, acc_right, long_left, long_right, logical_left, logical_right, turned}
use Rattle.cpu_regs.specs.declared.regs.Regs.{Regs}
use Rattle.cpu_regs.specs.Registers.{skip, skip_if, jump_if}
use Rattle.opcode_table.specs.declared.op.Op.{Op}
use Rattle.opcode_table.specs.declared.op.Op.TheVariants as op
use Rattle.opcode_table.specs.declared.op.Instr.{Instr}
use Rattle.machine_model.specs.Step.{Step, went, illegal, at, to_next, put, logic_acc, with_logic, with_ac, with_sum, with_shifted, past, half_of, without, has_ones, has_zeros}

-- a shift's count
abbrev pub count_of : ℕ → ℕ
count_of y = y % 2 ^ 8

abbrev pub with_si : Regs → ℕ → Regs
with_si r v = record r { si = v }

abbrev pub logic_row : Op → Instr → Regs → List ℕ → ℕ → Step
logic_row op.Cal i r core y = at core y (λ w. to_next (with_ac r (logic_acc w)) core)
logic_row op.Ldi i r core y = at core y (λ w. to_next (with_si r w) core)
logic_row op.Slw i r core y = at core y (λ w. put core y r (logical_of r.ac))
logic_row op.Sti i r core y = at core y (λ w. put core y r r.si)
logic_row op.Acl i r core y = at core y (λ w. to_next (with_ac r (logical_sum r.ac w)) core)
logic_row op.Ana i r core y = at core y (λ w. to_next (with_ac r (logic_acc (bit_and (logical_of r.ac) w))) core)
logic_row op.Era i r core y = at core y (λ w. to_next (with_ac r (logic_acc (bit_xor (logical_of r.ac) w))) core)
logic_row op.Ora i r core y = at core y (λ w. to_next (with_ac r (with_logic r.ac (bit_or (logical_of r.ac) w))) core)
logic_row op.Ans i r core y = at core y (λ w. put core y r (bit_and w (logical_of r.ac)))
logic_row op.Ors i r core y = at core y (λ w. put core y r (bit_or w (logical_of r.ac)))
logic_row op.Las i r core y = at core y (λ w. went (skip (past (compared_logical r.ac w)) r) core)
logic_row op.Xcl i r core y = to_next (record r { ac = logic_acc r.mq; mq = logical_of r.ac }) core
logic_row op.Als i r core y = to_next (with_sum r (acc_left r.ac (count_of y))) core
logic_row op.Ars i r core y = to_next (with_ac r (acc_right r.ac (count_of y))) core
logic_row op.Lls i r core y = to_next (with_shifted r (long_left r.ac r.mq (count_of y))) core
logic_row op.Lrs i r core y = to_next (with_shifted r (long_right r.ac r.mq (count_of y))) core
logic_row op.Lgl i r core y = to_next (with_shifted r (logical_left r.ac r.mq (count_of y))) core
logic_row op.Lgr i r core y = to_next (with_shifted r (logical_right r.ac r.mq (count_of y))) core
logic_row op.Rql i r core y = to_next (record r { mq = turned r.mq (count_of y) }) core
logic_row op.Pai i r core y = to_next (with_si r (logical_of r.ac)) core
logic_row op.Pia i r core y = to_next (with_ac r (logic_acc r.si)) core
logic_row op.Oai i r core y = to_next (with_si r (bit_or r.si (logical_of r.ac))) core
logic_row op.Iia i r core y = to_next (with_si r (bit_xor r.si (logical_of r.ac))) core
logic_row op.Ria i r core y = to_next (with_si r (without r.si (logical_of r.ac))) core
logic_row op.Osi i r core y = at core y (λ w. to_next (with_si r (bit_or r.si w)) core)
logic_row op.Iis i r core y = at core y (λ w. to_next (with_si r (bit_xor r.si w)) core)
logic_row op.Ris i r core y = at core y (λ w. to_next (with_si r (without r.si w)) core)
logic_row op.Ont i r core y = at core y (λ w. went (skip_if (has_ones r.si w) r) core)
logic_row op.Oft i r core y = at core y (λ w. went (skip_if (has_zeros r.si w) r) core)
logic_row op.Tio i r core y = went (jump_if (has_ones r.si (logical_of r.ac)) y r) core
logic_row op.Tif i r core y = went (jump_if (has_zeros r.si (logical_of r.ac)) y r) core
logic_row op.Sir i r core y = to_next (with_si r (bit_or r.si (half_of i))) core
logic_row op.Sil i r core y = to_next (with_si r (bit_or r.si (half_of i * 2 ^ 18))) core
logic_row op.Rir i r core y = to_next (with_si r (without r.si (half_of i))) core
logic_row op.Ril i r core y = to_next (with_si r (without r.si (half_of i * 2 ^ 18))) core
logic_row op.Rnt i r core y = went (skip_if (has_ones r.si (half_of i)) r) core
logic_row op.Lnt i r core y = went (skip_if (has_ones r.si (half_of i * 2 ^ 18)) r) core
logic_row op.Rft i r core y = went (skip_if (has_zeros r.si (half_of i)) r) core
logic_row op.Lft i r core y = went (skip_if (has_zeros r.si (half_of i * 2 ^ 18)) r) core
logic_row _ i r core y = illegal
