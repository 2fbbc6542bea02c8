-- claim: the rows of index registers, transfers and stops. W is the word at y, and the tag names the index register.
use Rattle.std.specs.Prelude.{ℕ, false, not, ◌+◌, ◌-◌, ◌*◌, ◌%◌, ◌^◌, List, if◌then◌else◌, nat_eq, nat_lt}
use Rattle.word36.specs.Bits.{is_minus, address_of, decrement_of, with_address, with_decrement}
use Rattle.arith36.specs.Arith.{compared}
use Rattle.cpu_regs.specs.declared.regs.Regs.{Regs}
use Rattle.cpu_regs.specs.Registers.{xr, set_xr, skip, jump, jump_if}
use Rattle.opcode_table.specs.declared.op.Op.{Op}
use Rattle.opcode_table.specs.declared.op.Op.TheVariants as op
use Rattle.opcode_table.specs.declared.op.Instr.{Instr}
use Rattle.machine_model.specs.Step.{Step, went, halt, illegal, at, to_next, put, complement, logic_acc, acc_address, acc_decrement, with_ac, is_greater}

abbrev pub index_row : Op → Instr → Regs → List ℕ → ℕ → Step
index_row op.Lxa i r core y = at core y (λ w. to_next (set_xr r i.tag (address_of w)) core)
index_row op.Lxd i r core y = at core y (λ w. to_next (set_xr r i.tag (decrement_of w)) core)
index_row op.Lac i r core y = at core y (λ w. to_next (set_xr r i.tag (complement (address_of w))) core)
index_row op.Ldc i r core y = at core y (λ w. to_next (set_xr r i.tag (complement (decrement_of w))) core)
index_row op.Axt i r core y = to_next (set_xr r i.tag y) core
index_row op.Axc i r core y = to_next (set_xr r i.tag (complement y)) core
index_row op.Pax i r core y = to_next (set_xr r i.tag (acc_address r.ac)) core
index_row op.Pdx i r core y = to_next (set_xr r i.tag (acc_decrement r.ac)) core
index_row op.Pac i r core y = to_next (set_xr r i.tag (complement (acc_address r.ac))) core
index_row op.Pdc i r core y = to_next (set_xr r i.tag (complement (acc_decrement r.ac))) core
index_row op.Sxa i r core y = at core y (λ w. put core y r (with_address w (xr r i.tag)))
index_row op.Sxd i r core y = at core y (λ w. put core y r (with_decrement w (xr r i.tag)))
index_row op.Sca i r core y = at core y (λ w. put core y r (with_address w (complement (xr r i.tag))))
index_row op.Scd i r core y = at core y (λ w. put core y r (with_decrement w (complement (xr r i.tag))))
index_row op.Pxa i r core y = to_next (with_ac r (logic_acc (xr r i.tag))) core
index_row op.Pxd i r core y = to_next (with_ac r (logic_acc (xr r i.tag * 2 ^ 18))) core
index_row op.Pca i r core y = to_next (with_ac r (logic_acc (complement (xr r i.tag)))) core
index_row op.Pcd i r core y = to_next (with_ac r (logic_acc (complement (xr r i.tag) * 2 ^ 18))) core
index_row op.Tra i r core y = went (jump y r) core
index_row op.Tze i r core y = went (jump_if (nat_eq r.ac.magnitude 0) y r) core
index_row op.Tnz i r core y = went (jump_if (not (nat_eq r.ac.magnitude 0)) y r) core
index_row op.Tpl i r core y = went (jump_if (not r.ac.negative) y r) core
index_row op.Tmi i r core y = went (jump_if r.ac.negative y r) core
index_row op.Tov i r core y = went (jump_if r.overflow y (record r { overflow = false })) core
index_row op.Tno i r core y = went (jump_if (not r.overflow) y (record r { overflow = false })) core
index_row op.Tqp i r core y = went (jump_if (not (is_minus r.mq)) y r) core
index_row op.Tlq i r core y = went (jump_if (is_greater (compared r.ac r.mq)) y r) core
index_row op.Tsx i r core y = went (jump y (set_xr r i.tag (complement r.ic))) core
index_row op.Txi i r core y = went (jump y (set_xr r i.tag ((xr r i.tag + i.decrement) % 2 ^ 15))) core
index_row op.Tix i r core y = if nat_lt i.decrement (xr r i.tag) then went (jump y (set_xr r i.tag (xr r i.tag - i.decrement))) core else to_next r core
index_row op.Tnx i r core y = if nat_lt i.decrement (xr r i.tag) then to_next (set_xr r i.tag (xr r i.tag - i.decrement)) core else went (jump y r) core
index_row op.Txh i r core y = went (jump_if (nat_lt i.decrement (xr r i.tag)) y r) core
index_row op.Txl i r core y = went (jump_if (not (nat_lt i.decrement (xr r i.tag))) y r) core
index_row op.Nop i r core y = to_next r core
index_row op.Htr i r core y = halt (jump y r) core
index_row op.Hpr i r core y = halt (skip 1 r) core
index_row _ i r core y = illegal
