-- claim: the registers at the start, their index numbers, and where the instruction counter goes.
use Rattle.std.specs.Prelude.{ℕ, Bool, false, ◌+◌, ◌%◌, ◌^◌, if◌then◌else◌, replicate}
use Rattle.cpu_regs.specs.Index.{index_at, with_index}
use Rattle.cpu_regs.specs.declared.regs.Regs.{Regs}

abbrev pub xr : Regs → ℕ → ℕ
xr r tag = index_at r.index tag

abbrev pub set_xr : Regs → ℕ → ℕ → Regs
set_xr r tag v = record r { index = with_index r.index tag v }

-- all zero and off
abbrev pub no_registers : Regs
no_registers =
    record {
      ac = record { negative = false; magnitude = 0 };
      mq = 0;
      si = 0;
      ic = 0;
      overflow = false;
      divide_check = false;
      index = replicate 7 0;
    }

-- n places further on, round the end of core
abbrev pub skip : ℕ → Regs → Regs
skip n r = record r { ic = (r.ic + n) % 2 ^ 15 }

-- past the next instruction where a condition holds
abbrev pub skip_if : Bool → Regs → Regs
skip_if b r = skip (if b then 2 else 1) r

abbrev pub jump : ℕ → Regs → Regs
jump y r = record r { ic = y }

-- to y where a condition holds, and else to the next instruction
abbrev pub jump_if : Bool → ℕ → Regs → Regs
jump_if b y r = if b then jump y r else skip 1 r
