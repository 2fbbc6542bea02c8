-- A fetch, and an XEC, whose word is known.
use Rattle.std.proofs.Common.{◌≡◌, ℕ, Bool, true, false, List, Ok, Err, if◌then◌else◌, ap, nat_lt, length, slice_index, ◌∙◌}
use Rattle.cpu_regs.specs.Core.{load_of}
use Rattle.cpu_regs.specs.declared.regs.Regs.{Regs}
use Rattle.cpu_regs.specs.declared.port.Outside.{Outside}
use Rattle.opcode_table.specs.Table.{class_of, kind_of}
use Rattle.opcode_table.specs.Words.{decoded}
use Rattle.opcode_table.specs.declared.op.Instr.{Instr}
use Rattle.machine_model.specs.Step.{Step}
use Rattle.machine_model.specs.Machine.{step_of, instruction, is_xec, place_of, executed, once}

pub loaded : (b : Bool) (x w : ℕ) (e : Outside) (f : ℕ → Step) (d : Step) → (if b then Ok x else Err e) ≡ Ok w → (if b then f x else d) ≡ f w
loaded true x w e f d h = let same : x ≡ w = cc in ap f same
loaded false x w e f d h = cc

pub executed_at : (i : Instr) (r : Regs) (core : List ℕ) (y w : ℕ) → is_xec (kind_of i.op) ≡ true → place_of (class_of i.op) i r core ≡ Ok y → load_of core y ≡ Ok w → executed i r core ≡ once w r core
executed_at i r core y w x p h = rw (x, p) (loaded (nat_lt y (length core)) (slice_index core y) w record {} (λ v. once v r core) _ h)

pub fetched : (r : Regs) (core : List ℕ) (w : ℕ) (last : Step) → load_of core r.ic ≡ Ok w → instruction (decoded w) (λ i. executed i r core) ≡ last → step_of r core ≡ last
fetched r core w last h e =
    loaded (nat_lt r.ic (length core)) (slice_index core r.ic) w record {} (λ v. instruction (decoded v) (λ i. executed i r core)) _ h ∙ e
