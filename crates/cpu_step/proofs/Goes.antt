-- Operations that go on.
use Rattle.std.proofs.Common.{◌≡◌, ℕ, true, List, refl}
use Rattle.cpu_regs.specs.declared.regs.Regs.{Regs}
use Rattle.cpu_regs.specs.declared.regs.OpEnd.{OpEnd}
use Rattle.cpu_regs.specs.declared.regs.OpEnd.TheVariants as op_end
use Rattle.opcode_table.specs.Table.{class_of}
use Rattle.opcode_table.specs.declared.op.Op.{Op}
use Rattle.opcode_table.specs.declared.op.Op.TheVariants as op
use Rattle.opcode_table.specs.declared.op.Class.TheVariants as class
use Rattle.machine_model.specs.Results.{DoesNotHalt, Keeps}
use Rattle.cpu_step.specs.IndexFamilies.{is_count}
use Rattle.cpu_step.specs.Results.{Stands}

-- the operations of prefixes are the counts
pub prefixed_counts : (o : Op) → class_of o ≡ class.Prefixed → is_count o ≡ true
prefixed_counts op.Txi h = refl
prefixed_counts op.Tix h = refl
prefixed_counts op.Txh h = refl
prefixed_counts op.Tnx h = refl
prefixed_counts op.Txl h = refl
prefixed_counts _ h = cc

-- what doesn't halt and doesn't go on leaves everything as it was
pub stands : (e : OpEnd) (r s : Regs) (core d : List ℕ) → DoesNotHalt e → Keeps e r s core d → Stands e r s core d
stands op_end.Went r s core d goes keeps = tt
stands op_end.Halt r s core d goes keeps = absurd goes
stands (op_end.Outside a) r s core d goes keeps = keeps
