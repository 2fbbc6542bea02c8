use Rattle.std.proofs.Common.{subst, sym, take}
use Rattle.std.specs.Str.{IsUtf8}
use Rattle.opcode_table.specs.declared.op.Row.{Row}
use Rattle.opcode_table.proofs.Names.{is_utf8}
use Rattle.opcode_table.proofs.rows.name.Goals as goal

pub unreachable-requires : goal.unreachable-requires
unreachable-requires c = c.in-Err.ensures.cases.0 (subst (λ (r : Row). IsUtf8 (take 3 r.2)) (sym c.row.ensures) (is_utf8 c.args.op))
