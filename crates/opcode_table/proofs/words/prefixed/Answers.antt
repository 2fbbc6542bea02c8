use Rattle.std.proofs.Common.{ℕ, ◌+◌, ap, sym, ◌∙◌}
use Rattle.opcode_table.specs.Table.{row_with_number}
use Rattle.opcode_table.proofs.Arith.{low_three}
use Rattle.opcode_table.proofs.words.prefixed.Goals as goal

pub returns-in-0-clause-row : goal.returns-in-0-clause-row
returns-in-0-clause-row c = ap (λ (k : ℕ). row_with_number (0o10000 + k)) (sym c.in-0.is ∙ low_three c.args.prefix c.requires)

pub returns-in-1-clause-row : goal.returns-in-1-clause-row
returns-in-1-clause-row c = ap (λ (k : ℕ). row_with_number (0o10000 + k)) (sym c.in-1.is ∙ low_three c.args.prefix c.requires)

pub returns-in-2-clause-row : goal.returns-in-2-clause-row
returns-in-2-clause-row c = ap (λ (k : ℕ). row_with_number (0o10000 + k)) (sym c.in-2.is ∙ low_three c.args.prefix c.requires)

pub returns-in-3-clause-row : goal.returns-in-3-clause-row
returns-in-3-clause-row c = ap (λ (k : ℕ). row_with_number (0o10000 + k)) (sym c.in-3.is ∙ low_three c.args.prefix c.requires)

pub returns-in-4-clause-row : goal.returns-in-4-clause-row
returns-in-4-clause-row c = ap (λ (k : ℕ). row_with_number (0o10000 + k)) (sym c.in-4.is ∙ low_three c.args.prefix c.requires)

pub returns-in-5-clause-row : goal.returns-in-5-clause-row
returns-in-5-clause-row c = ap (λ (k : ℕ). row_with_number (0o10000 + k)) (sym c.in-5.is ∙ low_three c.args.prefix c.requires)

pub returns-in-6-clause-row : goal.returns-in-6-clause-row
returns-in-6-clause-row c = ap (λ (k : ℕ). row_with_number (0o10000 + k)) (sym c.in-6.is ∙ low_three c.args.prefix c.requires)

pub returns-in-7-clause-row : goal.returns-in-7-clause-row
returns-in-7-clause-row c = ap (λ (k : ℕ). row_with_number (0o10000 + k)) (sym c.in-7.is ∙ low_three c.args.prefix c.requires)
