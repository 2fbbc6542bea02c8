use Rattle.std.proofs.Common.{◌≡◌, ◌-◌}
use Rattle.cmd_program.proofs.Heads.{with_indexes, indexes_to}
use Rattle.cmd_program.proofs.saved.set_indexes.Given as goal

abbrev pub invariant-loop-tag : goal.invariant-loop-tag
invariant-loop-tag l = l.regs ≡ with_indexes l.fn.regs (indexes_to (l.tag - 1) l.words l.fn.regs.index)
