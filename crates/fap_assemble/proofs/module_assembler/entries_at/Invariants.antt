use Rattle.std.proofs.Common.{◌≡◌, ◌++◌, drop}
use Rattle.fap_assemble.specs.Judging.{relocated_in}
use Rattle.fap_assemble.specs.ModuleEnds.{entries_named}
use Rattle.fap_assemble.proofs.module_assembler.entries_at.Given as goal

abbrev pub invariant-loop-name : goal.invariant-loop-name
invariant-loop-name l = l.entries ++ entries_named (relocated_in l.r) (drop l.name-index l.names) ≡ entries_named (relocated_in l.r) l.names
