use Rattle.std.proofs.Common.{◌≡◌, ◌++◌, take}
use Rattle.cmd_program.proofs.saved.push_core.Given as goal

abbrev pub invariant-pushing : goal.invariant-pushing
invariant-pushing g l = l.words.items ≡ l.fn.words.items ++ take l.place (g.M.MemoryPort.words l.core)
