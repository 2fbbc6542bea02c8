use Rattle.std.proofs.Common.{◌≡◌, drop}
use Rattle.console_link.specs.Memory.{is_listed as is_named}
use Rattle.console_link.proofs.memory.is_listed.Given as goal

abbrev pub invariant-loop-at : goal.invariant-loop-at
invariant-loop-at l = is_named l.list l.call l.number ≡ is_named (drop l.at-index l.list) l.call l.number
