use Rattle.std.proofs.Common.{◌≡◌, map, take}
use Rattle.console_link.specs.Memory.{connection_of}
use Rattle.console_link.proofs.memory.MemoryLink.new.Given as goal

abbrev pub invariant-loop-peer : goal.invariant-loop-peer
invariant-loop-peer l = l.connections.items ≡ map (connection_of l.bytes) (take l.peer-index l.peers)
