use Rattle.std.proofs.Common.{◌^◌}
use Rattle.console_link.proofs.MemoryLaws.{all_new, all_few}
use Rattle.console_link.proofs.memory.MemoryLink.new.Goals as goal

pub invariant_of-result : goal.invariant_of-result
invariant_of-result c = record {
  news = λ k le. all_new c.args.bytes c.loop-peer.peer-index c.args.peers.now c.loop-peer.connections.items c.loop-peer.invariant k;
  few = all_few c.args.bytes c.loop-peer.peer-index (2 ^ 32) c.args.peers.now c.loop-peer.connections.items c.loop-peer.invariant c.requires;
}
