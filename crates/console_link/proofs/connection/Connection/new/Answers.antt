use Rattle.std.proofs.Common.{rules, arith}
use Rattle.console_link.proofs.Cuts.{bytes_more, cuts_next, cuts_fit, cuts_lie}
use Rattle.console_link.proofs.connection.Connection.new.Goals as goal

pub loop-piece-preserved : goal.loop-piece-preserved
loop-piece-preserved c =
    let bytes = bytes_more c.args.peer.now.pieces.items c.loop-piece.piece-index c.piece-item.result c.loop-piece.bytes.items c.extend_from_slice.new.self.items (omega arith) (rw c.deref-piece-items.ensures.value at c.piece-item.is) c.loop-piece.invariant.bytes (search rules) in
    record {
      bytes = bytes;
      cuts = cuts_next c.args.peer.now.pieces.items c.loop-piece.piece-index c.piece-item.result c.loop-piece.cuts.items c.push.new.self.items c.extend_from_slice.new.self.items (omega arith) (rw c.deref-piece-items.ensures.value at c.piece-item.is) c.loop-piece.invariant.cuts bytes (search rules);
    }

pub invariant_of-result : goal.invariant_of-result
invariant_of-result c = record {
  within = omega arith;
  cuts = cuts_fit _ _ _ c.loop-piece.invariant.bytes c.loop-piece.invariant.cuts;
  behind = cuts_lie _ _ _ c.loop-piece.invariant.bytes c.loop-piece.invariant.cuts;
  sent = search rules;
  room = search rules;
}
