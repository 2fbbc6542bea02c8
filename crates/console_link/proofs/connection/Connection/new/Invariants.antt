use Rattle.std.proofs.Common.{◌≡◌, map, take}
use Rattle.std.specs.List.{flat_map}
use Rattle.console_link.specs.Memory.{cuts_of}
use Rattle.console_link.proofs.connection.Connection.new.Given as goal

abbrev pub invariant-loop-piece : goal.invariant-loop-piece
invariant-loop-piece l = record {
  bytes : l.bytes.items ≡ flat_map (λ piece. piece) (map (λ piece. piece.items) (take l.piece-index l.peer.pieces.items));
  cuts : l.cuts.items ≡ cuts_of 0 (map (λ piece. piece.items) (take l.piece-index l.peer.pieces.items));
}
