use Rattle.std.proofs.Common.{◌≡◌, ℕ, List, take}
use Rattle.console_wire.specs.Items.{half_of, items_from, piece_from}
use Rattle.console_server.specs.Given.{IsGiven, StaysReady}
use Rattle.console_server.specs.Readings.{all_timed}
use Rattle.console_server.proofs.book.Book.feed.Given as goal

abbrev pub invariant-loop-byte : goal.invariant-loop-byte
invariant-loop-byte g l = record {
  given : (piece : List ℕ) → l.fn.wire ≡ half_of piece → IsGiven g.C.LiveCore.Goes (all_timed l.tick l.console (items_from piece (take l.byte-index l.bytes))) l.fn.self.core l.self.core l.fn.self.events.items l.self.events.items;
  half : (piece : List ℕ) → l.fn.wire ≡ half_of piece → l.wire ≡ half_of (piece_from piece (take l.byte-index l.bytes));
  core : StaysReady g.C.LiveCore.seen g.C.LiveCore.Sound l.fn.self.core l.self.core;
}
