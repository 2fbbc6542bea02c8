use Rattle.std.proofs.Common.{◌≡◌, ◌≤◌, ℕ, List, length, true}
use Rattle.console_wire.specs.Items.{half_of}
use Rattle.console_server.specs.Given.{StaysReady}
use Rattle.console_server.specs.Readings.{ReadSoFar}
use Rattle.console_server.specs.Consoles.{KeepsOpen}
use Rattle.console_server.proofs.reading.drain.Given as goal

abbrev pub invariant-reading : goal.invariant-reading
invariant-reading g l = record {
  left : l.left ≤ 1024;
  buffer : length l.buffer ≡ 1024;
  here : (g.L.Link.seen l.link).is_open l.id ≡ true;
  link : KeepsOpen (g.L.Link.seen l.fn.link) (g.L.Link.seen l.link);
  sofar : (piece : List ℕ) → l.fn.wire ≡ half_of piece → ReadSoFar g.C.LiveCore.Goes l.tick l.console l.id piece l.left (g.L.Link.seen l.fn.link) (g.L.Link.seen l.link) l.fn.book.core l.book.core l.fn.book.events.items l.book.events.items l.wire;
  core : StaysReady g.C.LiveCore.seen g.C.LiveCore.Sound l.fn.book.core l.book.core;
}

abbrev pub decreases-reading : goal.decreases-reading
decreases-reading g l = l.left
