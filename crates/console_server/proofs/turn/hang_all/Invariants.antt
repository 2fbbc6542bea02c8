use Rattle.std.proofs.Common.{◌≤◌, length, take}
use Rattle.console_server.specs.Given.{IsGiven, StaysReady}
use Rattle.console_server.specs.Turns.{hangs}
use Rattle.console_server.proofs.turn.hang_all.Given as goal

abbrev pub invariant-consoles : goal.invariant-consoles
invariant-consoles g l = record {
  within : l.i ≤ length l.failed;
  given : IsGiven g.C.LiveCore.Goes (hangs l.tick 1 (take l.i l.failed)) l.fn.book.core l.book.core l.fn.book.events.items l.book.events.items;
  core : StaysReady g.C.LiveCore.seen g.C.LiveCore.Sound l.fn.book.core l.book.core;
}
