use Rattle.std.proofs.Common.{◌≤◌}
use Rattle.console_server.specs.Turns.{Desk}
use Rattle.console_server.specs.Server.{state, KeepsServer, IsReady, IsDeskOf}
use Rattle.console_server.specs.Conversation.{TurnsAreDone}
use Rattle.console_server.proofs.server.Server.turns.Given as goal

abbrev pub invariant-turns : goal.invariant-turns
invariant-turns g l = record {
  done : (desk : Desk) → IsDeskOf (state l.fn.self) desk → TurnsAreDone g.C.LiveCore.Goes g.C.LiveCore.seen g.L.Link.seen l.number desk (state l.fn.self) (state l.self);
  tables : KeepsServer g.L.Link.seen (state l.fn.self) (state l.self);
  ready : IsReady g.C.LiveCore.seen g.C.LiveCore.Sound (state l.self);
  listener : (g.L.Link.seen (state l.fn.self).link.now).faults ≤ (g.L.Link.seen (state l.self).link.now).faults;
  drum : (g.C.LiveCore.seen (state l.fn.self).core).drum_faults ≤ (g.C.LiveCore.seen (state l.self).core).drum_faults;
  disk : (g.C.LiveCore.seen (state l.fn.self).core).disk_faults ≤ (g.C.LiveCore.seen (state l.self).core).disk_faults;
}
