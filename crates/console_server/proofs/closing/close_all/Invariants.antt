use Rattle.std.proofs.Common.{◌≡◌, ◌≤◌, length, take, drop}
use Rattle.console_server.specs.Readings.{DidAll}
use Rattle.console_server.specs.Seats.{AreSeated}
use Rattle.console_server.specs.Server.{closes}
use Rattle.console_server.proofs.closing.close_all.Given as goal

abbrev pub invariant-consoles : goal.invariant-consoles
invariant-consoles g l = record {
  within : l.i ≤ length l.fn.seats.items;
  many : length l.seats.items ≡ length l.fn.seats.items;
  seated : AreSeated (g.L.Link.seen l.link).is_open l.seats.items;
  rest : drop l.i l.seats.items ≡ drop l.i l.fn.seats.items;
  closed : DidAll (closes (take l.i l.fn.seats.items)) (g.L.Link.seen l.fn.link) (g.L.Link.seen l.link);
}
