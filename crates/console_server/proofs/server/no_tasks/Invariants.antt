use Rattle.std.proofs.Common.{◌≡◌, replicate, None}
use Rattle.console_server.proofs.server.no_tasks.Given as goal

abbrev pub invariant-consoles : goal.invariant-consoles
invariant-consoles l = l.seats.items ≡ replicate l.counter None
