use Rattle.std.proofs.Common.{◌≡◌}
use Rattle.console_tests.proofs.shown.play.Given as goal

abbrev pub invariant-events : goal.invariant-events
invariant-events g l = record {
  same : g.R.LiveCore.seen l.core ≡ g.R.LiveCore.seen l.fn.core;
  sound : g.R.LiveCore.Sound l.core;
}
