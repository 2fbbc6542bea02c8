use Rattle.std.proofs.Common.{◌≡◌}
use Rattle.std.specs.Io.KnownBytes.{Keeps}
use Rattle.ctss_io.proofs.standard.StdSinkSink.put.Given as goal

-- no try so far has moved a byte or counted a fault
abbrev pub invariant-loop : goal.invariant-loop
invariant-loop g l = record {
  kept : Keeps (g.W.Write.contents l.fn.self.inner) (g.W.Write.contents l.self-inside.writer);
  faults : l.self-inside.faults ≡ l.fn.self.faults;
}
