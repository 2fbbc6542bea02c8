use Rattle.std.proofs.Common.{◌≡◌}
use Rattle.std.specs.Io.KnownBytes.{Keeps}
use Rattle.ctss_io.proofs.standard.StdSourceSource.read.Given as goal

-- no try so far has moved a byte or counted a fault
abbrev pub invariant-loop : goal.invariant-loop
invariant-loop g l = record {
  kept : Keeps (g.R.Read.remaining l.fn.self.inner) (g.R.Read.remaining l.self-inside.reader);
  faults : l.self-inside.faults ≡ l.fn.self.faults;
}
