use Rattle.std.proofs.Common.{◌≡◌, ◌-◌, ◌≤◌, length}
use Rattle.ctss_io.specs.Outside.{prepended}
use Rattle.ctss_io.proofs.whole.read_bytes.Given as goal

-- what is read so far stands before what is left
abbrev pub invariant-reading : goal.invariant-reading
invariant-reading g l = record {
  taken : g.S.Source.left l.fn.source ≡ prepended l.bytes.items (g.S.Source.left l.source);
  size : length l.bytes.items ≤ 4194305;
  faults_grow : g.S.Source.faults l.fn.source ≤ g.S.Source.faults l.source;
}

abbrev pub decreases-reading : goal.decreases-reading
decreases-reading g l = 4194305 - length l.bytes.items
