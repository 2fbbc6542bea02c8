use Rattle.std.proofs.Common.{◌≡◌, ◌≤◌, length, take}
use Rattle.ctss_types.specs.Line.{trimmed}
use Rattle.ctss_types.proofs.line.trimmed_len.Given as goal

abbrev pub invariant-trimming : goal.invariant-trimming
invariant-trimming l = record {
  within : l.end ≤ length l.bytes;
  same : trimmed (take l.end l.bytes) ≡ trimmed l.bytes;
}

abbrev pub decreases-trimming : goal.decreases-trimming
decreases-trimming l = l.end
