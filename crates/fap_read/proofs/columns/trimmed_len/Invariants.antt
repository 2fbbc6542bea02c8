use Rattle.std.proofs.Common.{◌≡◌, ◌≤◌, length, take}
use Rattle.ctss_types.specs.Line.{trimmed}
use Rattle.fap_read.proofs.columns.trimmed_len.Given as goal

abbrev pub invariant-trimming : goal.invariant-trimming
invariant-trimming l = record {
  within : l.end ≤ length l.text;
  same : trimmed (take l.end l.text) ≡ trimmed l.text;
}

abbrev pub decreases-trimming : goal.decreases-trimming
decreases-trimming l = l.end
