use Rattle.std.proofs.Common.{◌≡◌, ◌-◌, ◌≤◌, length, take}
use Rattle.ctss_io.specs.Outside.{after}
use Rattle.ctss_io.proofs.whole.write_all.Given as goal

-- so much of the text has gone out, and where that is none, no call was made
abbrev pub invariant-writing : goal.invariant-writing
invariant-writing g l = record {
  within : l.done ≤ length l.text;
  sent : g.K.Sink.held l.sink ≡ after (g.K.Sink.held l.fn.sink) (take l.done l.text);
  faults_grow : g.K.Sink.faults l.fn.sink ≤ g.K.Sink.faults l.sink;
  untouched : l.done ≡ 0 → l.sink ≡ l.fn.sink;
}

abbrev pub decreases-writing : goal.decreases-writing
decreases-writing g l = length l.text - l.done
