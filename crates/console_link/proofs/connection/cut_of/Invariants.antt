use Rattle.std.proofs.Common.{◌≡◌, drop}
use Rattle.console_link.specs.Memory.{cut_of as first_cut}
use Rattle.console_link.proofs.connection.cut_of.Given as goal

abbrev pub invariant-loop-cut : goal.invariant-loop-cut
invariant-loop-cut l = first_cut l.at l.cuts ≡ first_cut l.at (drop l.cut-index l.cuts)
