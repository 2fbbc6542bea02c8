use Rattle.std.proofs.Common.{◌≡◌, ◌++◌, length}
use Rattle.link_model.specs.Modules.{entries_in}
use Rattle.bss_loader.proofs.read.entries_in.Given as goal

abbrev pub invariant-pairs : goal.invariant-pairs
invariant-pairs l = l.entries ++ entries_in l.rest ≡ entries_in l.fn.words

abbrev pub decreases-pairs : goal.decreases-pairs
decreases-pairs l = length l.rest
