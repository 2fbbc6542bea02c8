use Rattle.std.proofs.Common.{◌≡◌, ◌++◌, length}
use Rattle.link_model.specs.Modules.{places_in}
use Rattle.bss_loader.proofs.read.places_in.Given as goal

abbrev pub invariant-pairs : goal.invariant-pairs
invariant-pairs l = l.places ++ places_in l.rest ≡ places_in l.fn.words

abbrev pub decreases-pairs : goal.decreases-pairs
decreases-pairs l = length l.rest
