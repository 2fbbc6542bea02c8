use Rattle.std.proofs.Common.{◌≡◌, ◌++◌, replicate}
use Rattle.link_model.specs.ModuleCards.{cell}
use Rattle.fap_assemble.proofs.cells.add_reserved.Given as goal

abbrev pub invariant-reserving : goal.invariant-reserving
invariant-reserving l = l.places ++ replicate l.left (cell 0 0) ≡ l.fn.places ++ replicate l.count (cell 0 0)

abbrev pub decreases-reserving : goal.decreases-reserving
decreases-reserving l = l.left
