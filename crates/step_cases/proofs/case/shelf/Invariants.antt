use Rattle.std.proofs.Common.{◌≡◌, ◌*◌, length}
use Rattle.step_cases.proofs.case.shelf.Given as goal

abbrev pub invariant-loop-pair : goal.invariant-loop-pair
invariant-loop-pair l = length l.shelf ≡ 256 * l.blocks
